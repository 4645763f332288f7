-- How a call on a model ends. Definitions only.
use Rattle.std.specs.Prelude.{◌≡◌, ℕ}
use Rattle.tag.specs.Tags.{Tag}
use Rattle.model.specs.declared.implicit_model.Model.{Model as Record}
use Rattle.model.specs.Edit.{Answer, refused}
use Rattle.model.specs.Answer.{answer_of}
use Rattle.edit.specs.declared.Edited.{Edited}

-- with the answer a, and the record n
pub record Ends (a : Answer) (n : Record) (r : Edited) : Type 0 where
  pub model : r.model ≡ n
  pub answer : answer_of r.answer ≡ a

-- refused with n, the tag and the index, and with the very record that came in
abbrev pub Refused : Record → ℕ → Tag → ℕ → Edited → Type 0
Refused m n t i r = Ends (refused n t i) m r
