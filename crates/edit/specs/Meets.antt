-- The contract of every edit. Definitions only.
use Rattle.std.specs.Prelude.{◌≡◌, not, ℕ}
use Rattle.tag.specs.Tags.{Tag, empty}
use Rattle.model.specs.declared.implicit_model.Model.{Model as Record}
use Rattle.model.specs.Model.{Same}
use Rattle.model.specs.Edit.{Edit, refused, Outcome, check, edit}
use Rattle.model.specs.Answer.{answer_of}
use Rattle.model.specs.View.{view, passes}
use Rattle.edit.specs.declared.Edited.{Edited}

-- what an edit of the record m comes to: 7 before all others, then the edit of what m holds
unfoldable pub defined : Edit → Record → Outcome
defined e m = check (view m) (not (passes m)) 7 empty 0 (edit e (view m))

-- The answer is the defined one; the model after holds what the defined one holds, at any table positions; 7 lets it pass exactly if it let the first pass; and a refused edit hands back the very record that came in.
pub record Meets (e : Edit) (m : Record) (r : Edited) : Type 0 where
  pub answer : answer_of r.answer ≡ (defined e m).answer
  pub model : Same (defined e m).model (view r.model)
  pub passing : passes r.model ≡ passes m
  pub kept : {n : ℕ} {t : Tag} {i : ℕ} → answer_of r.answer ≡ refused n t i → r.model ≡ m
