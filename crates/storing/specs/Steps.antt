-- What the helpers of the calls promise. Definitions only.
use Rattle.std.specs.Prelude.{ℕ, ◌≡◌, Bool, List, length}
use Rattle.model.specs.declared.implicit_model.Model.{Model as Record}
use Rattle.model.specs.Edit.{Answer}
use Rattle.model.specs.Form.{Reply}
use Rattle.model.specs.Answer.{answer_of}
use Rattle.edit.specs.declared.Edited.{Edited}
use Rattle.model_writing.specs.Calls.{Encodes}
use Rattle.report.specs.Report.{Report, reported, of_answer, of_reply}

-- the report x was written over `out`, and its code returned
pub record Reported (x : Report) (out after : List ℕ) (r : ℕ) : Type 0 where
  pub code : r ≡ x.code
  pub report : after ≡ reported out x

abbrev pub Told : Answer → List ℕ → List ℕ → ℕ → Type 0
Told a out after r = Reported (of_answer a) out after r

abbrev pub Replied : Reply → List ℕ → List ℕ → ℕ → Type 0
Replied a out after r = Reported (of_reply a) out after r

-- the record n was encoded into s, which is t after it; its tables have their sizes
pub record Put (n : Record) (s t : List ℕ) : Type 0 where
  pub ok : Bool
  pub encodes : Encodes n s t ok
  pub components : length n.components ≡ 64
  pub lists : length n.lists ≡ 128

-- it was, where the call returned 0; else nothing was written
pub record Written (n : Record) (s t : List ℕ) (r : ℕ) : Type 0 where
  pub taken : r ≡ 0 → Put n s t
  pub kept : (r ≡ 0 → ⊥) → t ≡ s

-- what a call does with an edited model
pub record Stored (x : Edited) (s t out after : List ℕ) (r : ℕ) : Type 0 where
  pub told : Told (answer_of x.answer) out after r
  pub written : Written x.model s t r
