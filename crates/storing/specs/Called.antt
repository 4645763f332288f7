-- What a call promises that makes an edit of a model in bytes. Definitions only.
use Rattle.std.specs.Prelude.{ℕ, ◌≡◌, List}
use Rattle.std.proofs.Math.Option.{Option, none, some}
use Rattle.tag.specs.Tags.{Tag, empty}
use Rattle.model.specs.Model.{Model}
use Rattle.model.specs.Edit.{Edit, Answer, refused, apply}
use Rattle.model_bytes.specs.ModelBytes.{model_in}
use Rattle.model_bytes.specs.Calls.{Holds}
use Rattle.report.specs.Report.{reported, of_answer}

-- bytes that hold no model are 7
abbrev pub answer_in : Edit → Option Model → Answer
answer_in e none = refused 7 empty 0
answer_in e (some m) = (apply e m).answer

-- The edit e was asked of the model in the bytes s, which are t after it; `out` became `after`, and the call returned r.
pub record Called (e : Edit) (s t out after : List ℕ) (r : ℕ) : Type 0 where
  pub code : r ≡ (of_answer (answer_in e (model_in s))).code
  pub report : after ≡ reported out (of_answer (answer_in e (model_in s)))
  -- 0 is no refusal's number
  pub apart : {n : ℕ} {u : Tag} {i : ℕ} → answer_in e (model_in s) ≡ refused n u i → r ≡ 0 → ⊥
  -- taken: the bytes hold the defined model
  pub model : (m : Model) → model_in s ≡ some m → r ≡ 0 → Holds (apply e m).model s t
  -- refused: not one byte of the model is changed
  pub kept : (r ≡ 0 → ⊥) → t ≡ s
