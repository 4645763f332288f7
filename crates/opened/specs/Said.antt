-- What every call that reads a model shares: the model that bytes hold, and the report. Definitions only.
use Rattle.std.specs.Prelude.{ℕ, ◌≡◌, cond, List, Some, Result, Ok, Err}
use Rattle.std.proofs.Math.Option.{Option, none, some}
use Rattle.tag.specs.Tags.{Tag, empty}
use Rattle.model.specs.declared.implicit_model.Model.{Model as Record}
use Rattle.model.specs.Model.{Model, valid}
use Rattle.model.specs.declared.model_error.Refusal.{Refusal}
use Rattle.model.specs.Answer.{refusal_of}
use Rattle.model.specs.Edit.{refused}
use Rattle.model.specs.View.{view}
use Rattle.model_bytes.specs.ModelBytes.{model_in}
use Rattle.model_bytes.specs.Calls.{Decodes}
use Rattle.report.specs.Report.{Report, reported, of_answer}

abbrev pub let_pass : Option Model → Option Model
let_pass none = none
let_pass (some m) = cond (valid m) (some m) none

-- the model that the bytes hold, where 7 lets it pass
unfoldable pub held_in : List ℕ → Option Model
held_in s = let_pass (model_in s)

-- ---- reports

-- a code alone
abbrev pub plain : ℕ → Report
plain n = record { code = n; index = 0; tag = empty; number = 0 }

-- a tag and a number answered
abbrev pub answered : Tag → ℕ → Report
answered t n = record { code = 0; index = 0; tag = t; number = n }

-- a number answered, or a refusal
abbrev pub of_number : Result ℕ Refusal → Report
of_number (Ok n) = answered empty n
of_number (Err r) = of_answer (refusal_of r)

-- the report is written into `out`, which is `after` then, and its code is answered
pub record Says (r : Report) (out after : List ℕ) (code : ℕ) : Type 0 where
  pub report : after ≡ reported out r
  pub answer : code ≡ r.code

-- ---- what the helpers promise

-- opened: a record of the model that the bytes hold and 7 lets pass; or that there is none, and 7
abbrev pub Opens : List ℕ → Result Record Refusal → Type 0
Opens s (Err r) = (held_in s ≡ none) × (refusal_of r ≡ refused 7 empty 0)
Opens s (Ok m) = held_in s ≡ some (view m)

-- read_model: a record of the model that the bytes hold; or that they hold none, and 7
abbrev pub Reads : List ℕ → Result Record Refusal → Type 0
Reads s (Err r) = (model_in s ≡ none) × (refusal_of r ≡ refused 7 empty 0)
Reads s (Ok m) = Decodes s (Some m)
