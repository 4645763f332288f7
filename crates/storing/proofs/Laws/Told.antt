-- No refusal has the number 0. Assumes nothing.
use Rattle.std.specs.Prelude.{Option, Some, None, Result, Ok, Err}
use Prim.Native.Nat.{ℕ}
use mathlib.Core.Path.{◌≡◌, ◌∙◌}
use native.Mathlib.Omega.{arith}
use Rattle.tag.specs.declared.Tag.{Tag as Label}
use Rattle.tag.specs.Tags.{Tag}
use Rattle.model.specs.declared.model_error.ModelError.{ModelError}
use Rattle.model.specs.declared.model_error.ModelError.TheVariants.{TagTooLong, IncorrectInputCount, InputIndexOutOfRange, ParameterDoesNotFit, ParameterTooNear, InvalidModel, DuplicateTag, MissingTag, MissingInput, CyclicDependency, ComponentsFull, ListsFull, NumberedTagTooLong}
use Rattle.model.specs.declared.model_error.Refusal.{Refusal}
use Rattle.model.specs.Edit.{refused}
use Rattle.model.specs.Answer.{number_of, answer_of}

number-apart : (e : ModelError) → number_of e ≡ 0 → ⊥
number-apart TagTooLong h = omega arith
number-apart IncorrectInputCount h = omega arith
number-apart InputIndexOutOfRange h = omega arith
number-apart ParameterDoesNotFit h = omega arith
number-apart ParameterTooNear h = omega arith
number-apart InvalidModel h = omega arith
number-apart DuplicateTag h = omega arith
number-apart MissingTag h = omega arith
number-apart MissingInput h = omega arith
number-apart CyclicDependency h = omega arith
number-apart ComponentsFull h = omega arith
number-apart ListsFull h = omega arith
number-apart NumberedTagTooLong h = omega arith

pub answer-apart : (a : Result (Option Label) Refusal) {n j : ℕ} {u : Tag} → answer_of a ≡ refused n u j → n ≡ 0 → ⊥
answer-apart (Ok None) h z = let k : ◌≡◌ {A = ℕ} 0 1 = cc in omega arith
answer-apart (Ok (Some t)) h z = let k : ◌≡◌ {A = ℕ} 0 1 = cc in omega arith
answer-apart (Err e) {n} h z = number-apart e.error (let k : number_of e.error ≡ n = cc in k ∙ z)
