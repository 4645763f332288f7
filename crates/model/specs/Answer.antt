-- Document 01's number for each refusal, and what an answer says. Definitions only.
use Rattle.std.specs.Prelude.{◌≡◌, Bool, true, false, ℕ, MatchResult}
use Rattle.std.specs.declared.option.Option.{Option}
use Rattle.std.specs.declared.option.Option.TheVariants.{None, Some}
use Rattle.std.specs.declared.result.Result.{Result}
use Rattle.std.specs.declared.result.Result.TheVariants.{Ok, Err}
use Rattle.tag.specs.declared.Tag.{Tag as Label}
use Rattle.tag.specs.Tags.{Tag}
use Rattle.tag.specs.View.{bytes_of}
use Rattle.component.specs.declared.parameter.ParameterError.{ParameterError}
use Rattle.component.specs.declared.parameter.ParameterError.TheVariants.{DoesNotFit, TooNear}
use Rattle.model.specs.declared.model_error.ModelError.{ModelError}
use Rattle.model.specs.declared.model_error.ModelError.TheVariants.{TagTooLong, IncorrectInputCount, InputIndexOutOfRange, ParameterDoesNotFit, ParameterTooNear, InvalidModel, DuplicateTag, MissingTag, MissingInput, CyclicDependency, ComponentsFull, ListsFull, NumberedTagTooLong}
use Rattle.model.specs.declared.model_error.Refusal.{Refusal}
use Rattle.model.specs.Edit.{Answer, done, made, refused}

abbrev pub number_of : ModelError → ℕ
number_of TagTooLong = 1
number_of IncorrectInputCount = 2
number_of InputIndexOutOfRange = 3
number_of ParameterDoesNotFit = 4
number_of ParameterTooNear = 5
number_of InvalidModel = 7
number_of DuplicateTag = 11
number_of MissingTag = 12
number_of MissingInput = 13
number_of CyclicDependency = 14
number_of ComponentsFull = 15
number_of ListsFull = 16
number_of NumberedTagTooLong = 17

-- a parameter that is not set
abbrev pub unsettled : ParameterError → ModelError
unsettled DoesNotFit = ParameterDoesNotFit
unsettled TooNear = ParameterTooNear

-- a refusal of the code, as document 01's
abbrev pub refusal_of : Refusal → Answer
refusal_of r = refused (number_of r.error) (bytes_of r.tag) r.index

-- and how an edit of the code ends
abbrev pub answer_of : Result (Option Label) Refusal → Answer
answer_of (Ok None) = done
answer_of (Ok (Some t)) = made (bytes_of t)
answer_of (Err r) = refusal_of r

-- a check of the code: passed where b is true, else refused with n, t and i
abbrev pub Checked : {A : Type 0} → Bool → ℕ → Tag → ℕ → Result A Refusal → Type 0
Checked b n t i r = MatchResult r (λ _. b ≡ true) (λ e. (b ≡ false) × (refusal_of e ≡ refused n t i))
