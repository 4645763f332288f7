-- What an edit promises that is made in the bytes themselves. Definitions only.
use Rattle.std.specs.Prelude.{ℕ, ◌≡◌, Bool, true, false, List, Option, Some, None}
use Rattle.std.proofs.Math.Option.{some}
use Rattle.tag.specs.declared.Tag.{Tag}
use Rattle.tag.specs.View.{bytes_of}
use Rattle.model.specs.Model.{Model}
use Rattle.model.specs.Edit.{Edit, Answer, made, apply}
use Rattle.model_bytes.specs.ModelBytes.{model_in}
use Rattle.model_bytes.specs.Calls.{Holds}

-- the bytes s held a model, of which the edit e answers a, and t holds the model after it
pub record Took (e : Edit) (a : Answer) (s t : List ℕ) : Type 0 where
  pub model : Model
  pub is : model_in s ≡ some model
  pub answer : (apply e model).answer ≡ a
  pub holds : Holds (apply e model).model s t

-- so where r is a yes; else nothing is changed. A no says nothing of the edit.
pub record Takes (e : Edit) (a : Answer) (s t : List ℕ) (r : Bool) : Type 0 where
  pub taken : r ≡ true → Took e a s t
  pub left : r ≡ false → t ≡ s

-- so for the tag that is made; else nothing is changed, and nothing is said of the edit
abbrev pub Makes : Edit → List ℕ → List ℕ → Option Tag → Type 0
Makes e s t (Some tag) = Took e (made (bytes_of tag)) s t
Makes e s t None = t ≡ s
