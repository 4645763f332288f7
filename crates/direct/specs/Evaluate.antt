-- The number at a point from the bytes of a model. Definitions only.
use Rattle.std.specs.Prelude.{ℕ, ◌≡◌, List}
use Rattle.std.proofs.Math.Option.{some}
use Rattle.tag.specs.Tags.{Tag}
use Rattle.geometry.specs.declared.vec3f.Vec3.{Vec3}
use Rattle.model.specs.Model.{Model}
use Rattle.model.specs.Form.{bits, Evaluated}
use Rattle.model_bytes.specs.ModelBytes.{model_in}

-- the bytes hold a model, and what document 01's `evaluate_at` answers of it is this number's bits
pub record EvaluatesIn (s : List ℕ) (t : Tag) (p : Vec3) (b : ℕ) : Type 0 where
  pub model : Model
  pub is : model_in s ≡ some model
  pub answers : Evaluated model t p (bits b)
