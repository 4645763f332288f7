-- What several kinds at once answer, the keys being the places of those kinds in the enum. Assumes nothing.
use mathlib.Core.Path.{◌≡◌, refl}
use mathlib.Core.List.{List, [], ◌∷◌}
use Prim.Native.Nat.{ℕ}
use lib.Ieee.{Float}
use types.Run.{OneOf, miss}
use denote.Enum.Declared.{tag_of}
use Rattle.std.specs.Prelude.{Err}
use Rattle.geometry.specs.declared.vec3f.Vec3.{Vec3}
use Rattle.component.specs.Parameter.{Name, set_value, set_vec3}
use Rattle.component.specs.declared.parameter.ParameterError.TheVariants.{DoesNotFit}
use Rattle.component.specs.declared.model_component.Component.{Component}
use Rattle.component.specs.declared.model_component.Component.TheVariants.{Constant, Sphere, Torus, Multiply, Add, Subtract, Divide, Lerp, VariableLerp, Remap, BooleanUnion, BooleanIntersection, BooleanDifference, Offset, Thickness}
use Rattle.component.specs.contracts.model_component.Component.{the_type}
use Rattle.component.proofs.Arms.{plain, plain_is}

-- all but the sphere and the torus
abbrev pub uncentred : List ℕ
uncentred = 0 ∷ 3 ∷ 4 ∷ 5 ∷ 6 ∷ 7 ∷ 8 ∷ 9 ∷ 10 ∷ 11 ∷ 12 ∷ 13 ∷ 14 ∷ []

-- a kind with no parameter takes no value
pub plain_value : (c : Component) (n : Name) (v : Float) → OneOf plain (tag_of the_type c) → Err DoesNotFit ≡ set_value c n v
unfolding set_value
plain_value c n v h = plain_is (λ k. Err DoesNotFit ≡ set_value k n v) refl refl refl refl refl refl refl refl c h

-- a kind with no centre takes no vector
pub uncentred_vec3 : (c : Component) (n : Name) (v : Vec3) → OneOf uncentred (tag_of the_type c) → Err DoesNotFit ≡ set_vec3 c n v
unfolding set_vec3
uncentred_vec3 (Constant x) n v h = refl
uncentred_vec3 (Sphere s) n v h = absurd (miss uncentred 1 tt h)
uncentred_vec3 (Torus s) n v h = absurd (miss uncentred 2 tt h)
uncentred_vec3 Multiply n v h = refl
uncentred_vec3 Add n v h = refl
uncentred_vec3 Subtract n v h = refl
uncentred_vec3 Divide n v h = refl
uncentred_vec3 (Lerp f) n v h = refl
uncentred_vec3 VariableLerp n v h = refl
uncentred_vec3 (Remap f g t u) n v h = refl
uncentred_vec3 BooleanUnion n v h = refl
uncentred_vec3 BooleanIntersection n v h = refl
uncentred_vec3 BooleanDifference n v h = refl
uncentred_vec3 (Offset d) n v h = refl
uncentred_vec3 (Thickness t) n v h = refl
