-- What holds of each of the kinds with no parameter, the keys being the places of those kinds in the enum. Assumes nothing.
use mathlib.Core.List.{List, [], ◌∷◌}
use Prim.Native.Nat.{ℕ}
use types.Run.{OneOf, miss}
use denote.Enum.Declared.{tag_of}
use Rattle.component.specs.declared.model_component.Component.{Component}
use Rattle.component.specs.declared.model_component.Component.TheVariants.{Constant, Sphere, Torus, Multiply, Add, Subtract, Divide, Lerp, VariableLerp, Remap, BooleanUnion, BooleanIntersection, BooleanDifference, Offset, Thickness}
use Rattle.component.specs.contracts.model_component.Component.{the_type}

-- the kinds with no parameter
abbrev pub plain : List ℕ
plain = 3 ∷ 4 ∷ 5 ∷ 6 ∷ 8 ∷ 10 ∷ 11 ∷ 12 ∷ []

-- what holds of each of them holds of any of them
module _ (P : Component → Type 0) (mul : P Multiply) (add : P Add) (sub : P Subtract) (div : P Divide) (lerp : P VariableLerp) (union : P BooleanUnion) (meet : P BooleanIntersection) (less : P BooleanDifference) where
  pub plain_is : (c : Component) → OneOf plain (tag_of the_type c) → P c
  plain_is (Constant x) h = absurd (miss plain 0 tt h)
  plain_is (Sphere s) h = absurd (miss plain 1 tt h)
  plain_is (Torus s) h = absurd (miss plain 2 tt h)
  plain_is Multiply h = mul
  plain_is Add h = add
  plain_is Subtract h = sub
  plain_is Divide h = div
  plain_is (Lerp f) h = absurd (miss plain 7 tt h)
  plain_is VariableLerp h = lerp
  plain_is (Remap f g t u) h = absurd (miss plain 9 tt h)
  plain_is BooleanUnion h = union
  plain_is BooleanIntersection h = meet
  plain_is BooleanDifference h = less
  plain_is (Offset d) h = absurd (miss plain 13 tt h)
  plain_is (Thickness t) h = absurd (miss plain 14 tt h)
