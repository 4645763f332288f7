-- What stands behind the word of a kind.
use Rattle.std.specs.Prelude.{ℕ}
use Rattle.component.specs.declared.model_component.Component.{Component}
use Rattle.component.specs.declared.model_component.Component.TheVariants.{Constant, Sphere, Torus, Multiply, Add, Subtract, Divide, Lerp, VariableLerp, Remap, BooleanUnion, BooleanIntersection, BooleanDifference, Offset, Thickness}

-- how many numbers
abbrev pub numbers_of : Component → ℕ
numbers_of (Constant v) = 1
numbers_of (Sphere s) = 4
numbers_of (Torus s) = 5
numbers_of Multiply = 0
numbers_of Add = 0
numbers_of Subtract = 0
numbers_of Divide = 0
numbers_of (Lerp factor) = 1
numbers_of VariableLerp = 0
numbers_of (Remap a b c d) = 4
numbers_of BooleanUnion = 0
numbers_of BooleanIntersection = 0
numbers_of BooleanDifference = 0
numbers_of (Offset distance) = 1
numbers_of (Thickness t) = 1
