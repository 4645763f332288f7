-- Which kind a component is of: a constant, a function (a sphere or a torus), or an operation. Definitions only.
use Rattle.std.specs.Prelude.{Bool, true, false, ltb}
use Rattle.component.specs.declared.model_component.Component.{Component}
use Rattle.component.specs.declared.model_component.Component.TheVariants.{Constant, Sphere, Torus, Multiply, Add, Subtract, Divide, Lerp, VariableLerp, Remap, BooleanUnion, BooleanIntersection, BooleanDifference, Offset, Thickness}
use Rattle.component.specs.Value.{input_count}

-- Document 01's operation: a component that takes inputs.
abbrev pub is_operation : Component → Bool
is_operation c = ltb 0 (input_count c)

-- what `add_function` adds: a sphere or a torus
abbrev pub is_function : Component → Bool
is_function (Constant v) = false
is_function (Sphere s) = true
is_function (Torus s) = true
is_function Multiply = false
is_function Add = false
is_function Subtract = false
is_function Divide = false
is_function (Lerp factor) = false
is_function VariableLerp = false
is_function (Remap fromMin fromMax toMin toMax) = false
is_function BooleanUnion = false
is_function BooleanIntersection = false
is_function BooleanDifference = false
is_function (Offset distance) = false
is_function (Thickness t) = false
