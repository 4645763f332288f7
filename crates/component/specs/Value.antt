-- Document 01, "The value of one operation": how many inputs each kind takes, and its value on their numbers. Definitions only.
use Rattle.std.specs.Prelude.{ℕ, false, pos, Float}
use Rattle.std.specs.Float.{fin}
use Rattle.std.specs.Float.Ieee.{neg}
use Rattle.float.specs.Extrema.{minimum_number, maximum_number}
use Rattle.geometry.specs.declared.vec3f.Vec3.{Vec3}
use Rattle.geometry.specs.Operations.{◌⊕◌, ◌⊖◌, ◌⊗◌, ◌⊘◌}
use Rattle.shapes.specs.Distance.{to_sphere, to_torus}
use Rattle.component.specs.declared.model_component.Component.{Component}
use Rattle.component.specs.declared.model_component.Component.TheVariants.{Constant, Sphere, Torus, Multiply, Add, Subtract, Divide, Lerp, VariableLerp, Remap, BooleanUnion, BooleanIntersection, BooleanDifference, Offset, Thickness}

abbrev pub two : Float
two = fin false 1 (pos 1)

-- Document 01's counts, read off each `eval` of the Rust. A constant, a sphere and a torus take none.
abbrev pub input_count : Component → ℕ
input_count (Constant v) = 0
input_count (Sphere s) = 0
input_count (Torus s) = 0
input_count Multiply = 2
input_count Add = 2
input_count Subtract = 2
input_count Divide = 2
input_count (Lerp factor) = 2
input_count VariableLerp = 3
input_count (Remap fromMin fromMax toMin toMax) = 1
input_count BooleanUnion = 2
input_count BooleanIntersection = 2
input_count BooleanDifference = 2
input_count (Offset distance) = 1
input_count (Thickness t) = 1

-- the number of a component at a point, where a, b, c are the numbers of its inputs 0, 1, 2
unfoldable pub compute : Component → Vec3 → Float → Float → Float → Float
compute (Constant v) p a b c = v
compute (Sphere s) p a b c = to_sphere s p.x p.y p.z
compute (Torus s) p a b c = to_torus s p.x p.y p.z
compute Multiply p a b c = a ⊗ b
compute Add p a b c = a ⊕ b
compute Subtract p a b c = a ⊖ b
compute Divide p a b c = a ⊘ b
compute (Lerp factor) p a b c = a ⊕ factor ⊗ (b ⊖ a)
compute VariableLerp p a b c = a ⊕ c ⊗ (b ⊖ a)
compute (Remap fromMin fromMax toMin toMax) p a b c = let n = (a ⊖ fromMin) ⊘ (fromMax ⊖ fromMin) in toMin ⊕ n ⊗ (toMax ⊖ toMin)
compute BooleanUnion p a b c = minimum_number a b
compute BooleanIntersection p a b c = maximum_number a b
compute BooleanDifference p a b c = maximum_number a (neg b)
compute (Offset distance) p a b c = a ⊖ distance
compute (Thickness t) p a b c = maximum_number (a ⊖ t ⊘ two) (neg (a ⊕ t ⊘ two))
