-- No component takes more than three inputs, and a function takes none. Assumes nothing.
use mathlib.Core.Path.{◌≡◌, refl, sym}
use mathlib.Core.Bool.{true, true≢false}
use lib.Dec.{T, leb}
use Rattle.component.specs.declared.model_component.Component.{Component}
use Rattle.component.specs.declared.model_component.Component.TheVariants.{Constant, Sphere, Torus, Multiply, Add, Subtract, Divide, Lerp, VariableLerp, Remap, BooleanUnion, BooleanIntersection, BooleanDifference, Offset, Thickness}
use Rattle.component.specs.Value.{input_count}
use Rattle.component.specs.Kind.{is_function}

-- no component takes more than three inputs
pub count_few : (c : Component) → T (leb (input_count c) 3)
count_few (Constant v) = tt
count_few (Sphere s) = tt
count_few (Torus s) = tt
count_few Multiply = tt
count_few Add = tt
count_few Subtract = tt
count_few Divide = tt
count_few (Lerp factor) = tt
count_few VariableLerp = tt
count_few (Remap a b c d) = tt
count_few BooleanUnion = tt
count_few BooleanIntersection = tt
count_few BooleanDifference = tt
count_few (Offset distance) = tt
count_few (Thickness t) = tt

-- what `add_function` adds takes no inputs
pub function_none : (c : Component) → is_function c ≡ true → input_count c ≡ 0
function_none (Constant v) e = refl
function_none (Sphere s) e = refl
function_none (Torus s) e = refl
function_none Multiply e = absurd (true≢false (sym e))
function_none Add e = absurd (true≢false (sym e))
function_none Subtract e = absurd (true≢false (sym e))
function_none Divide e = absurd (true≢false (sym e))
function_none (Lerp factor) e = absurd (true≢false (sym e))
function_none VariableLerp e = absurd (true≢false (sym e))
function_none (Remap a b c d) e = absurd (true≢false (sym e))
function_none BooleanUnion e = absurd (true≢false (sym e))
function_none BooleanIntersection e = absurd (true≢false (sym e))
function_none BooleanDifference e = absurd (true≢false (sym e))
function_none (Offset distance) e = absurd (true≢false (sym e))
function_none (Thickness t) e = absurd (true≢false (sym e))
