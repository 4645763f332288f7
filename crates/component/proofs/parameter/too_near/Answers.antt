-- `component::parameter::too_near` meets its contract. Assumes nothing.
use Rattle.std.proofs.Common.{◌≡◌, refl, ap, ◌∙◌, true, false}
use Rattle.std.specs.Prelude.{Float}
use Rattle.std.specs.Float.{nan, inf, fin, float_with_sign}
use Rattle.std.specs.Float.Ieee.{of_bits, lt, neg}
use Rattle.component.specs.Parameter.{too_near, epsilon, size_of}
use Rattle.component.proofs.parameter.too_near.Goals as goal

-- `abs` is the size: of -0 it is +0
sized : (d : Float) → float_with_sign false d ≡ size_of d
unfolding float_with_sign neg
sized nan = refl
sized (inf true) = refl
sized (inf false) = refl
sized (fin true m e) = refl
sized (fin false m e) = refl

pub returns : goal.returns
unfolding too_near of_bits
returns c = ap (λ d. lt d epsilon) (c.abs.ensures.value ∙ sized _)
