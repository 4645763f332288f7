-- `component::parameter::clamped` meets its contract. Assumes nothing.
use Rattle.std.specs.Float.Ieee.{of_bits, le}
use Rattle.component.specs.Parameter.{clamped}
use Rattle.component.proofs.parameter.clamped.Goals as goal

pub clamp-requires : goal.clamp-requires
unfolding of_bits le
clamp-requires c = tt

pub returns : goal.returns
unfolding clamped of_bits
returns c = c.clamp.ensures.value
