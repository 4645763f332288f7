-- `component::math::thickness` meets its contract. Assumes nothing.
use Rattle.std.specs.Float.Ieee.{of_bits}
use Rattle.component.proofs.math.thickness.Goals as goal

pub returns : goal.returns
unfolding of_bits
returns c = c.max.ensures
