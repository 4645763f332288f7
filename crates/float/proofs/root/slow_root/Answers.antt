-- `float::root::slow_root` meets its contract: what `pattern` promises. Assumes nothing.
use native.Mathlib.Omega.{arith}
use Rattle.float.proofs.Laws.RootValues.{no_nan_bits, pattern_root}
use Rattle.float.proofs.root.slow_root.Goals as goal

pub float_from_bits-result : goal.float_from_bits-result
float_from_bits-result c = no_nan_bits c.pattern.result (omega (arith, c.pattern.ensures.hi))

pub returns : goal.returns
returns c = pattern_root c.args.b c.pattern.result c.requires.0 c.requires.1 c.pattern.ensures
