-- `float::root::Normal::root` meets its contract. Assumes nothing.
use native.Mathlib.Omega.{arith}
use Rattle.float.proofs.Laws.RootValues.{no_nan_bits}
use Rattle.float.proofs.root.Normal.root.Goals as goal

pub float_from_bits-m : goal.float_from_bits-m
float_from_bits-m c = no_nan_bits _ (omega arith)
