-- `read_rows` meets its contract. Assumes nothing.
use Prim.Native.Nat.{ℕ, ◌<◌}
use mathlib.Core.Path.{◌≡◌}
use lib.ListN.{length, get_or}
use Rattle.std.specs.Prelude.{Some}
use Rattle.model_bytes.proofs.decode.read_rows.Given as goal

abbrev pub invariant-loop-i : goal.invariant-loop-i
invariant-loop-i g l = (length l.table ≡ g.row.N) × ((k : ℕ) → k < l.i → goal.F-post g l.fn.read k (Some (get_or l.table k l.fn.unused)))
