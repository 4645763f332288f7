-- `write_tags` meets its contract. Assumes nothing.
use Prim.Native.Nat.{◌*◌}
use mathlib.Core.Option.{some}
use Rattle.model.specs.View.{rows}
use Rattle.graph.specs.Compile.{tag_at}
use Rattle.rows.specs.Rows.{rows_in}
use Rattle.rows.specs.Written.{Wrote}
use Rattle.compiling.specs.Order.{tag_row}
use Rattle.compiling.proofs.write_tags.Given as goal

abbrev pub invariant-loop-i : goal.invariant-loop-i
invariant-loop-i l = Wrote (λ u. rows_in (tag_row u) l.i) (some (rows (tag_at l.m) l.i l.g.order)) 0 (40 * l.i) l.initial.order l.order
