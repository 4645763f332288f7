-- `write_components` meets its contract. Assumes nothing.
use Prim.Native.Nat.{◌*◌}
use mathlib.Core.Option.{some}
use Rattle.model.specs.View.{rows, component_of}
use Rattle.rows.specs.Rows.{rows_in}
use Rattle.model_bytes.specs.ModelBytes.{entry_row}
use Rattle.rows.specs.Written.{Wrote}
use Rattle.model_writing.proofs.encode.write_components.Given as goal

abbrev pub invariant-loop-i : goal.invariant-loop-i
invariant-loop-i l = Wrote (λ u. rows_in (entry_row u) l.i) (some (rows component_of l.i l.table)) 64 (88 * l.i) l.initial.s l.s
