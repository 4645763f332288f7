-- `write_lists` meets its contract. Assumes nothing.
use Prim.Native.Nat.{◌*◌}
use mathlib.Core.Option.{some}
use Rattle.model.specs.View.{rows, list_of}
use Rattle.rows.specs.Rows.{rows_in}
use Rattle.model_bytes.specs.ModelBytes.{list_row}
use Rattle.rows.specs.Written.{Wrote}
use Rattle.model_writing.proofs.encode.write_lists.Given as goal

abbrev pub invariant-loop-i : goal.invariant-loop-i
invariant-loop-i l = Wrote (λ u. rows_in (list_row u) l.i) (some (rows list_of l.i l.table)) 5696 (168 * l.i) l.initial.s l.s
