-- `put_places` meets its contract. Assumes nothing.
use Prim.Native.Nat.{◌*◌}
use mathlib.Core.Option.{some}
use Rattle.model.specs.View.{rows, place_of}
use Rattle.rows.specs.Rows.{rows_in, place_row}
use Rattle.rows.specs.Written.{Wrote}
use Rattle.rows.proofs.writing.put_places.Given as goal

abbrev pub invariant-loop-i : goal.invariant-loop-i
invariant-loop-i l = Wrote (λ u. rows_in (place_row u l.at) l.i) (some (rows place_of l.i l.places)) l.at (40 * l.i) l.initial.s l.s
