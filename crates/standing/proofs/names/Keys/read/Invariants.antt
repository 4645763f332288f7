-- `read` meets its contract. Assumes nothing.
use Rattle.finding.specs.Rows.{row_at}
use Rattle.standing.specs.Names.{Keyed}
use Rattle.standing.proofs.names.Keys.read.Given as goal

abbrev pub invariant-loop-i : goal.invariant-loop-i
invariant-loop-i l = Keyed l.s (row_at l.table) l.i l.of
