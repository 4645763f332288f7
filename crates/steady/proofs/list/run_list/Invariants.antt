-- `run_list` meets its contract. Assumes nothing.
use Rattle.steady.proofs.Laws.Rows.{Resting}
use Rattle.steady.proofs.list.run_list.Given as goal

abbrev pub invariant-loop-row : goal.invariant-loop-row
invariant-loop-row l = Resting l.s l.rows l.row-index l.initial.model l.target l.model l.newest
