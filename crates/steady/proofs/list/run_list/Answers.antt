-- `run_list` meets its contract. Assumes nothing.
use Rattle.steady.proofs.Laws.Rows.{rest_start, rest_next, rest_none, rest_end}
use Rattle.steady.proofs.list.run_list.Goals.{in-Some, in_default}
use Rattle.steady.proofs.list.run_list.Goals as goal

pub loop-row-init : goal.loop-row-init
loop-row-init c = rw c.as_chunks.ensures.front (rest_start _ _ _)

pub loop-row-preserved : goal.loop-row-preserved
loop-row-preserved c =
    elim c.match-read.branch [
      | in-Some w ↦ rw (w.model-is, w.newest-is) (rest_next _ c.loop-row-test.true c.loop-row.invariant w.in-Some.ensures w.run_change-newest.ensures)
      | in_default w ↦ rw (w.model-is, w.newest-is) (rest_none _ c.loop-row-test.true c.loop-row.invariant w.in_default.ensures)
    ]

pub returns : goal.returns
returns c = rest_end _ c.loop-row-test.false c.loop-row.invariant
