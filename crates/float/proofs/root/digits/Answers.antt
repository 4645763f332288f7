-- `float::root::digits` meets its contract. The invariant is `Digit` of `Laws/Digit.antt`, the measure the turns left. Assumes nothing.
use native.Mathlib.Omega.{arith}
use Rattle.float.proofs.Laws.Digit.{root_lt, rem_lt, step_no, step_yes}
use Rattle.float.proofs.root.digits.Goals as goal
use Rattle.float.proofs.root.digits.Goals.{then-more-trial, else-more-trial}

pub overflow_mul-more : goal.overflow_mul-more
overflow_mul-more c =
    omega (arith, rem_lt _ _ _ _ _ c.loop.invariant, root_lt _ _ _ _ _ c.loop.invariant, c.loop.invariant.word)

pub overflow_add-more : goal.overflow_add-more
overflow_add-more c =
    omega (arith, rem_lt _ _ _ _ _ c.loop.invariant, root_lt _ _ _ _ _ c.loop.invariant, c.loop.invariant.word)

pub overflow_mul-trial : goal.overflow_mul-trial
overflow_mul-trial c =
    omega (arith, rem_lt _ _ _ _ _ c.loop.invariant, root_lt _ _ _ _ _ c.loop.invariant, c.loop.invariant.word)

pub overflow_add-trial : goal.overflow_add-trial
overflow_add-trial c =
    omega (arith, rem_lt _ _ _ _ _ c.loop.invariant, root_lt _ _ _ _ _ c.loop.invariant, c.loop.invariant.word)

pub loop-preserved : goal.loop-preserved
loop-preserved c =
    elim c.if-more-trial.branch [
      | then-more-trial w ↦ rw (w.root-is, w.rem-is) (step_no _ _ _ _ _ c.loop.invariant c.loop-test.true w.if-more-trial.true)
      | else-more-trial w ↦ rw (w.root-is, w.rem-is) (step_yes _ _ _ _ _ c.loop.invariant c.loop-test.true w.if-more-trial.false)
    ]
