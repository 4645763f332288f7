-- `evaluate_in` meets its contract. Assumes nothing.
use mathlib.Core.Path.{sym, subst}
use Rattle.standing.specs.Standing.{Stands}
use Rattle.direct.specs.Evaluate.{EvaluatesIn}
use Rattle.direct.proofs.Laws.Answer.{answered}
use Rattle.direct.proofs.evaluate.evaluate_in.Goals as goal

pub returns : goal.returns
returns c =
    let a = c.args in
    let standing = c.in_ok-standing.standing in
    let (same, there) = c.in_ok-standing.ensures in
    let here = subst (λ s. Stands s standing.keys.count standing.wires.0) (sym same) there in
    subst (λ s. EvaluatesIn s a.target.now a.p c.bits_of.result) same (answered here c.in_ok-t.ensures (c.in_ok-number.ensures here) c.bits_of.ensures)
