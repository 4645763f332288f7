-- `row_of_component` meets its contract. Assumes nothing.
use Rattle.standing.proofs.Laws.Checks.{fitted, row_told}
use Rattle.standing.proofs.row_of_component.Goals as goal

pub returns : goal.returns
returns c = row_told (c.stands.ensures c.if-not-stands.false) (fitted c.try_from.result c.try_from.ensures c.in_ok-ok.ensures.value).0 c.row_of.result c.row_of.ensures
