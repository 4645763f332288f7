-- `remove_input_in` meets its contract. Assumes nothing.
use Rattle.standing.proofs.Laws.Checks.{fitted}
use Rattle.direct_wiring.proofs.Laws.Wiring.{input_removed}
use Rattle.direct_wiring.proofs.remove_input_in.Goals as goal

pub returns : goal.returns
returns c =
    let a = c.args in
    input_removed (c.stands.ensures c.if-not-stands.false) a.tag.now a.index (fitted c.try_from.result c.try_from.ensures c.in_ok-ok.ensures.value).0 c.place_in.ensures
