-- `add_input_in` meets its contract. Assumes nothing.
use mathlib.Core.Path.{subst}
use Rattle.direct.specs.Along.{Clear}
use Rattle.standing.proofs.Laws.Checks.{fitted}
use Rattle.direct_wiring.proofs.Laws.Wiring.{input_added}
use Rattle.direct_wiring.proofs.add_input_in.Goals as goal

pub returns : goal.returns
returns c =
    let a = c.args in
    let source = fitted c.try_from-2.result c.try_from-2.ensures c.in_ok-t.ensures.value in
    input_added c.in_ok-standing.ensures.1 a.target.now a.source.now c.in_ok-target_row.ensures c.in_ok-source_row.ensures a.index _ (fitted c.try_from.result c.try_from.ensures c.in_ok-ok.ensures.value).0 source.0 (subst (λ n. Clear c.in_ok-standing.standing.wires.0 n c.in_ok-target_row.target_row c.in_ok-source_row.source_row) c.count.ensures (c.is_clear.ensures c.if-not-is_clear.false)) source.1 c.place_in.ensures
