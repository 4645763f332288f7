-- `wires_of` meets its contract. Assumes nothing.
use Rattle.std.proofs.Common.{Some}
use mathlib.Core.Path.{sym, ap, ◌∙◌}
use mathlib.Core.Logic.{inl, inr}
use Rattle.standing.specs.Standing.Owned.{listed}
use Rattle.standing.proofs.Laws.Checks.{list_told, takes, three}
use native.Mathlib.Omega.{arith}
use Rattle.standing.proofs.Components.wires_of.Goals.{else-n-ne0-via-then-n-ne0+else-places-n, else-n-ne0-via-else-n-ne0}
use Rattle.standing.proofs.Components.wires_of.Goals as goal

pub returns : goal.returns
returns c =
    let row = sym (c.in_ok-component_in_row.ensures (omega arith)) in
    let list = list_told _ _ _ _ _ c.list_of.result c.list_of.ensures (ap Some (sym c.in-Some.is) ∙ c.in_ok-list.ensures.value) in
    listed c.in-Some.list list.0 list.1
    (elim c.else-n-ne0.branch [
      | else-n-ne0-via-then-n-ne0+else-places-n w ↦ inr (takes _ _ row c.input_count-n.ensures (sym w.if-places-n.false ∙ c.read_word-places.ensures))
      | else-n-ne0-via-else-n-ne0 w ↦ inl (takes _ _ row c.input_count-n.ensures w.if-n-ne0.false)
    ])
    (three _ c.wire.ensures c.wire-2.ensures c.wire-3.ensures)
