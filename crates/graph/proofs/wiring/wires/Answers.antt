-- `graph::wiring::wires` meets its contract: `Laws/Drawing.antt`. Assumes nothing.
use Rattle.std.proofs.Common.{arith, ℕ, ◌≡◌, ◌+◌, set, length, sym, ap, subst, ◌∙◌}
use Rattle.std.proofs.lemmas.List.{get_or_default}
use Rattle.nodes.specs.Nodes.{target}
use Rattle.nodes.proofs.Laws.Wires.{none_some}
use Rattle.resolving.specs.declared.slots.ListWires.{ListWires}
use Rattle.resolving.specs.Slots.{no_wires}
use Rattle.graph.specs.Wiring.{Wired}
use Rattle.graph.proofs.Laws.Drawing.{wired-start, wired-more}
use Rattle.graph.proofs.wiring.wires.Goals.{in-Some, in_default}
use Rattle.graph.proofs.wiring.wires.Goals as goal

pub loop-list-init : goal.loop-list-init
loop-list-init c = wired-start c.args.lists.now

pub loop-list-preserved : goal.loop-list-preserved
loop-list-preserved c =
    let below = c.loop-list-test.true in
    let same = get_or_default c.args.lists.now c.loop-list.list-index _ no_wires below in
    let node = c.node.ensures ∙ ap (λ (z : ListWires). target z.own) same in
    elim c.match-node.branch [
      | in-Some w ↦ rw w.w-is (subst (λ (z : ListWires). Wired c.args.lists.now (c.loop-list.list-index + 1) (set c.loop-list.w w.in-Some.x z.places)) (sym same)
          (wired-more c.args.lists.now c.loop-list.w (length c.args.lists.now) c.loop-list.list-index c.requires c.loop-list.invariant below w.in-Some.x (sym node ∙ w.in-Some.is)))
      | in_default w ↦ absurd (none_some (sym w.in_default.is ∙ node ∙ (c.requires.small c.loop-list.list-index below).1))
    ]

pub returns : goal.returns
returns c =
    let end : c.loop-list.list-index ≡ length c.args.lists.now = omega (arith, c.loop-list-test.false, c.loop-list.auto.list-index-end) in
    subst (λ (z : ℕ). Wired c.args.lists.now z c.loop-list.w) end c.loop-list.invariant
