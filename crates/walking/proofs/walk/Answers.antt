-- `walking::walk` meets its contract. Assumes nothing.
use Rattle.std.proofs.Common.{refl, sym, subst, arith, ◌≤◌, length}
use Rattle.std.proofs.lemmas.Bool.Decides.{nat_tests}
use Rattle.model.specs.View.{lists_of}
use Rattle.model.specs.Walk.{Walked}
use Rattle.held.proofs.Laws.Rows.{no_list}
use Rattle.nodes.specs.Nodes.{Pushed}
use Rattle.nodes.proofs.Laws.Lists.{node_at}
use Rattle.walking.specs.Walking.{Says}
use Rattle.walking.proofs.Laws.Line.{going_start, going_end, first_met, first_scan, scanning_end, scanning_gap, scanning_next}
use Rattle.walking.proofs.walk.Goals as goal

pub walk-init : goal.walk-init
walk-init c = ((λ h. going_start h (subst (λ l. Pushed 128 l c.args.from c.push.new.self) c.new-line.ensures c.push.ensures)), refl)

pub bounds-m-row : goal.bounds-m-row
bounds-m-row c = (node_at c.nodes.ensures.nodes c.nodes.ensures.same c.in-Some.ensures.lookup.3).small

pub offset_bounds-m-row : goal.offset_bounds-m-row
offset_bounds-m-row c = omega (arith, (node_at c.nodes.ensures.nodes c.nodes.ensures.same c.in-Some.ensures.lookup.3).small)

pub walk-smaller : goal.walk-smaller
walk-smaller c = omega (arith, (node_at c.nodes.ensures.nodes c.nodes.ensures.same c.in-Some.ensures.lookup.3).early)

pub loop-i-init : goal.loop-i-init
loop-i-init c =
    let w = c.walk in (
      (λ h. first_scan h (w.invariant.0 h)
          (node_at c.nodes.ensures.nodes c.nodes.ensures.same c.in-Some.ensures.lookup.3) c.if-row-target.false no_list),
      w.invariant.1,
    )

pub loop-i-preserved : goal.loop-i-preserved
loop-i-preserved c =
    let v = c.loop-i in (
      (λ h. scanning_next h (v.invariant.0 h) c.live_places-place-items.ensures.rows c.loop-i-test.true _ c.in-Some-place.is refl c.join.ensures),
      v.invariant.1,
    )

pub walk-preserved : goal.walk-preserved
walk-preserved c =
    let v = c.loop-i in (
      (λ h. scanning_end h (v.invariant.0 h) c.live_places-place-items.ensures.rows c.loop-i-test.false),
      v.invariant.1,
    )

pub returns-then-row-target : goal.returns-then-row-target
returns-then-row-target c =
    let w = c.walk in
    λ h. first_met h (w.invariant.0 h)
    (node_at c.nodes.ensures.nodes c.nodes.ensures.same c.in-Some.ensures.lookup.3) c.if-row-target.true

pub returns-in_default-place : goal.returns-in_default-place
returns-in_default-place c =
    let v = c.loop-i in
    λ h. (
      _,
      _,
      (v.invariant.0 h).row,
      scanning_gap h (v.invariant.0 h) c.live_places-place-items.ensures.rows c.loop-i-test.true _ c.in_default-place.is refl,
    )

pub returns-in_default : goal.returns-in_default
returns-in_default c =
    let w = c.walk in
    let over : length w.line ≤ w.head = let e = c.nodes.ensures.same in let l = c.in_default.ensures.lookup in grind (arith, nat_tests) in
    λ h. subst (λ (a : Walked). Says (lists_of c.args.m.now) w.end-1 a) (sym (going_end h (w.invariant.0 h) over)) w.invariant.1
