-- `adding_component::free_tag` meets its contract. Assumes nothing.
use native.Mathlib.Omega.{arith}
use mathlib.Core.Path.{◌≡◌, sym, ◌∙◌, subst}
use Prim.Native.Nat.{ℕ, ◌+◌, ◌-◌}
use lib.ListN.{length}
use Rattle.tag.specs.View.{bytes_of}
use Rattle.model.specs.View.{component_of, components_of}
use Rattle.held.proofs.Laws.Rows.{rows-live}
use Rattle.held.proofs.Laws.Search.{searched}
use Rattle.adding_component.specs.Free.{FreeTag}
use Rattle.adding_component.proofs.Laws.Free.{Trying, record-short, trying_start, trying_next, free-once, free-long, free-found, free-none}
use Rattle.adding_component.proofs.free_tag.Goals as goal

pub returns-then-is_none : goal.returns-then-is_none
returns-then-is_none c = free-once (components_of c.args.m.now) c.args.tag c.requires.short (sym (searched _ c.find_component.ensures) ∙ c.if-is_none.ensures)

pub loop-k-init : goal.loop-k-init
loop-k-init c =
    let live = rows-live component_of _ _ 64 c.live_components.ensures.rows c.live_components.ensures.bound in
    let left : length c.live_components.result.now + 2 - 1 ≡ length c.live_components.result.now + 1 = omega arith in
    subst (λ (n : ℕ). Trying (components_of c.args.m.now) (bytes_of c.args.tag) n 1) (sym left) (trying_start (components_of c.args.m.now) c.args.tag live.live (sym (searched _ c.find_component.ensures) ∙ c.if-is_none.ensures))

pub returns-in_err-numbered : goal.returns-in_err-numbered
returns-in_err-numbered c =
    subst (FreeTag (components_of c.args.m.now) (bytes_of c.args.tag)) (sym c.from_residual.ensures)
    (free-long (components_of c.args.m.now) c.args.tag _ c.loop-k.k c.loop-k.invariant (omega (arith, c.loop-k-test.true)) (record-short c.args.m.now c.requires.passing) c.in_err-numbered.ensures)

pub returns-then-is_none-2 : goal.returns-then-is_none-2
returns-then-is_none-2 c =
    free-found (components_of c.args.m.now) c.args.tag _ c.loop-k.k c.loop-k.invariant (omega (arith, c.loop-k-test.true)) _ c.in_ok-numbered.ensures.1
    (sym (searched _ c.find_component-in-loop-k.ensures) ∙ c.if-is_none-2.ensures)

pub loop-k-preserved : goal.loop-k-preserved
loop-k-preserved c =
    let end = length c.live_components.result.now + 2 in
    let left : end - c.loop-k.k - 1 ≡ end - (c.loop-k.k + 1) = omega arith in
    subst (λ (n : ℕ). Trying (components_of c.args.m.now) (bytes_of c.args.tag) n (c.loop-k.k + 1)) left
    (trying_next (components_of c.args.m.now) c.args.tag _ c.loop-k.k c.loop-k.invariant (omega (arith, c.loop-k-test.true)) _ c.in_ok-numbered.ensures.1
    (sym (searched _ c.find_component-in-loop-k.ensures) ∙ c.if-is_none-2.ensures))

pub returns : goal.returns
returns c = free-none (components_of c.args.m.now) c.args.tag _ c.loop-k.k c.loop-k.invariant (omega (arith, c.loop-k-test.false))
