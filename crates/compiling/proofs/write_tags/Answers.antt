-- `write_tags` meets its contract. Assumes nothing.
use Rattle.std.proofs.Common.{arith, ℕ, ◌≡◌, ◌*◌, ap, length, subst}
use mathlib.Core.Option.{some}
use Rattle.model.specs.View.{rows}
use Rattle.graph.specs.Compile.{tag_at}
use Rattle.rows.specs.Rows.{rows_in}
use Rattle.rows.specs.Written.{Wrote}
use Rattle.compiling.specs.Order.{tag_row}
use Rattle.evaluating.proofs.Laws.Along.{small_at}
use Rattle.compiling.proofs.Laws.Order.{tags-none, tags-next}
use Rattle.compiling.proofs.write_tags.Goals as goal

pub loop-i-init : goal.loop-i-init
loop-i-init c = tags-none c.args.m.now c.args.g.now c.requires.0 _

pub offset_bounds-m-x : goal.offset_bounds-m-x
offset_bounds-m-x c = omega (arith, small_at c.args.m.now c.args.g.now c.requires.0.target c.requires.0.compiled c.positions-x-items.ensures c.loop-i.i c.loop-i-test.true)

pub bounds-m-x : goal.bounds-m-x
bounds-m-x c = small_at c.args.m.now c.args.g.now c.requires.0.target c.requires.0.compiled c.positions-x-items.ensures c.loop-i.i c.loop-i-test.true

pub loop-i-preserved : goal.loop-i-preserved
loop-i-preserved c =
    tags-next c.args.m.now c.args.g.now c.requires.0 c.positions-x-items.ensures c.loop-i-test.true c.loop-i.invariant
    (c.write_tag.ensures.wrote (omega (arith, c.loop-i.invariant.kept.size, c.requires.1, c.requires.0.compiled.few, c.loop-i-test.true, ap length c.positions-x-items.ensures, c.requires.0.compiled.counted)))

pub shape_of-order : goal.shape_of-order
shape_of-order c = c.loop-i.invariant.kept.size

pub returns : goal.returns
returns c =
    let end : c.loop-i.i ≡ c.args.g.now.count = omega (arith, c.loop-i-test.false, c.loop-i.auto, ap length c.positions-x-items.ensures, c.requires.0.compiled.counted) in
    subst (λ (k : ℕ). Wrote (λ u. rows_in (tag_row u) k) (some (rows (tag_at c.args.m.now) k c.args.g.now.order)) 0 (40 * k) c.args.order.now c.loop-i.order) end c.loop-i.invariant
