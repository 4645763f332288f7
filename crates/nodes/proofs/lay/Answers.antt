-- `nodes::lay` meets its contract: `Laws/Laying.antt`. Assumes nothing.
use Rattle.std.proofs.Common.{arith, length, length-append, ap, ℕ, ◌≡◌, ◌++◌, [], ◌∷◌}
use Rattle.nodes.proofs.Laws.Laying.{Going, going_start, going_few, going_more, going_stuck, going_done}
use Rattle.nodes.proofs.Laws.Lists.{pushed_new}
use Rattle.nodes.proofs.lay.Goals as goal

pub loop-order-init : goal.loop-order-init
loop-order-init c = rw c.new-order.ensures (going_start c.args.w.now c.args.t)

pub returns-in_err-x : goal.returns-in_err-x
returns-in_err-x c = rw c.from_residual.ensures (going_stuck c.args.w.now c.args.t c.requires.reached c.loop-order.invariant c.requires.node c.in_err-x.ensures (c.contains.ensures.no c.loop-order-test.true))

module _ (c : goal.After-push) where
  grown : c.push.new.self ≡ c.loop-order.order ++ (c.in_ok-x.x ∷ [])
  grown = let (k, n) = c.in_ok-x.ensures in pushed_new c.push.ensures (c.requires.reached.nodes.small _ k) n.0

  more : Going c.args.w.now c.args.t c.push.new.self
  more = let (k, n) = c.in_ok-x.ensures in rw grown (going_more c.args.w.now c.args.t c.requires.reached c.loop-order.invariant k n)

pub loop-order-smaller : goal.loop-order-smaller
loop-order-smaller c = omega (arith, going_few c.args.w.now c.args.t c.requires.node (more c), ap length (grown c), length-append {A = ℕ})

pub loop-order-preserved : goal.loop-order-preserved
loop-order-preserved c = more c

pub returns : goal.returns
returns c = going_done c.args.w.now c.args.t c.loop-order.invariant (c.contains.ensures.yes c.loop-order-test.false)
