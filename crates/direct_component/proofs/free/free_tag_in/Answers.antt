-- `direct_component::free::free_tag_in` meets its contract. Assumes nothing.
use native.Mathlib.Omega.{arith}
use mathlib.Core.Path.{sym, subst}
use Rattle.tag.specs.View.{bytes_of}
use Rattle.direct_component.specs.Free.{FirstFreeIn}
use Rattle.direct_component.proofs.Laws.Free.{at_once, start, nowhere, too_long, here, next}
use Rattle.direct_component.proofs.free.free_tag_in.Goals as goal

pub returns-then-is_free : goal.returns-then-is_free
returns-then-is_free c = at_once c.args.s.now c.args.t c.is_free.ensures c.if-is_free.true c.requires

pub loop-k-init : goal.loop-k-init
loop-k-init c = start c.args.s.now c.args.t c.is_free.ensures c.if-is_free.false

pub returns-in_err-u : goal.returns-in_err-u
returns-in_err-u c =
    subst (FirstFreeIn c.args.s.now (bytes_of c.args.t)) (sym c.from_residual.ensures)
    (too_long c.args.s.now c.args.t c.loop-k.k c.loop-k.invariant (omega (arith, c.count-k-end.ensures)) c.in_err-u.ensures)

pub returns-then-is_free-2 : goal.returns-then-is_free-2
returns-then-is_free-2 c =
    here c.args.s.now c.args.t c.loop-k.k c.loop-k.invariant (omega (arith, c.count-k-end.ensures)) _ c.in_ok-u.ensures.1 c.is_free-in-loop-k.ensures c.if-is_free-2.true

pub loop-k-preserved : goal.loop-k-preserved
loop-k-preserved c =
    next c.args.s.now c.args.t c.loop-k.k c.loop-k.invariant (omega (arith, c.count-k-end.ensures)) _ c.in_ok-u.ensures.1 c.is_free-in-loop-k.ensures c.if-is_free-2.false

pub returns : goal.returns
returns c = nowhere c.args.s.now c.args.t c.loop-k.k c.loop-k.invariant (omega (arith, c.count-k-end.ensures))
