-- `put_places` meets its contract. Assumes nothing.
use native.Mathlib.Omega.{arith}
use mathlib.Core.Path.{◌≡◌, subst}
use mathlib.Core.List.{map}
use mathlib.Core.Option.{some}
use Prim.Native.Nat.{◌*◌}
use lib.ListN.{length}
use lib.Seq.{take-length}
use Rattle.model.specs.View.{rows, place_of}
use Rattle.rows.specs.Rows.{rows_in, place_row}
use Rattle.rows.specs.Written.{Wrote}
use Rattle.rows.proofs.Laws.Writing.{places-none, places-more}
use Rattle.rows.proofs.writing.put_places.Goals as goal

pub loop-i-init : goal.loop-i-init
loop-i-init c = places-none _ _ _

pub loop-i-preserved : goal.loop-i-preserved
loop-i-preserved c = places-more _ c.args.places.now (omega arith) c.loop-i.invariant c.put_place.ensures

pub returns : goal.returns
unfolding rows
returns c =
    let ps = c.args.places.now in
    let all : c.loop-i.i ≡ length ps = omega arith in
    subst (λ qs. Wrote (λ u. rows_in (place_row u c.args.at) (length ps)) (some (map place_of qs)) c.args.at (40 * length ps) c.args.s.now c.loop-i.s) (take-length ps)
    (subst (λ k. Wrote (λ u. rows_in (place_row u c.args.at) k) (some (rows place_of k ps)) c.args.at (40 * k) c.args.s.now c.loop-i.s) all c.loop-i.invariant)
