-- `removing::swapping::swap_list` meets its contract. Assumes nothing.
use native.Mathlib.Omega.{arith}
use mathlib.Core.Path.{refl}
use Rattle.tag.specs.View.{bytes_of}
use Rattle.model.specs.Edit.{swap}
use Rattle.model.specs.View.{place_of, place_fits}
use Rattle.held.proofs.Laws.Rows.{rows-live}
use Rattle.removing.proofs.Laws.Swept.{swept_start, swept_step}
use Rattle.removing.proofs.Laws.Swapping.{list_swapped}
use Rattle.removing.proofs.swapping.swap_list.Goals as goal

pub loop-i-init : goal.loop-i-init
loop-i-init c =
    let a = c.args in (refl, refl, swept_start place_of (swap (bytes_of a.t) (place_of a.by)) place_fits (place_fits a.by) a.list.now.count a.list.now.places)

pub loop-i-preserved : goal.loop-i-preserved
loop-i-preserved c =
    let a = c.args in
    let live = rows-live place_of a.list.now.places a.list.now.count 3 c.live_places-places.ensures.rows c.live_places-places.ensures.bound in
    let v = c.loop-i.invariant in
    let x = c.place_swapped.ensures in
    (v.0, v.1, swept_step place_of (swap (bytes_of a.t) (place_of a.by)) place_fits (place_fits a.by) a.list.now.count a.list.now.places c.loop-i.list.places c.loop-i.i _ c.place_swapped.result v.2 (omega (arith, live.live)) x.place x.fits)

pub returns : goal.returns
returns c =
    let a = c.args in
    let live = rows-live place_of a.list.now.places a.list.now.count 3 c.live_places-places.ensures.rows c.live_places-places.ensures.bound in
    let v = c.loop-i.invariant in
    list_swapped (bytes_of a.t) a.by a.list.now c.loop-i.list c.loop-i.i v.0 v.1 v.2 (omega (arith, live.live))
