-- `removing::swapping::swap_places` meets its contract. Assumes nothing.
use native.Mathlib.Omega.{arith}
use mathlib.Core.Path.{refl}
use Rattle.tag.specs.View.{bytes_of}
use Rattle.model.specs.View.{place_of, list_of, place_fits, list_fits}
use Rattle.held.proofs.Laws.Rows.{rows-live}
use Rattle.removing.specs.Swapping.{swap_list}
use Rattle.removing.proofs.Laws.Swept.{swept_start, swept_step}
use Rattle.removing.proofs.Laws.Swapping.{places_swapped}
use Rattle.removing.proofs.swapping.swap_places.Goals as goal

pub loop-i-init : goal.loop-i-init
loop-i-init c =
    let a = c.args in
    (refl, refl, refl, refl, swept_start list_of (swap_list (bytes_of a.t) (place_of a.by)) list_fits (place_fits a.by) a.m.now.list_count a.m.now.lists)

pub loop-i-preserved : goal.loop-i-preserved
loop-i-preserved c =
    let a = c.args in
    let live = rows-live list_of a.m.now.lists a.m.now.list_count 128 c.live_lists-lists.ensures.rows c.live_lists-lists.ensures.bound in
    let v = c.loop-i.invariant in
    let x = c.swap_list.ensures in
    (v.0, v.1, v.2, v.3, swept_step list_of (swap_list (bytes_of a.t) (place_of a.by)) list_fits (place_fits a.by) a.m.now.list_count a.m.now.lists c.loop-i.m.lists c.loop-i.i _ c.swap_list.new.list v.4 (omega (arith, live.live)) x.row x.fits)

pub returns : goal.returns
returns c =
    let a = c.args in
    let live = rows-live list_of a.m.now.lists a.m.now.list_count 128 c.live_lists-lists.ensures.rows c.live_lists-lists.ensures.bound in
    let v = c.loop-i.invariant in
    places_swapped (bytes_of a.t) a.by a.m.now c.loop-i.m c.loop-i.i v.0 v.1 v.2 (rw v.3 c.place_swapped-m.ensures) v.4 (omega (arith, live.live))
