-- `sound_lists::list_sound` meets its contract: test by test, by `Laws/Lists.antt`. Assumes nothing.
use mathlib.Core.Path.{sym, ◌∙◌}
use mathlib.Core.Bool.{true≢false}
use native.Mathlib.Omega.{arith}
use Rattle.std.proofs.Common.{rules}
use Rattle.std.proofs.lemmas.Grind.{common_steps}
use Rattle.std.proofs.lemmas.Iterator.{YieldsList-from_slice}
use Rattle.std.proofs.lemmas.Iterator.Search.{all_from_yields_List}
use Rattle.tag.proofs.Laws.View.{fits_len}
use Rattle.model.specs.View.{place_fits}
use Rattle.held.proofs.Laws.Rows.{every_rows}
use Rattle.sound_lists.proofs.Laws.Lists.{seen-length, list-long, list-outside, list-sound}
use Rattle.sound_lists.proofs.list_sound.Goals as goal
use Rattle.sound_lists.proofs.list_sound.Goals.{then-fits, else-fits}

pub returns-then-contains : goal.returns-then-contains
returns-then-contains c =
    let l = c.args.l.now in
    let places = c.live_places-places.result.now in
    all_from_yields_List place_fits _ _ _ c.all.ensures.ran (YieldsList-from_slice places cc) (λ x b q k. search rules)
    ∙ (every_rows place_fits l.places l.«count» c.live_places-places.ensures.rows
    ∙ elim c.if-fits.branch [
      | then-fits w ↦ list-sound l (seen-length l c.live_places-places.ensures.rows c.live_places-places.ensures.bound) (fits_len l.tag (sym c.fits.ensures ∙ w.if-fits.true)) (grind (arith, common_steps)) (grind (arith, common_steps))
      | else-fits w ↦ absurd (true≢false (sym c.if-contains.true ∙ (w.value-is ∙ w.if-fits.false)))
    ])

pub returns-else-contains : goal.returns-else-contains
returns-else-contains c =
    let l = c.args.l.now in
    let size = seen-length l c.live_places-places.ensures.rows c.live_places-places.ensures.bound in
    c.if-contains.false ∙ elim c.if-fits.branch [
      | then-fits w ↦ list-outside l size (λ a b. grind (arith, common_steps))
      | else-fits w ↦ list-long l size (sym c.fits.ensures ∙ w.if-fits.false)
    ]
