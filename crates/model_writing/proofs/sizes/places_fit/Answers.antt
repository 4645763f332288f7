-- `places_fit` meets its contract. Assumes nothing.
use mathlib.Core.Path.{◌∙◌}
use Rattle.std.proofs.Common.{rules}
use Rattle.std.proofs.lemmas.Iterator.{YieldsList-from_slice}
use Rattle.std.proofs.lemmas.Iterator.Search.{all_from_yields_List}
use Rattle.model.specs.View.{place_fits}
use Rattle.held.proofs.Laws.Rows.{every_rows}
use Rattle.model_writing.proofs.sizes.places_fit.Goals as goal

pub returns : goal.returns
returns c =
    all_from_yields_List place_fits _ _ _ c.all.ensures.ran (YieldsList-from_slice c.live_places.result.now cc) (λ x b q k. search rules)
    ∙ every_rows place_fits c.args.l.now.places c.args.l.now.«count» c.live_places.ensures.rows
