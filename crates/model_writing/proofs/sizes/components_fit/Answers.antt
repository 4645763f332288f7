-- `components_fit` meets its contract. Assumes nothing.
use mathlib.Core.Path.{◌∙◌}
use Rattle.std.proofs.Common.{rules}
use Rattle.std.proofs.lemmas.Iterator.{YieldsList-from_slice}
use Rattle.std.proofs.lemmas.Iterator.Search.{all_from_yields_List}
use Rattle.model.specs.View.{entry_fits}
use Rattle.held.proofs.Laws.Rows.{every_rows}
use Rattle.model_writing.proofs.sizes.components_fit.Goals as goal

pub returns : goal.returns
returns c =
    all_from_yields_List entry_fits _ _ _ c.all.ensures.ran (YieldsList-from_slice c.live_components.result.now cc) (λ x b q k. search rules)
    ∙ every_rows entry_fits c.args.m.now.components c.args.m.now.component_count c.live_components.ensures.rows
