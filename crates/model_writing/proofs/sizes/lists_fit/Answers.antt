-- `lists_fit` meets its contract. Assumes nothing.
use mathlib.Core.Path.{◌∙◌}
use Rattle.std.proofs.Common.{rules}
use Rattle.std.proofs.lemmas.Iterator.{YieldsList-from_slice}
use Rattle.std.proofs.lemmas.Iterator.Search.{all_from_yields_List}
use Rattle.model.specs.View.{list_fits}
use Rattle.held.proofs.Laws.Rows.{every_rows}
use Rattle.model_writing.proofs.sizes.lists_fit.Goals as goal

pub returns : goal.returns
returns c =
    all_from_yields_List list_fits _ _ _ c.all.ensures.ran (YieldsList-from_slice c.live_lists.result.now cc) (λ x b q k. search rules)
    ∙ every_rows list_fits c.args.m.now.lists c.args.m.now.list_count c.live_lists.ensures.rows
