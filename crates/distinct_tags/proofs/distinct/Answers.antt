-- `distinct_tags::distinct` meets its contract: `Laws/Behind.antt`. Assumes nothing.
use mathlib.Core.Path.{◌∙◌}
use Rattle.std.proofs.Common.{rules}
use Rattle.std.proofs.lemmas.Iterator.{YieldsList-from_slice}
use Rattle.std.proofs.lemmas.Iterator.Consumers.{YieldsList-from_enumerate}
use Rattle.std.proofs.lemmas.Iterator.Search.{all_from_yields_List}
use Rattle.distinct_tags.proofs.Laws.Behind.{alone, all_alone}
use Rattle.distinct_tags.proofs.distinct.Goals as goal

pub returns : goal.returns
returns g c =
    let tag_of = g.R.Tagged.tag_bytes in
    let rows = c.args.table.now in
    all_from_yields_List (alone tag_of rows) _ _ _ c.all.ensures.ran (YieldsList-from_enumerate (YieldsList-from_slice rows cc) cc) (λ x b q k. search rules)
    ∙ all_alone tag_of rows
