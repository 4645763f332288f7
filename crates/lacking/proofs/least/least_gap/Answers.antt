-- `lacking::least::least_gap` meets its contract: `Laws/Shown.antt`. Assumes nothing.
use Rattle.std.proofs.Common.{rules}
use Rattle.std.proofs.lemmas.Iterator.{YieldsList-from_slice, YieldsList-from_zip}
use Rattle.std.proofs.lemmas.Iterator.Consumers.{YieldsList-at, YieldsList-from_filter, YieldsList-from_filter_map}
use borrow.Author.Tests.{tests}
use Rattle.nodes.specs.Nodes.{target}
use Rattle.lacking.specs.Least.{marked_at, gap_in}
use Rattle.lacking.proofs.Laws.Least.{least_by_key}
use Rattle.lacking.proofs.Laws.Shown.{gap_least}
use Rattle.lacking.proofs.least.least_gap.Goals as goal

pub returns : goal.returns
returns c p r =
    gap_least c.args.m.now p c.args.found.now r c.args.seen.now c.live_lists.ensures.rows c.live_lists.ensures.bound _
    (least_by_key (λ g. g.tag) _ _ (λ x k q h. search (rules, tests))
    (YieldsList-from_filter_map _ (λ x. gap_in x.0 x.1)
    (YieldsList-at c.filter_map.ensures.source
    (YieldsList-from_filter _ (λ x. marked_at c.args.seen.now (target x.1.own))
    (YieldsList-at c.filter.ensures.source (YieldsList-from_zip (YieldsList-at c.zip.ensures.first (YieldsList-from_slice _ c.iter.ensures.rest)) (YieldsList-from_slice c.args.found.now (search rules))))
    c.filter.ensures.closure (λ x r q k. search (rules, tests))))
    c.filter_map.ensures.closure (λ x r q k. search (rules, tests)))
    _ c.min_by_key.ensures.runs)
