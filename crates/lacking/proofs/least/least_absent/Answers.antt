-- `lacking::least::least_absent` meets its contract: `Laws/Shown.antt`. Assumes nothing.
use Rattle.std.proofs.Common.{rules}
use Rattle.std.specs.Cmp.Lexicographic.{slice_cmp}
use Rattle.std.specs.Ordering.{nat_cmp, min_by_ordering}
use Rattle.std.proofs.lemmas.Iterator.{YieldsList-from_slice, YieldsList-from_zip}
use Rattle.std.proofs.lemmas.Iterator.Consumers.{YieldsList-at, YieldsList-from_filter, YieldsList-from_filter_map, reduce_from_yields_List}
use borrow.Author.Tests.{tests}
use Rattle.tag.specs.View.{bytes_of}
use Rattle.nodes.specs.Nodes.{target}
use Rattle.lacking.specs.Least.{marked_at, least, absents}
use Rattle.lacking.proofs.Laws.Shown.{absent_least}
use Rattle.lacking.proofs.least.least_absent.Goals as goal

pub returns : goal.returns
returns c p r =
    absent_least c.args.m.now p c.args.found.now r c.args.seen.now c.live_lists.ensures.rows c.live_lists.ensures.bound _
    (reduce_from_yields_List (λ s t. min_by_ordering (slice_cmp nat_cmp (bytes_of s) (bytes_of t)) s t) _ _ c.min.ensures.ran
    (YieldsList-from_filter_map _ (λ x. least (absents x.0 x.1))
    (YieldsList-at c.filter_map.ensures.source
    (YieldsList-from_filter _ (λ x. marked_at c.args.seen.now (target x.1.own))
    (YieldsList-at c.filter.ensures.source (YieldsList-from_zip (YieldsList-at c.zip.ensures.first (YieldsList-from_slice _ c.iter.ensures.rest)) (YieldsList-from_slice c.args.found.now (search rules))))
    c.filter.ensures.closure (λ x r q k. search (rules, tests))))
    c.filter_map.ensures.closure (λ x r q k. search (rules, tests))))
