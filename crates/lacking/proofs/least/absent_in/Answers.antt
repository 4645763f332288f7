-- `lacking::least::absent_in` meets its contract. Assumes nothing.
use Rattle.std.proofs.Common.{rules, not, ◌∙◌}
use Rattle.std.specs.Bool.{then_some}
use Rattle.std.specs.Cmp.Lexicographic.{slice_cmp}
use Rattle.std.specs.Ordering.{nat_cmp, min_by_ordering}
use Rattle.std.proofs.lemmas.Iterator.{YieldsList-from_slice, YieldsList-from_zip}
use Rattle.std.proofs.lemmas.Iterator.Adapters.{YieldsList-from_once}
use Rattle.std.proofs.lemmas.Iterator.Consumers.{YieldsList-at, YieldsList-from_chain, YieldsList-from_filter, YieldsList-from_filter_map, reduce_from_yields_List}
use borrow.Author.Tests.{tests}
use Rattle.tag.specs.View.{bytes_of}
use Rattle.lacking.specs.Least.{component_at}
use Rattle.lacking.proofs.least.absent_in.Goals as goal

pub returns : goal.returns
returns c =
    reduce_from_yields_List (λ s t. min_by_ordering (slice_cmp nat_cmp (bytes_of s) (bytes_of t)) s t) _ _ c.min.ensures.ran
    (YieldsList-from_chain (YieldsList-at c.chain.ensures.first (YieldsList-from_once (then_some (not (component_at c.args.wires.now.own)) c.args.l.now.tag) (cc)))
    (YieldsList-at c.chain.ensures.second
    (YieldsList-from_filter_map _ (λ x. x.0)
    (YieldsList-at c.filter_map-placed.ensures.source
    (YieldsList-from_filter _ (λ x. not (component_at x.1))
    (YieldsList-at c.filter.ensures.source (YieldsList-from_zip (YieldsList-at c.zip.ensures.first (YieldsList-from_slice _ (c.iter.ensures.rest ∙ c.live_places.ensures.rows))) (YieldsList-from_slice c.args.wires.now.places (search rules))))
    c.filter.ensures.closure (λ x r q k. search (rules, tests))))
    c.filter_map-placed.ensures.closure (λ x r q k. search (rules, tests))))
    c.chain.ensures.first_done c.chain.ensures.second_done)
