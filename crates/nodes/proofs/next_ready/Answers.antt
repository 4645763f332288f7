-- `nodes::next_ready` meets its contract: `Laws/Wires.antt`. Assumes nothing.
use Rattle.std.proofs.Common.{subst, rules, ◌<◌, option_copied}
use Rattle.std.proofs.lemmas.Iterator.{first_from_find}
use Rattle.std.proofs.lemmas.Iterator.Adapters.{YieldsList-from_rev_slice, serves_from_places}
use borrow.Author.Tests.{tests}
use Rattle.nodes.specs.Nodes.{Next, NotNext, NextIn}
use Rattle.nodes.proofs.Laws.Wires.{reversed_at, found_next}
use Rattle.nodes.proofs.next_ready.Goals as goal

pub find-requires-clause-callable : goal.find-requires-clause-callable
find-requires-clause-callable c = serves_from_places (YieldsList-from_rev_slice c.nodes.result.now cc) (λ x q k. search rules)
    (λ x k h e y f. let low : x.now < 192 = c.nodes.ensures.nodes.small x.now (reversed_at c.nodes.result.now x.now k h e) in search rules)

pub returns : goal.returns
returns c = rw c.copied.ensures (subst (λ l. NextIn c.args.w.now l c.args.placed.now (option_copied c.find.result)) c.nodes.ensures.same (found_next c.args.w.now c.nodes.result.now c.args.placed.now c.find.result
    (first_from_find _ _ _ (λ x. Next c.args.w.now c.args.placed.now x) (λ x. NotNext c.args.w.now c.args.placed.now x) c.find.ensures.ran (YieldsList-from_rev_slice c.nodes.result.now cc) (λ x q k. search (rules, tests)) (λ x q k. search (rules, tests)))))
