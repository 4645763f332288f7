-- `resolving::slots::Lookup::node` meets its contract: `Laws/Slots.antt`. Assumes nothing.
use Rattle.std.proofs.Common.{rules, ◌≡◌}
use Rattle.std.specs.List.{zip, position}
use Rattle.std.proofs.lemmas.Iterator.{YieldsList-from_slice, YieldsList-from_zip}
use Rattle.std.proofs.lemmas.Iterator.Consumers.{YieldsList-at}
use Rattle.std.proofs.lemmas.Iterator.Search.{position_from_yields_List}
use borrow.Author.Tests.{tests}
use Rattle.tag.specs.View.{bytes_of}
use Rattle.held.proofs.Laws.Standing.{standing}
use Rattle.resolving.proofs.Laws.Slots.{guess, guessed}
use Rattle.resolving.proofs.slots.Lookup.node.Goals as goal

pub returns : goal.returns
returns c p =
    let at : c.position.result ≡ position (guess c.key-k.result (bytes_of c.args.t)) (zip c.args.self.now.keys c.live_components-components.result.now) =
    position_from_yields_List (guess c.key-k.result (bytes_of c.args.t)) c.position.new.self _ _ c.position.ensures.ran
    (YieldsList-from_zip (YieldsList-at c.zip.ensures.first (YieldsList-from_slice c.args.self.now.keys c.iter.ensures.rest)) (YieldsList-from_slice c.live_components-components.result.now (search rules)))
    (λ x r q k. search (rules, tests)) in
    guessed c.args.self.now.model.now (standing c.args.self.now.model.now p) c.live_components-components.ensures.rows (bytes_of c.args.t) c.key-k.result c.args.self.now.keys _ _ at
    c.or_else.ensures (λ q. search rules)
