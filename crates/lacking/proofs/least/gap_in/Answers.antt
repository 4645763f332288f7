-- `lacking::least::gap_in` meets its contract. Assumes nothing.
use Rattle.std.proofs.Common.{◌≡◌, rules, ap, ◌∙◌}
use Rattle.std.specs.List.{position}
use Rattle.std.specs.Option.{option_map}
use Rattle.std.proofs.lemmas.Iterator.{YieldsList-from_slice}
use Rattle.std.proofs.lemmas.Iterator.Search.{position_from_yields_List}
use borrow.Author.Tests.{tests}
use Rattle.lacking.specs.Least.{gap_at}
use Rattle.lacking.proofs.least.gap_in.Goals as goal

pub returns : goal.returns
returns c =
    let at : c.position.result ≡ position gap_at c.args.wires.now.places = position_from_yields_List gap_at _ _ _ c.position.ensures.ran (YieldsList-from_slice c.args.wires.now.places cc) (λ x r q k. search (rules, tests)) in
    let mapped : c.map.result ≡ option_map (λ p. record { tag = c.args.l.now.tag; index = p }) c.position.result = search rules in
    mapped ∙ ap (option_map (λ p. record { tag = c.args.l.now.tag; index = p })) at
