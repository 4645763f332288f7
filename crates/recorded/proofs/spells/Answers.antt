-- Each byte is looked at. Assumes nothing.
use Rattle.std.proofs.Common.{rules, ◌≡◌}
use Rattle.std.specs.List.{list_all}
use Rattle.std.proofs.lemmas.Iterator.Search.{all_from_yields_List}
use Rattle.std.proofs.lemmas.Iterator.Adapters.{YieldsList-from_bytes}
use Rattle.recorded.specs.Number.{is_digit}
use Rattle.recorded.proofs.spells.Goals as goal

pub returns-then-whole : goal.returns-then-whole
returns-then-whole c =
    let lower : c.all.result ≡ list_all is_digit c.args.word.now = all_from_yields_List is_digit _ _ _ c.all.ensures.ran (YieldsList-from_bytes c.args.word.now cc) (λ x b q k. search rules) in
    search rules
