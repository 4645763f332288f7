-- `rest_from` meets its contract. Assumes nothing.
use Rattle.std.proofs.Common.{ap, ◌∙◌, refl}
use Rattle.layout.proofs.Laws.{rest_is}
use Rattle.layout.proofs.words.rest_from.Goals as goal

pub returns : goal.returns
returns c = ap (λ b. b.now) c.unwrap_or.ensures ∙ rest_is c.args.s.now c.args.at c.get.result _ refl c.get.ensures.lookup
