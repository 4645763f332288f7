-- `are_filled` meets its contract. Assumes nothing.
use Rattle.std.proofs.Common.{rules, ◌<◌, ◌+◌, ◌*◌}
use Rattle.model_holding.proofs.Laws.{all_below}
use Rattle.layout.specs.Words.{word}
use Rattle.standing.proofs.are_filled.Goals as goal

pub returns : goal.returns
returns c = all_below (λ j. 0 < word c.args.s.now (5736 + 168 * j)) c.args.n _ _ _ c.all.ensures.ran (λ j q k. search rules)
