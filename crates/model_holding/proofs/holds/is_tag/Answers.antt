-- `is_tag` meets its contract. Assumes nothing.
use Rattle.model_holding.proofs.Laws.{tag_held}
use Rattle.model_holding.proofs.holds.is_tag.Goals as goal

pub returns : goal.returns
returns c = λ e. tag_held _ _ c.read_word.ensures (c.is_text.ensures e)
