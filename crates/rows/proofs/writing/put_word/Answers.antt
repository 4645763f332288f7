-- `put_word` meets its contract. Assumes nothing.
use Rattle.rows.proofs.Laws.Writing.{word-wrote}
use Rattle.rows.proofs.writing.put_word.Goals as goal

pub returns : goal.returns
returns c = word-wrote _ _ _ c.requires c.ranges.x.fits c.write_word.ensures
