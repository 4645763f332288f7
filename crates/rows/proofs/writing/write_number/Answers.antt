-- `write_number` meets its contract. Assumes nothing.
use Rattle.rows.proofs.Laws.Writing.{number_writes}
use Rattle.rows.proofs.writing.write_number.Goals as goal

pub returns : goal.returns
returns c = number_writes _ _ _ c.ranges.x.fits c.write_word.ensures
