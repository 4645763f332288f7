-- `write_list` meets its contract. Assumes nothing.
use native.Mathlib.Omega.{arith}
use Rattle.model_writing.proofs.Laws.Sizes.{listed}
use Rattle.model_writing.proofs.Laws.Writing.{list_wrote}
use Rattle.model_writing.proofs.encode.write_list.Goals as goal

pub returns : goal.returns
returns c =
    list_wrote c.args.l.now (listed c.args.l.now c.requires.1).few (c.write_tag.ensures.wrote (omega (arith, c.requires.0))) (c.write_number.ensures.wrote (omega (arith, c.requires.0))) (c.write_places.ensures.wrote (omega (arith, c.requires.0)))
