-- `write_entry` meets its contract. Assumes nothing.
use native.Mathlib.Omega.{arith}
use Rattle.model_writing.proofs.Laws.Writing.{entry-wrote}
use Rattle.model_writing.proofs.encode.write_entry.Goals as goal

pub returns : goal.returns
returns c =
    entry-wrote c.args.e.now (c.write_tag.ensures.wrote (omega (arith, c.requires.0))) (c.write_component.ensures.wrote (omega (arith, c.requires.0)))
