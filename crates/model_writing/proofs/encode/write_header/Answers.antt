-- `write_header` meets its contract. Assumes nothing.
use native.Mathlib.Omega.{arith}
use Rattle.model_writing.proofs.Laws.Encoding.{header_wrote}
use Rattle.model_writing.proofs.encode.write_header.Goals as goal

pub returns : goal.returns
returns c =
    header_wrote c.args.default (c.write_number.ensures.wrote (omega (arith, c.requires.0))) (c.write_number-2.ensures.wrote (omega (arith, c.requires.0))) (c.write_number-3.ensures.wrote (omega (arith, c.requires.0))) (c.write_place.ensures.wrote (omega (arith, c.requires.0)))
