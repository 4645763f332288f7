-- `read_text` meets its contract. Assumes nothing.
use mathlib.Core.Path.{◌∙◌}
use native.Mathlib.Omega.{arith}
use lib.Seq.{take-take}
use Rattle.model_bytes.proofs.Laws.Reading.{text_read}
use Rattle.model_bytes.proofs.decode.read_text.Goals as goal

pub returns : goal.returns
returns c =
    text_read c.args.n c.args.s.now c.args.at (omega arith) c.is_blank.ensures c.if-not-is_blank.false (c.in_ok-bytes.ensures.cases.same ∙ take-take 32 _ _ (omega arith))
