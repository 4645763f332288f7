-- `is_text` meets its contract. Assumes nothing.
use Rattle.model_holding.proofs.Laws.{text-checked}
use native.Mathlib.Omega.{arith}
use Rattle.model_holding.proofs.holds.is_text.Goals as goal

pub returns-then-n-le32 : goal.returns-then-n-le32
returns-then-n-le32 c = text-checked _ _ _ (omega arith) c.is_blank.ensures
