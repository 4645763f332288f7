-- `is_place` meets its contract. Assumes nothing.
use Rattle.model_holding.proofs.Laws.{place-checked, place-text-held}
use native.Mathlib.Omega.{arith}
use Rattle.model_holding.proofs.holds.is_place.Goals as goal

pub returns-in-0 : goal.returns-in-0
returns-in-0 c = place-checked _ _ c.read_word.ensures c.in-0.is c.is_blank.ensures

pub returns-in_default : goal.returns-in_default
returns-in_default c = λ e. place-text-held _ _ c.read_word.ensures (omega arith) (c.is_text.ensures e)
