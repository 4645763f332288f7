-- `dw_add_input` meets its contract. Assumes nothing.
use mathlib.Core.Path.{sym, ◌∙◌}
use Rattle.direct_words.proofs.Laws.Direct.{taken-done, not_taken}
use Rattle.wiring_calls.proofs.dw_add_input.Goals as goal

pub returns-then-is_some : goal.returns-then-is_some
returns-then-is_some c = taken-done (c.add_input_in.ensures.taken (sym c.is_some.ensures ∙ c.if-is_some.true)) c.tell.ensures

pub returns : goal.returns
returns c = not_taken c.add_input_in.ensures (sym c.is_some.ensures ∙ c.if-is_some.false) c.add_input.ensures
