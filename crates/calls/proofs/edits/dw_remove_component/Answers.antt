-- `dw_remove_component` meets its contract. Assumes nothing.
use mathlib.Core.Path.{sym, ◌∙◌}
use Rattle.direct_words.proofs.Laws.Direct.{taken-done, not_taken}
use Rattle.calls.proofs.edits.dw_remove_component.Goals as goal

pub returns-then-is_some : goal.returns-then-is_some
returns-then-is_some c = taken-done (c.remove_component_in.ensures.taken (sym c.is_some.ensures ∙ c.if-is_some.true)) c.tell.ensures

pub returns : goal.returns
returns c = not_taken c.remove_component_in.ensures (sym c.is_some.ensures ∙ c.if-is_some.false) c.remove_component.ensures
