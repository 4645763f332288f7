-- `is_entry` meets its contract. Assumes nothing.
use mathlib.Core.Path.{sym, ◌∙◌}
use Rattle.model_holding.proofs.Laws.{entry-held}
use Rattle.model_holding.proofs.holds.is_entry.Goals as goal

pub returns-then-is_tag : goal.returns-then-is_tag
returns-then-is_tag c = λ e. entry-held _ _ (c.is_tag.ensures c.if-is_tag.true) _ (sym c.is_some.ensures ∙ e) c.read_component.ensures
