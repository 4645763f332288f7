-- `held::find::check_free` meets its contract: `Laws/Search.antt`. Assumes nothing.
use mathlib.Core.Path.{sym, ◌∙◌}
use Rattle.held.proofs.Laws.Search.{searched}
use Rattle.held.proofs.find.check_free.Goals as goal

pub returns-then-is_some : goal.returns-then-is_some
returns-then-is_some c = (sym (searched _ c.find_component.ensures) ∙ (sym c.is_some.ensures ∙ c.if-is_some.true), c.of.ensures)

pub returns : goal.returns
returns c = sym (searched _ c.find_component.ensures) ∙ (sym c.is_some.ensures ∙ c.if-is_some.false)
