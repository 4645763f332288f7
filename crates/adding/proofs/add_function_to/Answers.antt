-- `adding::add_function_to` meets its contract. Assumes nothing.
use mathlib.Core.Path.{◌∙◌}
use Rattle.adding.proofs.Laws.Plain.{function_is, chosen}
use Rattle.adding.proofs.add_function_to.Goals as goal

pub returns : goal.returns
returns c = c.add_plain.ensures _ _ (c.then_some.ensures ∙ chosen _ _) _ (function_is _ _ _ _ c.is_function.ensures)
