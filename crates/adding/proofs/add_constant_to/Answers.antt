-- `adding::add_constant_to` meets its contract. Assumes nothing.
use mathlib.Core.Path.{refl}
use mathlib.Core.Bool.{true}
use Rattle.adding.proofs.Laws.Plain.{constant_is}
use Rattle.adding.proofs.add_constant_to.Goals as goal

pub returns : goal.returns
returns c = c.add_plain.ensures _ true refl _ (constant_is _ _ _)
