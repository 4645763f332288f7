-- `resolving::slots::Lookup::wires` meets its contract: `Laws/Slots.antt`. Assumes nothing.
use mathlib.Core.Path.{◌≡◌}
use mathlib.Core.Bool.{true}
use Rattle.model.specs.View.{passes}
use Rattle.resolving.proofs.Laws.Slots.{Upto}
use Rattle.resolving.proofs.slots.Lookup.wires.Given as goal

abbrev pub invariant-loop-l : goal.invariant-loop-l
invariant-loop-l l = passes l.self.model.now ≡ true → Upto l.self.model.now l.found l.l
