-- `removing::swapping::swap_places` meets its contract. Assumes nothing.
use mathlib.Core.Path.{◌≡◌}
use Rattle.tag.specs.View.{bytes_of}
use Rattle.removing.proofs.Laws.Swapping.{SweptLists}
use Rattle.removing.proofs.swapping.swap_places.Given as goal

abbrev pub invariant-loop-i : goal.invariant-loop-i
invariant-loop-i l =
    (l.m.components ≡ l.initial.m.components) × (l.m.component_count ≡ l.initial.m.component_count) × (l.m.list_count ≡ l.initial.m.list_count) × (l.m.default ≡ l.initial.m.default) × SweptLists (bytes_of l.t) l.by l.initial.m l.m l.i
