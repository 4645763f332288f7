-- `removing::swapping::swap_list` meets its contract. Assumes nothing.
use mathlib.Core.Path.{◌≡◌}
use Rattle.tag.specs.View.{bytes_of}
use Rattle.removing.proofs.Laws.Swapping.{SweptList}
use Rattle.removing.proofs.swapping.swap_list.Given as goal

abbrev pub invariant-loop-i : goal.invariant-loop-i
invariant-loop-i l = (l.list.tag ≡ l.initial.list.tag) × (l.list.count ≡ l.initial.list.count) × SweptList (bytes_of l.t) l.by l.initial.list l.list l.i
