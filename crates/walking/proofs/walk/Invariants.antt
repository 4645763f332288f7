-- `walking::walk` meets its contract. Assumes nothing.
use Prim.Native.Nat.{◌-◌}
use lib.ListN.{get_or}
use Rattle.model.specs.View.{lists_of}
use Rattle.model.specs.Walk.{clear}
use Rattle.held.proofs.Laws.Rows.{no_list}
use Rattle.walking.specs.Walking.{Walkable, Says}
use Rattle.walking.proofs.Laws.Line.{Going, Scanning}
use Rattle.walking.proofs.walk.Given as goal

abbrev pub invariant-loop-i : goal.invariant-loop-i
invariant-loop-i l = (Walkable l.m l.target l.from → Scanning l.m l.target l.from l.line l.head l.row (get_or l.m.lists l.row no_list) l.i) × Says (lists_of l.m) l.end clear

abbrev pub invariant-walk : goal.invariant-walk
invariant-walk l = (Walkable l.m l.target l.from → Going l.m l.target l.from l.line l.head) × Says (lists_of l.m) l.end clear

abbrev pub decreases-walk : goal.decreases-walk
decreases-walk l = 128 - l.head
