-- `wires` meets its contract. Assumes nothing.
use Prim.Native.Nat.{ℕ, ◌<◌}
use mathlib.Core.Path.{◌≡◌}
use mathlib.Core.List.{[]}
use lib.ListN.{length, get_or}
use Rattle.standing.specs.Standing.{Owned}
use Rattle.standing.proofs.Components.wires.Given as goal

abbrev pub invariant-loop-i : goal.invariant-loop-i
invariant-loop-i l =
    (length l.wires ≡ 64)
    × ((j : ℕ) → j < l.i → Owned l.self.bytes.now l.self.keys.now.count l.self.lists.now.of l.self.lists.now.count (get_or l.self.keys.now.of j 0) j (get_or l.wires j []))
