-- What was read so far has no line feed, and the line is its start.
use Rattle.std.proofs.Common.{◌≡◌, ◌≢◌, ℕ, List, All, take}
use Rattle.std.specs.Io.KnownBytes.{Consumes}
use Rattle.recorded.proofs.lines.read_start.Given as goal

abbrev pub invariant-loop : goal.invariant-loop
invariant-loop g l = (done : List ℕ) × All (λ b. b ≢ 10) done × (l.line.items ≡ take l.most done)
    × Consumes (g.B.Read.remaining l.initial.input) (g.B.Read.remaining l.input) done
