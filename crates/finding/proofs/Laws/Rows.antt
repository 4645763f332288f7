-- A row sought, from the rows asked in their order. Assumes nothing.
use Rattle.std.specs.Prelude.{Option, Some, None, MatchOption}
use Prim.Native.Nat.{ℕ, ◌≤◌, ◌<◌}
use native.Mathlib.Omega.{arith}
use mathlib.Core.Path.{◌≡◌}
use mathlib.Core.Logic.{◌≢◌}
use mathlib.Core.List.{List}
use Rattle.tag.specs.Tags.{Tag}
use Rattle.layout.specs.Words.{text}
use Rattle.finding.specs.Rows.{RowSought}

module _ (s : List ℕ) (at : ℕ → ℕ) {m n : ℕ} (t : Tag) (e : m ≡ n) where
  pub row_sought : (r : Option ℕ)
      → MatchOption r ((k : ℕ) → 0 ≤ k → k < m → text s (at k) ≢ t) (λ i. (0 ≤ i) × (i < m) × (text s (at i) ≡ t) × ((k : ℕ) → 0 ≤ k → k < i → text s (at k) ≢ t))
      → RowSought s at n t r
  row_sought (Some i) h = record { found = (omega (arith, e, h.1), h.2); missing = tt }
  row_sought None h = record { found = tt; missing = λ i l. h i (omega arith) (omega (arith, e)) }
