-- What a writer leaves in some bytes. Definitions only.
use Rattle.std.specs.Prelude.{ℕ, ◌+◌, ◌*◌, ◌≤◌, ◌<◌, ◌≡◌, List, length, get_or}
use Rattle.layout.specs.Words.{word}
use Rattle.layout.specs.Writing.{Kept}

-- written into the n bytes at i: a is read there, by `reads`
pub record Wrote {A : Type 0} (reads : List ℕ → A) (a : A) (i n : ℕ) (s t : List ℕ) : Type 0 where
  pub kept : Kept s t i n
  pub holds : reads t ≡ a

-- written where there is room; else nothing is changed
pub record Writes {A : Type 0} (reads : List ℕ → A) (a : A) (i n : ℕ) (s t : List ℕ) : Type 0 where
  pub wrote : i + n ≤ length s → Wrote reads a i n s t
  pub narrow : length s < i + n → t ≡ s

-- the first n of some words, written one after another from i on
pub record WroteWords (words : List ℕ) (n i : ℕ) (s t : List ℕ) : Type 0 where
  pub kept : Kept s t i (8 * n)
  pub holds : (k : ℕ) → k < n → word t (i + 8 * k) ≡ get_or words k 0
