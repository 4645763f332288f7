-- Words written into bytes, and what a write leaves alone. Definitions only.
use Rattle.std.specs.Prelude.{ℕ, ◌+◌, ◌/◌, ◌%◌, ◌≤◌, ◌<◌, ◌≡◌, cond, List, [], ◌∷◌, ◌++◌, leb, length, get_or, take, drop}

-- the bytes of x, the lowest first: two, four and eight
abbrev pub bytes2 : ℕ → List ℕ
bytes2 x = x % 0x100 ∷ x / 0x100 % 0x100 ∷ []

unfoldable pub bytes4 : ℕ → List ℕ
bytes4 x = bytes2 x ++ bytes2 (x / 0x1_0000)

unfoldable pub bytes8 : ℕ → List ℕ
bytes8 x = bytes4 x ++ bytes4 (x / 0x1_0000_0000)

-- s with the bytes vs from i on
unfoldable pub put : List ℕ → ℕ → List ℕ → List ℕ
put s i vs = take i s ++ (vs ++ drop (i + length vs) s)

-- s with the word x at i; where it would not stand whole in s, s itself
unfoldable pub put_word : List ℕ → ℕ → ℕ → List ℕ
put_word s i x = cond (leb (i + 8) (length s)) (put s i (bytes8 x)) s

-- t is s but for the n bytes from i on
pub record Kept (s t : List ℕ) (i n : ℕ) : Type 0 where
  pub size : length t ≡ length s
  pub below : (k : ℕ) → k < i → get_or t k 0 ≡ get_or s k 0
  pub above : (k : ℕ) → i + n ≤ k → get_or t k 0 ≡ get_or s k 0
