-- Tags by their bytes: equality, byte order, the size, and the numbered tag. Definitions only.
use Rattle.std.specs.Prelude.{Bool, true, false, ◌&&◌, ◌||◌, cond, List, [], ◌∷◌, ◌++◌, ℕ, zero, suc, ◌+◌, ◌/◌, ◌%◌, ltb, eqb, length}

-- Document 01's tag: its bytes. The name of a parameter is a byte string too.
abbrev pub Tag : Type 0
Tag = List ℕ

abbrev pub empty : Tag
empty = []

-- the same bytes
unfoldable pub is : Tag → Tag → Bool
is [] [] = true
is [] (b ∷ t) = false
is (a ∷ s) [] = false
is (a ∷ s) (b ∷ t) = eqb a b && is s t

-- Document 01's byte order, a prefix first: s stands ahead of t.
unfoldable pub before : Tag → Tag → Bool
before [] [] = false
before [] (b ∷ t) = true
before (a ∷ s) [] = false
before (a ∷ s) (b ∷ t) = ltb a b || (eqb a b && before s t)

-- a tag is 0 to 32 bytes
unfoldable pub overlong : Tag → Bool
overlong t = ltb 32 (length t)

-- the decimal digits of n, at most k of them
unfoldable pub decimal : ℕ → ℕ → List ℕ
decimal zero n = []
decimal (suc k) n = cond (ltb n 10) ((48 + n) ∷ []) (decimal k (n / 10) ++ ((48 + n % 10) ∷ []))

-- Document 01's numbered tag, tag_1, tag_2 and on (decimal). The number is below 1,001.
abbrev pub numbered : Tag → ℕ → Tag
numbered t k = t ++ (95 ∷ decimal 4 k)
