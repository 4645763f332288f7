-- Numbered tags: each number makes another, and whether one fits. Assumes nothing.
use mathlib.Core.Path.{◌≡◌}
use mathlib.Core.Bool.{true}
use mathlib.Core.List.{List, [], ◌∷◌, ◌++◌, append_assoc, append_cancel_left, tail-eq_of_cons-eq}
use Prim.Native.Nat.{ℕ, ◌+◌, ◌<◌, ◌≤◌}
use native.Mathlib.Omega.{arith}
use lib.ListN.{length, length-append}
use borrow.Author.Tests.{lt-ltb, ltb-true}
use Rattle.tag.specs.Tags.{Tag, overlong, decimal, numbered}
use Rattle.tag.proofs.Laws.Digits.{decimal_injective, decimal-length, decimal_positive}

pub numbered_injective : (t : Tag) (j k : ℕ) → j < 10000 → k < 10000 → numbered t j ≡ numbered t k → j ≡ k
numbered_injective t j k p q e =
    decimal_injective 4 j k p q (tail-eq_of_cons-eq (append_cancel_left t (95 ∷ decimal 4 j) (95 ∷ decimal 4 k) e))

-- two bytes more at least, five at most
pub numbered_longer : (t : Tag) (k : ℕ) → length t + 2 ≤ length (numbered t k)
numbered_longer t k = rw (length-append t (95 ∷ decimal 4 k)) (omega (arith, decimal_positive 3 k))

pub numbered-length : (t : Tag) (k : ℕ) → length (numbered t k) ≤ length t + 5
numbered-length t k = rw (length-append t (95 ∷ decimal 4 k)) (omega (arith, decimal-length 4 k))

-- no more bytes fit than there are of fewer
overlong-append : (t more : Tag) → overlong t ≡ true → overlong (t ++ more) ≡ true
unfolding overlong
overlong-append t more h = rw (length-append t more) (lt-ltb 32 (length t + length more) (omega (arith, ltb-true 32 (length t) h)))

-- the line and then the number
pub numbered_parts : (t u : Tag) (k : ℕ) (digits : List ℕ) → decimal 4 k ≡ digits → u ≡ t ++ (95 ∷ []) → u ++ digits ≡ numbered t k
numbered_parts t u k digits e h = rw (h, ← e) (append_assoc t (95 ∷ []) (decimal 4 k))

pub line_too_long : (t : Tag) (k : ℕ) → overlong (t ++ (95 ∷ [])) ≡ true → overlong (numbered t k) ≡ true
line_too_long t k h = rw (append_assoc t (95 ∷ []) (decimal 4 k)) at (overlong-append (t ++ (95 ∷ [])) (decimal 4 k) h)
