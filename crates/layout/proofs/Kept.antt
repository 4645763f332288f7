-- What a write leaves alone, and reading where two lists of bytes agree. Assumes nothing.
use mathlib.Core.Path.{◌≡◌, refl, sym, ◌∙◌}
use mathlib.Core.List.{List}
use Prim.Native.Nat.{ℕ, ◌+◌, ◌≤◌, ◌<◌}
use native.Mathlib.Omega.{arith}
use lib.ListN.{length, get_or, take, drop, length-take, length-drop}
use lib.Seq.{ext_get_or, get_or-take, get_or-drop}
use Rattle.layout.specs.Words.{four, word}
use Rattle.layout.specs.Writing.{Kept}

pub kept-none : (s : List ℕ) (i n : ℕ) → Kept s s i n
kept-none s i n = record { size = refl; below = λ k h. refl; above = λ k h. refl }

-- one write after another, within one range
pub kept_then : {s t u : List ℕ} {i n j m : ℕ} (a z : ℕ) → Kept s t i n → Kept t u j m → a ≤ i → i + n ≤ a + z → a ≤ j → j + m ≤ a + z → Kept s u a z
kept_then a z p q e f g h = record {
  size = q.size ∙ p.size;
  below = λ k l. q.below k (omega arith) ∙ p.below k (omega arith);
  above = λ k l. q.above k (omega arith) ∙ p.above k (omega arith);
}

-- t is s at the n bytes from i on
pub record Agree (s t : List ℕ) (i n : ℕ) : Type 0 where
  pub size : length t ≡ length s
  pub same : (k : ℕ) → i ≤ k → k < i + n → get_or t k 0 ≡ get_or s k 0

pub agree_below : {s t : List ℕ} {j m : ℕ} (i n : ℕ) → Kept s t j m → i + n ≤ j → Agree s t i n
agree_below i n p h = record { size = p.size; same = λ k a b. p.below k (omega arith) }

pub agree_within : {s t : List ℕ} {i n : ℕ} (j m : ℕ) → Agree s t i n → i ≤ j → j + m ≤ i + n → Agree s t j m
agree_within j m p g h = record { size = p.size; same = λ k a b. p.same k (omega arith) (omega arith) }

module _ {s t : List ℕ} {i : ℕ} where
  four_same : Agree s t i 4 → four t i ≡ four s i
  unfolding four
  four_same p =
      rw (p.same i (omega arith) (omega arith), p.same (i + 1) (omega arith) (omega arith), p.same (i + 2) (omega arith) (omega arith), p.same (i + 2 + 1) (omega arith) (omega arith))

pub word_same : {s t : List ℕ} {i : ℕ} → Agree s t i 8 → word t i ≡ word s i
unfolding word
word_same {s} {t} {i} p =
    rw (four_same (agree_within i 4 p (omega arith) (omega arith)), four_same (agree_within (i + 4) 4 p (omega arith) (omega arith)))

pub bytes_same : {s t : List ℕ} {i n : ℕ} → Agree s t i n → take n (drop i t) ≡ take n (drop i s)
bytes_same {s} {t} {i} {n} p =
    ext_get_or 0 (take n (drop i t)) (take n (drop i s))
    (omega (arith, length-take n (drop i t), length-take n (drop i s), length-drop i t, length-drop i s, p.size))
    (λ k h.
    let l : k < n = omega (arith, length-take n (drop i t)) in
    get_or-take n (drop i t) k 0 l ∙ get_or-drop i t k 0 ∙ p.same (i + k) (omega arith) (omega arith)
    ∙ sym (get_or-take n (drop i s) k 0 l ∙ get_or-drop i s k 0))
