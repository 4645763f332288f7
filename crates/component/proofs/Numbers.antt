-- The rule on two ends that lie near, by the test below 0. Assumes nothing.
use mathlib.Core.Path.{◌≡◌, refl, sym, ap}
use mathlib.Core.Bool.{true, false, true≢false}
use Prim.Native.Nat.{ℕ, ◌+◌, ◌*◌, ◌^◌}
use native.Mathlib.Nat.{zero-add}
use native.Mathlib.Omega.{arith}
use borrow.Author.Tests.{ltb-true, ltb-false}
use lib.Dec.{ltb}
use lib.Ieee.{Float, nan, inf, fin, binary64, of_bits, up, down, neg, lt, sub}
use Rattle.component.specs.Parameter.{zero_number, epsilon, size_of, too_near}

zero_bits : of_bits binary64 0 ≡ zero_number
unfolding of_bits
zero_bits = refl

epsilon-bits : of_bits binary64 4372995238176751616 ≡ epsilon
unfolding of_bits
epsilon-bits = refl

-- ---- a size, by the test below 0: -0 has the size +0, and neither test tells the two apart
size_below : (d : Float) → lt d zero_number ≡ true → neg d ≡ size_of d
unfolding lt
size_below nan h = absurd (true≢false (sym h))
size_below (inf true) h = refl
size_below (inf false) h = absurd (true≢false (sym h))
size_below (fin true m e) h = refl
size_below (fin false m e) h = absurd (let k = ltb-true (m * up e * 1) (0 * 1 * down e) h in let z : ⊥ = omega arith in z)

none : (a b : ℕ) → a ≡ 0 → ltb 0 (a + b) ≡ ltb a b
none a b e = rw e (ap (ltb 0) (zero-add b))

size_not_below : (d : Float) → lt d zero_number ≡ false → lt d epsilon ≡ lt (size_of d) epsilon
unfolding lt neg
size_not_below nan h = refl
size_not_below (inf true) h = absurd (true≢false h)
size_not_below (inf false) h = refl
size_not_below (fin false m e) h = refl
size_not_below (fin true m e) h =
    let k = ltb-false 0 (m * up e * 1 + 0 * 1 * down e) h in
    let z : m * up e ≡ 0 = omega arith in
    none (m * up e * 2 ^ 52) (1 * 1 * down e) (rw z)

module _ (a b : Float) where
  -- a difference below 0 is tested negated
  pub near_below : lt (sub binary64 a b) (of_bits binary64 0) ≡ true → lt (neg (sub binary64 a b)) (of_bits binary64 4372995238176751616) ≡ too_near a b
  unfolding too_near
  near_below h = rw epsilon-bits (ap (λ (s : Float). lt s epsilon) (size_below (sub binary64 a b) (rw zero_bits at h)))

  -- any other as it is
  pub near_not_below : lt (sub binary64 a b) (of_bits binary64 0) ≡ false → lt (sub binary64 a b) (of_bits binary64 4372995238176751616) ≡ too_near a b
  unfolding too_near
  near_not_below h = rw epsilon-bits (size_not_below (sub binary64 a b) (rw zero_bits at h))
