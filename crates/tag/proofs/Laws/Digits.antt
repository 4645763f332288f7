-- Decimal numbers: different numbers have different digits, and the digits of a number one by one. Assumes nothing.
use mathlib.Core.Path.{◌≡◌, refl, sym, ◌∙◌, ap}
use mathlib.Core.Bool.{cond}
use mathlib.Core.List.{List, [], ◌∷◌, ◌++◌}
use Prim.Native.Nat.{ℕ, zero, suc, ◌+◌, ◌*◌, ◌-◌, ◌/◌, ◌%◌, ◌^◌, ◌<◌, ◌≤◌}
use native.Mathlib.Omega.{arith}
use native.Mathlib.Decide.{dec_lt}
use native.Mathlib.Nat.{pow-zero, pow-suc}
use lib.Dec.{ltb}
use lib.ListN.{take, drop, length, length-append}
use borrow.Author.Tests.{lt-ltb, le-ltb}
use Rattle.tag.specs.Tags.{decimal}

-- the last digit, and what stands ahead of it
pub decimal_few : (k n : ℕ) → n < 10 → decimal (suc k) n ≡ (48 + n % 10) ∷ []
unfolding decimal
decimal_few k n h = rw (lt-ltb n 10 h) (ap (λ (d : ℕ). (48 + d) ∷ []) (let e : n ≡ n % 10 = omega arith in e))

pub decimal-more : (k n : ℕ) → 10 ≤ n → decimal (suc k) n ≡ decimal k (n / 10) ++ ((48 + n % 10) ∷ [])
unfolding decimal
decimal-more k n h = rw (le-ltb n 10 h)

-- the number that digits write
read : ℕ → List ℕ → ℕ
read a [] = a
read a (c ∷ r) = read (a * 10 + (c - 48)) r

read-last : (a : ℕ) (xs : List ℕ) (c : ℕ) → read a (xs ++ (c ∷ [])) ≡ read a xs * 10 + (c - 48)
unfolding read
read-last a [] c = refl
read-last a (x ∷ xs) c = read-last (a * 10 + (x - 48)) xs c

decimal_reads : (k n : ℕ) → n < 10 ^ k → read 0 (decimal k n) ≡ n
unfolding decimal read
decimal_reads zero n h = omega (arith, pow-zero 10)
decimal_reads (suc k) n h = go (decimal_reads k (n / 10) (omega (arith, pow-suc 10 k))) (dec_lt n 10)
  where
    go : read 0 (decimal k (n / 10)) ≡ n / 10 → Dec (n < 10) → read 0 (decimal (suc k) n) ≡ n
    go ih (yes p) = rw (decimal_few k n p) (omega arith)
    go ih (no p) = rw (decimal-more k n (omega arith), read-last 0 (decimal k (n / 10)) (48 + n % 10), ih) (omega arith)

pub decimal_injective : (k m n : ℕ) → m < 10 ^ k → n < 10 ^ k → decimal k m ≡ decimal k n → m ≡ n
decimal_injective k m n p q e = sym (decimal_reads k m p) ∙ ap (read 0) e ∙ decimal_reads k n q

decimal_one : (n : ℕ) → decimal 1 n ≡ (48 + n % 10) ∷ []
unfolding decimal
decimal_one n = go (dec_lt n 10)
  where
    go : Dec (n < 10) → decimal 1 n ≡ (48 + n % 10) ∷ []
    go (yes h) = decimal_few 0 n h
    go (no h) = decimal-more 0 n (omega arith)

-- a number has as many digits as asked for at most, and one at least
pub decimal-length : (k n : ℕ) → length (decimal k n) ≤ k
unfolding decimal
decimal-length zero n = omega arith
decimal-length (suc k) n = go (decimal-length k (n / 10)) (dec_lt n 10)
  where
    go : length (decimal k (n / 10)) ≤ k → Dec (n < 10) → length (decimal (suc k) n) ≤ suc k
    go ih (yes h) = rw (decimal_few k n h) (omega arith)
    go ih (no h) = rw (decimal-more k n (omega arith), length-append) (omega arith)

pub decimal_positive : (k n : ℕ) → 1 ≤ length (decimal (suc k) n)
decimal_positive k n = go (dec_lt n 10)
  where
    go : Dec (n < 10) → 1 ≤ length (decimal (suc k) n)
    go (yes h) = rw (decimal_few k n h) (omega arith)
    go (no h) = rw (decimal-more k n (omega arith), length-append) (omega arith)

-- four digits, and no zeros ahead of the number
module _ (k z d₃ d₂ d₁ d₀ : ℕ) (e : z ≡ cond (ltb k 10) 3 (cond (ltb k 100) 2 (cond (ltb k 1000) 1 0)))
    (e₃ : d₃ ≡ 48 + k / 1000 % 10) (e₂ : d₂ ≡ 48 + k / 100 % 10) (e₁ : d₁ ≡ 48 + k / 10 % 10) (e₀ : d₀ ≡ 48 + k % 10) where
  pub last_digits : decimal 4 k ≡ take (4 - z) (drop z (d₃ ∷ d₂ ∷ d₁ ∷ d₀ ∷ []))
  last_digits = go (dec_lt k 10) (dec_lt k 100) (dec_lt k 1000)
    where
      two : k / 10 / 10 ≡ k / 100
      two = omega arith

      three : k / 100 / 10 ≡ k / 1000
      three = omega arith

      go : Dec (k < 10) → Dec (k < 100) → Dec (k < 1000) → decimal 4 k ≡ take (4 - z) (drop z (d₃ ∷ d₂ ∷ d₁ ∷ d₀ ∷ []))
      go (yes p) q r = rw (decimal_few 3 k p, e, e₀, lt-ltb k 10 p)
      go (no p) (yes q) r = rw (decimal-more 3 k (omega arith), decimal_few 2 (k / 10) (omega arith), e, e₁, e₀, le-ltb k 10 (omega arith), lt-ltb k 100 q)
      go (no p) (no q) (yes r) =
          rw (decimal-more 3 k (omega arith), decimal-more 2 (k / 10) (omega arith), two, decimal_few 1 (k / 100) (omega arith))
          (rw (e, e₂, e₁, e₀, le-ltb k 10 (omega arith), le-ltb k 100 (omega arith), lt-ltb k 1000 r))
      go (no p) (no q) (no r) =
          rw (decimal-more 3 k (omega arith), decimal-more 2 (k / 10) (omega arith), two, decimal-more 1 (k / 100) (omega arith), three, decimal_one (k / 1000))
          (rw (e, e₃, e₂, e₁, e₀, le-ltb k 10 (omega arith), le-ltb k 100 (omega arith), le-ltb k 1000 (omega arith)))
