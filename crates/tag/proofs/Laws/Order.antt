-- `before` is a strict total order of byte strings. Assumes nothing.
use mathlib.Core.Path.{◌≡◌, refl, sym, ◌∙◌, ap₂}
use mathlib.Core.Logic.{◌⊎◌, inl, inr, ⊎_elim}
use mathlib.Core.Bool.{Bool, true, false, cond, ◌&&◌, ◌||◌, true≢false}
use mathlib.Core.List.{[], ◌∷◌}
use Prim.Native.Nat.{ℕ, ◌<◌}
use native.Mathlib.Omega.{arith}
use native.Mathlib.Decide.{dec_lt}
use lib.Dec.{ltb, eqb}
use borrow.Author.Tests.{ltb-true, eqb-true, lt-ltb, le-ltb, eq-eqb, ne_eqb}
use Rattle.std.specs.Cmp.Lexicographic.{slice_cmp}
use Rattle.std.proofs.Common.{Less, Equal, Greater}
use Rattle.std.specs.Ordering.{is_lt, nat_cmp, ordering_then}
use Rattle.tag.specs.Tags.{Tag, before}

-- by the first bytes: less, or the same and the rest stands ahead
module _ (a b : ℕ) (s t : Tag) where
  pub before_less : a < b → before (a ∷ s) (b ∷ t) ≡ true
  unfolding before
  before_less h = rw (lt-ltb a b h)

  pub before_more : b < a → before (a ∷ s) (b ∷ t) ≡ false
  unfolding before
  before_more h = rw (le-ltb a b (omega arith), ne_eqb a b (λ e. let z : ⊥ = omega arith in z))

  pub before_equal : a ≡ b → before (a ∷ s) (b ∷ t) ≡ before s t
  unfolding before
  before_equal e = rw (le-ltb a b (omega arith), eq-eqb a b e)

  pub before_cases : before (a ∷ s) (b ∷ t) ≡ true → (a < b) ⊎ ((a ≡ b) × (before s t ≡ true))
  unfolding before
  before_cases e = less (ltb a b) refl e
    where
      equal : (c : Bool) → eqb a b ≡ c → c && before s t ≡ true → (a < b) ⊎ ((a ≡ b) × (before s t ≡ true))
      equal true q h = inr (eqb-true a b q, h)
      equal false q h = absurd (true≢false (sym h))

      less : (c : Bool) → ltb a b ≡ c → c || (eqb a b && before s t) ≡ true → (a < b) ⊎ ((a ≡ b) × (before s t ≡ true))
      less true q h = inl (ltb-true a b q)
      less false q h = equal (eqb a b) refl h

pub before_irrefl : (t : Tag) → before t t ≡ false
unfolding before
before_irrefl [] = refl
before_irrefl (a ∷ t) = before_equal a a t t refl ∙ before_irrefl t

pub before_trans : (s t u : Tag) → before s t ≡ true → before t u ≡ true → before s u ≡ true
unfolding before
before_trans [] [] u p q = absurd (true≢false (sym p))
before_trans [] (b ∷ t) [] p q = absurd (true≢false (sym q))
before_trans [] (b ∷ t) (c ∷ u) p q = refl
before_trans (a ∷ s) [] u p q = absurd (true≢false (sym p))
before_trans (a ∷ s) (b ∷ t) [] p q = absurd (true≢false (sym q))
before_trans (a ∷ s) (b ∷ t) (c ∷ u) p q = go (before_trans s t u) (before_cases a b s t p) (before_cases b c t u q)
  where
    go : (before s t ≡ true → before t u ≡ true → before s u ≡ true) → (a < b) ⊎ ((a ≡ b) × (before s t ≡ true))
        → (b < c) ⊎ ((b ≡ c) × (before t u ≡ true)) → before (a ∷ s) (c ∷ u) ≡ true
    go ih (inl h) (inl k) = before_less a c s u (omega arith)
    go ih (inl h) (inr k) = before_less a c s u (omega arith)
    go ih (inr h) (inl k) = before_less a c s u (omega arith)
    go ih (inr h) (inr k) = before_equal a c s u (h.0 ∙ k.0) ∙ ih h.1 k.1

pub before_asym : (s t : Tag) → before s t ≡ true → before t s ≡ false
before_asym s t p = go (before t s) refl
  where
    go : (b : Bool) → before t s ≡ b → before t s ≡ false
    go true e = absurd (true≢false (sym (before_trans s t s p e) ∙ before_irrefl s))
    go false e = e

-- one of two stands ahead, or they are the same
pub before-total : (s t : Tag) → (before s t ≡ true) ⊎ ((s ≡ t) ⊎ (before t s ≡ true))
unfolding before
before-total [] [] = inr (inl refl)
before-total [] (b ∷ t) = inl refl
before-total (a ∷ s) [] = inr (inr refl)
before-total (a ∷ s) (b ∷ t) = go (before-total s t) (dec_lt a b) (dec_lt b a)
  where
    go : (before s t ≡ true) ⊎ ((s ≡ t) ⊎ (before t s ≡ true)) → Dec (a < b) → Dec (b < a)
        → (before (a ∷ s) (b ∷ t) ≡ true) ⊎ ((a ∷ s ≡ b ∷ t) ⊎ (before (b ∷ t) (a ∷ s) ≡ true))
    go ih (yes h) k = inl (before_less a b s t h)
    go ih (no h) (yes k) = inr (inr (before_less b a t s k))
    go (inl p) (no h) (no k) = inl (before_equal a b s t (omega arith) ∙ p)
    go (inr (inl p)) (no h) (no k) = inr (inl (ap₂ ◌∷◌ (let e : a ≡ b = omega arith in e) p))
    go (inr (inr p)) (no h) (no k) = inr (inr (before_equal b a t s (omega arith) ∙ p))

-- of two of which neither stands ahead
pub before_level : (s t : Tag) → before s t ≡ false → before t s ≡ false → s ≡ t
before_level s t p q =
    ⊎_elim
    (λ x. absurd (true≢false (sym x ∙ p)))
    (⊎_elim (λ x. x) (λ x. absurd (true≢false (sym x ∙ q))))
    (before-total s t)

-- what does not stand ahead of t is t or behind it
pub before_not : (s t : Tag) → before s t ≡ false → (s ≡ t) ⊎ (before t s ≡ true)
before_not s t p = ⊎_elim (λ x. absurd (true≢false (sym x ∙ p))) (λ x. x) (before-total s t)

-- what `<` of slices computes
pub less_before : (s t : Tag) → is_lt (slice_cmp nat_cmp s t) ≡ before s t
unfolding before
less_before [] [] = refl
less_before [] (b ∷ t) = refl
less_before (a ∷ s) [] = refl
less_before (a ∷ s) (b ∷ t) = go (ltb a b) (eqb a b) (less_before s t)
  where
    go : (c d : Bool) → is_lt (slice_cmp nat_cmp s t) ≡ before s t
        → is_lt (ordering_then (cond c Less (cond d Equal Greater)) (slice_cmp nat_cmp s t)) ≡ c || (d && before s t)
    go true d e = refl
    go false true e = e
    go false false e = refl
