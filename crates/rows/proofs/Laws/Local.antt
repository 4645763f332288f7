-- What is read at a place depends on its own bytes alone. Assumes nothing.
use Prim.Native.Nat.{ℕ, zero, suc, ◌+◌, ◌*◌, ◌-◌, ◌≤◌, ◌<◌}
use mathlib.Core.Path.{◌≡◌, refl, ap, ◌∙◌}
use mathlib.Core.Bool.{Bool, true, false, ◌&&◌, cond}
use mathlib.Core.List.{List}
use mathlib.Core.Option.{Option, none, some, map}
use native.Mathlib.Omega.{arith}
use lib.Dec.{leb, eqb}
use lib.ListN.{get_or}
use borrow.Author.Tests.{leb-true}
use Rattle.layout.specs.Words.{word}
use Rattle.layout.proofs.Kept.{Agree, agree_within, word_same, bytes_same}
use Rattle.rows.specs.Rows.{blank, text_in, tag_in, place_from, place_in, six_in, component_of_words, component_in, append, rows_in, place_row, places_in}

pub blank_local : {s t : List ℕ} {at : ℕ} (n : ℕ) → Agree s t at n → blank t at n ≡ blank s at n
unfolding blank
blank_local zero p = refl
blank_local {s} {t} {at} (suc n) p =
    ap (λ (b : Bool). b && eqb (get_or t (at + n) 0) 0) (blank_local n (agree_within at n p (omega arith) (omega arith)))
    ∙ ap (λ (x : ℕ). blank s at n && eqb x 0) (p.same (at + n) (omega arith) (omega arith))

-- a number within a bound, or past it
module _ {A : Type 0} (n k : ℕ) {x y : Bool} {a b : Option A} where
  within : (n ≤ k → (x ≡ y) × (a ≡ b)) → cond (leb n k && x) a none ≡ cond (leb n k && y) b none
  within h = go (leb n k) refl
    where
      go : (t : Bool) → leb n k ≡ t → cond (t && x) a none ≡ cond (t && y) b none
      go true e = let q = h (leb-true n k e) in ap (λ (t : Bool). cond t a none) q.0 ∙ ap (λ (o : Option A). cond y o none) q.1
      go false e = refl

pub text_local : {s t : List ℕ} {at : ℕ} (n : ℕ) → Agree s t at 32 → text_in n t at ≡ text_in n s at
unfolding text_in
text_local {s} {t} {at} n p =
    within n 32
    (λ h. (
      blank_local (32 - n) (agree_within (at + n) (32 - n) p (omega arith) (omega arith)),
      ap some (bytes_same (agree_within at n p (omega arith) (omega arith))),
    ))

pub tag_local : {s t : List ℕ} {at : ℕ} → Agree s t at 40 → tag_in t at ≡ tag_in s at
unfolding tag_in
tag_local {s} {t} {at} p =
    ap (λ (n : ℕ). text_in n t (at + 8)) (word_same (agree_within at 8 p (omega arith) (omega arith)))
    ∙ text_local (word s at) (agree_within (at + 8) 32 p (omega arith) (omega arith))

place_from_local : {s t : List ℕ} {at : ℕ} (n : ℕ) → Agree s t at 32 → place_from n t at ≡ place_from n s at
unfolding place_from
place_from_local zero p = ap (λ (b : Bool). cond b (some none) none) (blank_local 32 p)
place_from_local (suc n) p = ap (map some) (text_local n p)

pub place_local : {s t : List ℕ} {at : ℕ} → Agree s t at 40 → place_in t at ≡ place_in s at
unfolding place_in
place_local {s} {t} {at} p =
    ap (λ (n : ℕ). place_from n t (at + 8)) (word_same (agree_within at 8 p (omega arith) (omega arith)))
    ∙ place_from_local (word s at) (agree_within (at + 8) 32 p (omega arith) (omega arith))

six_local : {s t : List ℕ} {at : ℕ} → Agree s t at 48 → six_in t at ≡ six_in s at
six_local {s} {t} {at} p =
    let w : (k : ℕ) → k + 8 ≤ 48 → word t (at + k) ≡ word s (at + k) = λ k h. word_same (agree_within (at + k) 8 p (omega arith) (omega arith)) in
    rw (word_same (agree_within at 8 p (omega arith) (omega arith)), w 8 (omega arith), w 16 (omega arith), w 24 (omega arith), w 32 (omega arith), w 40 (omega arith))

pub component_local : {s t : List ℕ} {at : ℕ} → Agree s t at 48 → component_in t at ≡ component_in s at
unfolding component_in
component_local {s} {t} {at} p = ap component_of_words (six_local p)

-- rows
module _ {A : Type 0} (f g : ℕ → Option A) where
  pub rows_local : (n : ℕ) → ((k : ℕ) → k < n → g k ≡ f k) → rows_in g n ≡ rows_in f n
  unfolding rows_in
  rows_local zero h = refl
  rows_local (suc n) h =
      ap (λ (o : Option (List A)). append o (g n)) (rows_local n (λ k l. h k (omega arith)))
      ∙ ap (append (rows_in f n)) (h n (omega arith))

pub places_local : {s t : List ℕ} {at : ℕ} (n : ℕ) → Agree s t at 120 → places_in n t at ≡ places_in n s at
unfolding places_in
places_local {s} {t} {at} n p =
    within n 3
    (λ h. (
      blank_local (40 * (3 - n)) (agree_within (at + 40 * n) (40 * (3 - n)) p (omega arith) (omega arith)),
      rows_local (place_row s at) (place_row t at) n (λ k l. place_local (agree_within (at + 40 * k) 40 p (omega arith) (omega arith))),
    ))
