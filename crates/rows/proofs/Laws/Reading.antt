-- What is read at a place. Assumes nothing.
use Prim.Native.Nat.{ℕ, zero, suc, ◌+◌, ◌*◌, ◌-◌, ◌≤◌, ◌<◌}
use mathlib.Core.Path.{◌≡◌, refl, ap, ◌∙◌}
use mathlib.Core.Bool.{Bool, true, false, ◌&&◌, cond}
use mathlib.Core.List.{List, [], ◌∷◌, ◌++◌}
use mathlib.Core.Option.{Option, none, some}
use native.Mathlib.Numerals.{add-one}
use native.Mathlib.Omega.{arith}
use lib.ListN.{get_or, take, drop}
use borrow.Author.Tests.{le-leb, lt-leb, eq-eqb}
use Rattle.rows.specs.Rows.{blank, text_in, append, rows_in, place_row, places_in}
use Rattle.rows.proofs.Laws.Tests.{and_true}

pub zeros_blank : (s : List ℕ) (at n : ℕ) → ((j : ℕ) → j < n → get_or s (at + j) 0 ≡ 0) → blank s at n ≡ true
unfolding blank
zeros_blank s at zero h = refl
zeros_blank s at (suc n) h = and_true (zeros_blank s at n (λ j l. h j (omega arith))) (eq-eqb (get_or s (at + n) 0) 0 (h n (omega arith)))

-- ---- tags

module _ (n : ℕ) (s : List ℕ) (at : ℕ) where
  pub text-long : 32 < n → text_in n s at ≡ none
  unfolding text_in
  text-long h = ap (λ (b : Bool). cond (b && blank s (at + n) (32 - n)) (some (take n (drop at s))) none) (lt-leb n 32 h)

  text_is : (b : Bool) → n ≤ 32 → blank s (at + n) (32 - n) ≡ b → text_in n s at ≡ cond b (some (take n (drop at s))) none
  unfolding text_in
  text_is b h e =
      ap (λ (t : Bool). cond (t && blank s (at + n) (32 - n)) (some (take n (drop at s))) none) (le-leb n 32 h)
      ∙ ap (λ (t : Bool). cond t (some (take n (drop at s))) none) e

  pub text_dirty : n ≤ 32 → blank s (at + n) (32 - n) ≡ false → text_in n s at ≡ none
  text_dirty h e = text_is false h e

  pub text_clean : n ≤ 32 → blank s (at + n) (32 - n) ≡ true → text_in n s at ≡ some (take n (drop at s))
  text_clean h e = text_is true h e

-- ---- rows

module _ {A : Type 0} (row : ℕ → Option A) where
  pub rows_append : (i : ℕ) {xs : List A} {x : A} → rows_in row i ≡ some xs → row i ≡ some x → rows_in row (i + 1) ≡ some (xs ++ (x ∷ []))
  unfolding rows_in
  rows_append i {xs} p q = rw add-one (ap (λ (o : Option (List A)). append o (row i)) p ∙ ap (append (some xs)) q)

module _ (n : ℕ) (s : List ℕ) (at : ℕ) where
  pub places-many : 3 < n → places_in n s at ≡ none
  unfolding places_in
  places-many h = ap (λ (t : Bool). cond (t && blank s (at + 40 * n) (40 * (3 - n))) (rows_in (place_row s at) n) none) (lt-leb n 3 h)

  pub places_is : {b : Bool} → n ≤ 3 → blank s (at + 40 * n) (40 * (3 - n)) ≡ b → places_in n s at ≡ cond b (rows_in (place_row s at) n) none
  unfolding places_in
  places_is h e =
      ap (λ (t : Bool). cond (t && blank s (at + 40 * n) (40 * (3 - n))) (rows_in (place_row s at) n) none) (le-leb n 3 h)
      ∙ ap (λ (t : Bool). cond t (rows_in (place_row s at) n) none) e
