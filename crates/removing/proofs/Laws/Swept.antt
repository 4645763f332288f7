-- A loop that changes the live rows of a table in place, one after the other. Assumes nothing.
use mathlib.Core.Path.{◌≡◌, refl, sym, ◌∙◌, ap, subst}
use mathlib.Core.Bool.{Bool}
use mathlib.Core.List.{List, [], ◌∷◌, map}
use Prim.Native.Nat.{ℕ, zero, suc, ◌+◌, ◌<◌, ◌≤◌}
use native.Mathlib.Numerals.{add-one}
use native.Mathlib.Nat.{not-suc-le-zero, le_of_suc-le-suc}
use native.Mathlib.Omega.{arith}
use lib.Dec.{T}
use lib.ListN.{length, get_or, set, length-set}
use Rattle.model.specs.View.{rows, every}
use Rattle.held.proofs.Laws.Rows.{rows-length, rows_at, rows-set}
use Rattle.held.proofs.Laws.Standing.{every_set}
use Rattle.edit.proofs.Laws.Stored.{row_fits}

-- the list with its first i entries changed
unfoldable pub changed : {A : Type 0} → (A → A) → ℕ → List A → List A
changed f i [] = []
changed f zero (x ∷ xs) = x ∷ xs
changed f (suc i) (x ∷ xs) = f x ∷ changed f i xs

module _ {A : Type 0} (f : A → A) where
  changed_none : (xs : List A) → changed f 0 xs ≡ xs
  unfolding changed
  changed_none [] = refl
  changed_none (x ∷ xs) = refl

  changed_all : (i : ℕ) (xs : List A) → length xs ≤ i → changed f i xs ≡ map f xs
  unfolding changed
  changed_all i [] h = refl
  changed_all zero (x ∷ xs) h = absurd (not-suc-le-zero h)
  changed_all (suc i) (x ∷ xs) h = ap (λ (l : List A). f x ∷ l) (changed_all i xs (le_of_suc-le-suc h))

  length_changed : (i : ℕ) (xs : List A) → length (changed f i xs) ≡ length xs
  unfolding changed
  length_changed i [] = refl
  length_changed zero (x ∷ xs) = refl
  length_changed (suc i) (x ∷ xs) = ap suc (length_changed i xs)

  -- the entry at i, not yet changed, is changed
  changed_next : (i : ℕ) (d : A) (xs ys : List A) → i < length ys → xs ≡ changed f i ys → set xs i (f (get_or xs i d)) ≡ changed f (suc i) ys
  unfolding changed
  changed_next i d xs [] h e = absurd (not-suc-le-zero h)
  changed_next zero d xs (y ∷ ys) h e = rw (e, changed_none ys)
  changed_next (suc i) d xs (y ∷ ys) h e = rw e (ap (λ (l : List A). f y ∷ l) (changed_next i d (changed f i ys) ys (le_of_suc-le-suc h) refl))

-- of the first n rows of a table i are changed by f; and the rows still pass a test, if b
pub record Swept {A B : Type 0} (g : A → B) (f : B → B) (ok : A → Bool) (b : Bool) (n : ℕ) (old new : List A) (i : ℕ) : Type 0 where
  pub size : length new ≡ length old
  pub seen : rows g n new ≡ changed f i (rows g n old)
  pub fits : T b → T (every (rows ok n old)) → T (every (rows ok n new))

module _ {A B : Type 0} (g : A → B) (f : B → B) (ok : A → Bool) (b : Bool) (n : ℕ) (old : List A) where
  pub swept_start : Swept g f ok b n old old 0
  swept_start = record { size = refl; seen = sym (changed_none f (rows g n old)); fits = λ k h. h }

  pub swept_step : (new : List A) (i : ℕ) (d x : A) → Swept g f ok b n old new i → i < length (rows g n old) → g x ≡ f (g (get_or new i d)) → (T b → T (ok (get_or new i d)) → T (ok x))
      → Swept g f ok b n old (set new i x) (i + 1)
  swept_step new i d x s h q o =
      let lo = rows-length g old n in
      let k : i < n = omega arith in
      let ln : length (rows g n new) ≡ length (rows g n old) = ap length s.seen ∙ length_changed f i (rows g n old) in
      let e : rows g n (set new i x) ≡ changed f (suc i) (rows g n old) =
      rows-set g new n i x k ∙ (ap (set (rows g n new) i) (q ∙ ap f (sym (rows_at g new n i d (omega arith)))) ∙ changed_next f i (g d) (rows g n new) (rows g n old) h s.seen) in
      record {
        size = length-set new i x ∙ s.size;
        seen = rw add-one e;
        fits = λ t a. subst (λ (bs : List Bool). T (every bs)) (sym (rows-set ok new n i x k))
            (every_set (rows ok n new) i (ok x) (s.fits t a) (o t (row_fits ok new n i d (s.fits t a) k (omega (arith, s.size)))));
      }

  pub swept_end : (new : List A) (i : ℕ) → Swept g f ok b n old new i → length (rows g n old) ≤ i → rows g n new ≡ map f (rows g n old)
  swept_end new i s h = s.seen ∙ changed_all f i (rows g n old) h
