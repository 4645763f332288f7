-- A row held against those behind it, in a table whose rows have tags by f. Assumes nothing.
use mathlib.Core.Path.{◌≡◌, refl, sym, ◌∙◌, ap}
use mathlib.Core.Bool.{Bool, true, false, not, ◌||◌, cond}
use mathlib.Core.List.{List, [], ◌∷◌, map}
use Prim.Native.Nat.{ℕ, ◌+◌}
use lib.ListN.{take, drop}
use lib.Seq.{drop-drop}
use Rattle.std.specs.Prelude.{Option, Some, is_some}
use Rattle.std.specs.List.{position, position_from, list_all, enumerate_from}
use Rattle.std.proofs.lemmas.Iterator.Adapters.{position_from-zero}
use Rattle.tag.specs.Tags.{Tag, is}
use Rattle.model.specs.Table.{held, distinct}
use Rattle.model.specs.View.{rows}

-- whether a table's rows, each by its tag, have a tag of their own
abbrev pub seen : {A : Type 0} → (A → Tag) → List A → Bool
seen f xs = distinct (map (λ x. (f x, x)) xs)

not-not : (b : Bool) → b ≡ not (not b)
not-not true = refl
not-not false = refl

module _ {A : Type 0} (f : A → Tag) where
  -- a search finds what the table holds
  found_from : (t : Tag) (k : ℕ) (xs : List A) → is_some (position_from (λ x. is (f x) t) k xs) ≡ held t (map (λ x. (f x, x)) xs)
  unfolding held
  found_from t k [] = refl
  found_from t k (x ∷ xs) = go (is (f x) t) (position_from (λ y. is (f y) t) (k + 1) xs) (found_from t (k + 1) xs)
    where
      go : (b : Bool) (o : Option ℕ) {h : Bool} → is_some o ≡ h → is_some (cond b (Some k) o) ≡ (b || h)
      go true o e = refl
      go false o e = e

  found : (t : Tag) (xs : List A) → is_some (position (λ x. is (f x) t) xs) ≡ held t (map (λ x. (f x, x)) xs)
  found t xs = ap is_some (position_from-zero (λ x. is (f x) t) xs) ∙ found_from t 0 xs

  -- whether no row behind a place has the tag of the row there
  abbrev pub alone : List A → ℕ × A → Bool
  alone table p = not (is_some (position (λ x. is (f x) (f p.1)) (drop (p.0 + 1) table)))

  -- what a search behind the place answers
  pub alone_is : (table : List A) (i : ℕ) (x : A) {t : Tag} {o : Option ℕ} {b : Bool} → t ≡ f x → is_some o ≡ not b → o ≡ position (λ y. is (f y) t) (drop (i + 1) table) → b ≡ alone table (i, x)
  alone_is table i x {b = b} tag answer sought = not-not b ∙ ap not (sym answer ∙ rw (sought, tag) refl)

  alone_from : (table : List A) (n : ℕ) (xs : List A) → drop n table ≡ xs → list_all (alone table) (enumerate_from n xs) ≡ seen f xs
  unfolding distinct
  alone_from table n [] e = refl
  alone_from table n (x ∷ xs) e =
      let behind : drop (n + 1) table ≡ xs = sym (drop-drop 1 n table) ∙ ap (drop 1) e in
      rw (behind, found (f x) xs, alone_from table (n + 1) xs behind)

  pub all_alone : (table : List A) → list_all (alone table) (enumerate_from 0 table) ≡ seen f table
  all_alone table = alone_from table 0 table refl

-- ---- as a table by tag

module _ {A B : Type 0} (g : A → Tag × B) where
  held_rows : (t : Tag) (xs : List A) → held t (map (λ x. ((g x).0, x)) xs) ≡ held t (map g xs)
  unfolding held
  held_rows t [] = refl
  held_rows t (x ∷ xs) = ap (λ b. is (g x).0 t || b) (held_rows t xs)

  seen_rows : (xs : List A) → seen (λ x. (g x).0) xs ≡ distinct (map g xs)
  unfolding distinct
  seen_rows [] = refl
  seen_rows (x ∷ xs) = rw (held_rows (g x).0 xs, seen_rows xs)

  -- a slice of live rows
  pub distinct_rows : (table : List A) (n : ℕ) {xs : List A} → xs ≡ take n table → seen (λ x. (g x).0) xs ≡ distinct (rows g n table)
  unfolding rows
  distinct_rows table n {xs} e = seen_rows xs ∙ ap (λ ys. distinct (map g ys)) e
