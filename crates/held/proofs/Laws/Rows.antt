-- Live rows: one row passed, stored, appended, taken off. Assumes nothing.
use mathlib.Core.Path.{◌≡◌, refl, sym, ◌∙◌, ap}
use mathlib.Core.Bool.{Bool, true, false, ◌&&◌}
use mathlib.Core.List.{List, [], ◌∷◌, ◌++◌, map}
use Prim.Native.Nat.{ℕ, ◌+◌, ◌<◌, ◌≤◌, min}
use native.Mathlib.Numerals.{add-one}
use native.Mathlib.Omega.{arith}
use lib.ListN.{take, drop, length, get_or, set, length-take, length-map, get_or-map, drop_of_length-le}
use lib.Seq.{drop-cons, get_or-take, take-set-lt, take-suc-set, take-take}
use lib.Ieee.{nan}
use Rattle.tag.specs.declared.Tag.{Tag as Label}
use Rattle.component.specs.declared.model_component.Component.TheVariants.{Constant}
use Rattle.std.specs.Prelude.{None}
use Rattle.std.specs.List.{list_all}
use Rattle.std.proofs.lemmas.List.{map-append, map-set, take-map}
use Rattle.model.specs.declared.implicit_model.ComponentEntry.{ComponentEntry}
use Rattle.model.specs.declared.implicit_model.InputList.{InputList}
use Rattle.model.specs.View.{PlaceRecord, rows, every}
use Rattle.held.specs.Search.{Live}

-- what the code's tables read as past their ends, where nothing reads them
abbrev pub no_tag : Label
no_tag = record { bytes = []; len = 0 }

abbrev pub no_place : PlaceRecord
no_place = None

abbrev pub no_entry : ComponentEntry
no_entry = record { tag = no_tag; component = Constant nan }

abbrev pub no_list : InputList
no_list = record { tag = no_tag; count = 0; places = [] }

module _ {A B : Type 0} (g : A → B) (table : List A) where
  pub rows-length : (n : ℕ) → length (rows g n table) ≡ min n (length table)
  unfolding rows
  rows-length n = length-map (take n table) g ∙ length-take n table

  pub rows_at : (n i : ℕ) (d : A) → i < length (rows g n table) → get_or (rows g n table) i (g d) ≡ g (get_or table i d)
  unfolding rows
  rows_at n i d h = get_or-map g (take n table) i d ∙ ap g (get_or-take n table i d (omega (arith, rows-length n)))

  pub rows_next : (n i : ℕ) (d : A) → i < length (rows g n table) → drop i (rows g n table) ≡ g (get_or table i d) ∷ drop (i + 1) (rows g n table)
  rows_next n i d h = rw (drop-cons (rows g n table) i (g d) h, rows_at n i d h, add-one)

  pub rows-set : (n i : ℕ) (x : A) → i < n → rows g n (set table i x) ≡ set (rows g n table) i (g x)
  unfolding rows
  rows-set n i x h = ap (map g) (take-set-lt n table i x h) ∙ map-set g (take n table) i x

  pub rows_more : (n : ℕ) (x : A) → n < length table → rows g (n + 1) (set table n x) ≡ rows g n table ++ (g x ∷ [])
  unfolding rows
  rows_more n x h = rw add-one (ap (map g) (take-suc-set table n x h) ∙ map-append g (take n table) (x ∷ []))

  pub rows_less : (n k : ℕ) → k ≤ n → rows g k table ≡ take k (rows g n table)
  unfolding rows
  rows_less n k h = ap (map g) (sym (take-take k n table h)) ∙ sym (take-map g k (take n table))

  -- a slice of the live rows
  pub rows-live : {xs : List A} (count cap : ℕ) → xs ≡ take count table → length xs ≡ min count cap → Live (rows g count table) count cap (length xs)
  unfolding rows
  rows-live count cap e b = record { live = ap length e ∙ sym (length-map (take count table) g); bound = b }

-- one test passed
module _ (xs : List Bool) (i : ℕ) {b : Bool} (next : drop i xs ≡ b ∷ drop (i + 1) xs) where
  pub every_hit : b ≡ true → every (drop i xs) ≡ every (drop (i + 1) xs)
  every_hit f = rw (next, f)

  pub every_miss : b ≡ false → every (drop i xs) ≡ false
  every_miss f = rw (next, f)

pub every_end : (xs : List Bool) (i : ℕ) → length xs ≤ i → every (drop i xs) ≡ true
every_end xs i h = rw (drop_of_length-le xs h)

-- what `all` answers of a slice, and of the live rows
pub every_map : {A : Type 0} (p : A → Bool) (xs : List A) → list_all p xs ≡ every (map p xs)
every_map p [] = refl
every_map p (x ∷ xs) = ap (λ b. p x && b) (every_map p xs)

pub every_rows : {A : Type 0} (p : A → Bool) (table : List A) (n : ℕ) {xs : List A} → xs ≡ take n table → list_all p xs ≡ every (rows p n table)
unfolding rows
every_rows p table n {xs} e = every_map p xs ∙ ap (λ ys. every (map p ys)) e
