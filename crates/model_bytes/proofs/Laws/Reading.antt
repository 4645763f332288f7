-- What is read at a place, and rows that are read one after another. Assumes nothing.
use Prim.Native.Nat.{ℕ, zero, suc, ◌+◌, ◌*◌, ◌-◌, ◌≤◌, ◌<◌}
use mathlib.Core.Path.{◌≡◌, refl, sym, ap, subst, ◌∙◌}
use mathlib.Core.Logic.{◌⊎◌, inl, inr}
use mathlib.Core.Bool.{Bool, true, false, cond}
use mathlib.Core.List.{List}
use mathlib.Core.Option.{Option as Maybe, none, some, map}
use native.Mathlib.Nat.{eq-or-lt_of_le, le_of_suc-le-suc}
use native.Mathlib.Omega.{arith}
use lib.ListN.{length, get_or, take, drop}
use lib.Seq.{take-take}
use borrow.Author.Tests.{le-leb}
use Rattle.std.specs.Prelude.{Option, Some, None, MatchOption}
use Rattle.std.specs.Bool.{then_some}
use Rattle.tag.specs.declared.Tag.{Tag as Label}
use Rattle.tag.specs.Tags.{Tag}
use Rattle.tag.specs.View.{bytes_of, tag_fits}
use Rattle.component.specs.declared.model_component.Component.{Component}
use Rattle.model.specs.declared.implicit_model.InputList.{InputList}
use Rattle.model.specs.Model.{Place}
use Rattle.model.specs.View.{rows, every, place_of, place_fits, list_fits}
use Rattle.rows.proofs.Laws.Writing.{rows_one}
use Rattle.layout.specs.Words.{word}
use Rattle.rows.specs.Rows.{blank, text_in, tag_in, place_from, place_in, component_in, append, rows_in, place_row, places_in}
use Rattle.rows.proofs.Laws.Tests.{and_true, every_append}
use Rattle.row_reading.proofs.Laws.{blank_as}
use Rattle.rows.proofs.Laws.Reading.{text_dirty, text_clean, rows_append, places-many, places_is}
use Rattle.model_bytes.specs.ModelBytes.{both, entry_in, list_in}
use Rattle.model_bytes.specs.Steps.{Read, all_fit}

-- ---- tags

module _ (n : ℕ) (s : List ℕ) (at : ℕ) where
  module _ {b : Bool} (short : n ≤ 32) (e : b ≡ blank s (at + n) (at + 32 - (at + n))) where
    rest : blank s (at + n) (32 - n) ≡ b
    rest = blank_as s (at + n) (at + 32) (32 - n) e (omega arith)

    pub text_unread : b ≡ false → text_in n s at ≡ none
    text_unread f = text_dirty n s at short (rest ∙ f)

    pub text_read : b ≡ true → {bytes : List ℕ} → bytes ≡ take 32 (drop at s) → Read bytes_of tag_fits (text_in n s at) (Some (record { bytes = bytes; len = n }))
    unfolding bytes_of tag_fits
    text_read t f = (text_clean n s at short (rest ∙ t) ∙ ap some (sym (ap (take n) f ∙ take-take n 32 (drop at s) short)), le-leb n 32 short)

pub tag_read : (s : List ℕ) (at : ℕ) (t : Option Label) {n : ℕ} → n ≡ word s at → Read bytes_of tag_fits (text_in n s (at + 8)) t → Read bytes_of tag_fits (tag_in s at) t
unfolding tag_in
tag_read s at t e h = subst (λ (k : ℕ). Read bytes_of tag_fits (text_in k s (at + 8)) t) e h

-- ---- places

module _ (s : List ℕ) (at : ℕ) {n : ℕ} (w : n ≡ word s at) where
  pub place-blank : n ≡ 0 → (b : Bool) → b ≡ blank s (at + 8) 32 → Read place_of place_fits (place_in s at) (then_some b None)
  unfolding place_in place_from place_of place_fits
  place-blank e b f = go b (sym (ap (λ (b : Bool). cond b (some none) none) f ∙ ap (λ (k : ℕ). place_from k s (at + 8)) (sym e ∙ w)))
    where
      go : (b : Bool) → place_in s at ≡ cond b (some none) none → Read place_of place_fits (place_in s at) (then_some b None)
      go true q = (q, refl)
      go false q = q

  module _ (some-bytes : n ≡ 0 → ⊥) where
    from_text : {o : Maybe Tag} → text_in (n - 1) s (at + 8) ≡ o → place_in s at ≡ map some o
    unfolding place_in place_from
    from_text e = sym (ap (map some) (sym e) ∙ ap (λ (k : ℕ). place_from k s (at + 8)) (let z : suc (n - 1) ≡ n = omega (arith, some-bytes) in z ∙ w))

    pub place-untold : text_in (n - 1) s (at + 8) ≡ none → place_in s at ≡ none
    place-untold e = from_text e

    pub place-text : (t : Label) → Read bytes_of tag_fits (text_in (n - 1) s (at + 8)) (Some t) → Read place_of place_fits (place_in s at) (Some (Some t))
    unfolding place_of place_fits
    place-text t h = (from_text h.0, h.1)

-- ---- rows

module _ {A : Type 0} (row : ℕ → Maybe A) where
  pub rows_none : (i n : ℕ) → i < n → row i ≡ none → rows_in row n ≡ none
  unfolding rows_in
  rows_none i zero h e = absurd (omega arith)
  rows_none i (suc n) h e = go (eq-or-lt_of_le (le_of_suc-le-suc h)) (λ l. rows_none i n l e)
    where
      last : (o : Maybe (List A)) {x : Maybe A} → x ≡ none → append o x ≡ none
      last none q = refl
      last (some xs) q = ap (append (some xs)) q

      go : i ≡ n ⊎ i < n → (i < n → rows_in row n ≡ none) → append (rows_in row n) (row n) ≡ none
      go (inl q) r = last (rows_in row n) (ap row (sym q) ∙ e)
      go (inr l) r = ap (λ (o : Maybe (List A)). append o (row n)) (r l)

module _ {A B : Type 0} (g : A → B) (sized : A → Bool) (row : ℕ → Maybe B) where
  -- each of the first n rows, read into a table
  table_read : (n : ℕ) (table : List A) (d : A) → n ≤ length table → ((i : ℕ) → i < n → Read g sized (row i) (Some (get_or table i d))) → Read (rows g n) (all_fit sized n) (rows_in row n) (Some table)
  unfolding rows rows_in
  table_read zero table d h each = (refl, refl)
  table_read (suc n) table d h each =
      let below = table_read n table d (omega arith) (λ i l. each i (omega arith)) in
      let last = each n (omega arith) in
      subst (λ (k : ℕ). Read (rows g k) (all_fit sized k) (rows_in row k) (Some table)) (let z : n + 1 ≡ suc n = omega arith in z) (
        rows_append row n below.0 last.0 ∙ ap some (sym (rows_one g table n d h)),
        ap every (rows_one sized table n d h) ∙ every_append (rows sized n table) (sized (get_or table n d)) ∙ and_true below.1 last.1,
      )

  -- what a reader gave of each of them, or that it gave one of them as none
  pub rows_read : (n size : ℕ) (d : A) (reads : ℕ → Option A → Type 0) (r : Option (List A)) → n ≤ size
      → MatchOption r ((i : ℕ) × (o : Option A) × (i < n) × (o ≡ None) × reads i o) (λ table. (length table ≡ size) × ((i : ℕ) → i < n → reads i (Some (get_or table i d))))
      → ((i : ℕ) (o : Option A) → i < n → reads i o → Read g sized (row i) o) → Read (rows g n) (all_fit sized n) (rows_in row n) r
  rows_read n size d reads None h (i, o, l, e, x) each = rows_none row i n l (subst (Read g sized (row i)) e (each i o l x))
  rows_read n size d reads (Some table) h (e, x) each = table_read n table d (omega (arith, e)) (λ i l. each i (Some (get_or table i d)) l (x i l))

-- ---- a row of each table

pub both-none : {A B : Type 0} (a : Maybe A) {b : Maybe B} → b ≡ none → both a b ≡ none
both-none none e = refl
both-none (some a) e = ap (both (some a)) e

module _ (s : List ℕ) (at : ℕ) where
  pub entry_no_tag : tag_in s at ≡ none → entry_in s at ≡ none
  unfolding entry_in
  entry_no_tag e = ap (λ o. both o (component_in s (at + 40))) e

  pub entry_no_component : component_in s (at + 40) ≡ none → entry_in s at ≡ none
  unfolding entry_in
  entry_no_component e = both-none (tag_in s at) e

  pub entry_is : {t : Tag} {c : Component} → tag_in s at ≡ some t → component_in s (at + 40) ≡ some c → entry_in s at ≡ some (t, c)
  unfolding entry_in
  entry_is {t} p q = ap (λ o. both o (component_in s (at + 40))) p ∙ ap (both (some t)) q

  pub list_no_tag : tag_in s at ≡ none → list_in s at ≡ none
  unfolding list_in
  list_no_tag e = ap (λ o. both o (places_in (word s (at + 40)) s (at + 48))) e

  module _ {n : ℕ} (w : n ≡ word s (at + 40)) where
    list_no_places : places_in n s (at + 48) ≡ none → list_in s at ≡ none
    unfolding list_in
    list_no_places e = both-none (tag_in s at) (ap (λ (k : ℕ). places_in k s (at + 48)) (sym w) ∙ e)

    pub list_by : {t : Tag} {ps : List Place} → tag_in s at ≡ some t → places_in n s (at + 48) ≡ some ps → list_in s at ≡ some (t, ps)
    unfolding list_in
    list_by {t} p q =
        ap (λ o. both o (places_in (word s (at + 40)) s (at + 48))) p
        ∙ ap (both (some t)) (ap (λ (k : ℕ). places_in k s (at + 48)) (sym w) ∙ q)

    pub list-many : 3 < n → list_in s at ≡ none
    list-many h = list_no_places (places-many n s (at + 48) h)

    module _ (h : n ≤ 3) where
      pub list_dirty : blank s (at + 48 + 40 * n) (40 * (3 - n)) ≡ false → list_in s at ≡ none
      list_dirty e = list_no_places (places_is n s (at + 48) h e)

      module _ (clean : blank s (at + 48 + 40 * n) (40 * (3 - n)) ≡ true) where
        pub list-unread : rows_in (place_row s (at + 48)) n ≡ none → list_in s at ≡ none
        list-unread e = list_no_places (places_is n s (at + 48) h clean ∙ e)

        pub list_is : {t : Tag} {ps : List Place} → tag_in s at ≡ some t → rows_in (place_row s (at + 48)) n ≡ some ps → list_in s at ≡ some (t, ps)
        list_is p q = list_by p (places_is n s (at + 48) h clean ∙ q)

-- the bytes of a list past its places, as they are asked for
pub places_rest : (s : List ℕ) (at n : ℕ) {b : Bool} → n ≤ 3 → b ≡ blank s (at + 48 + 40 * n) (at + 168 - (at + 48 + 40 * n)) → blank s (at + 48 + 40 * n) (40 * (3 - n)) ≡ b
places_rest s at n h e = blank_as s (at + 48 + 40 * n) (at + 168) (40 * (3 - n)) e (omega arith)

pub list_sized : (l : InputList) → tag_fits l.tag ≡ true → l.count ≤ 3 → every (rows place_fits l.count l.places) ≡ true → list_fits l ≡ true
unfolding list_fits
list_sized l p q r = rw (p, le-leb l.count 3 q, r)
