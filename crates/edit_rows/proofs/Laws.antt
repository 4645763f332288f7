-- Laws of rows of edits. Assumes nothing.
use Prim.Native.Nat.{ℕ, zero, suc, ◌+◌, ◌-◌, ◌/◌, ◌%◌, ◌≤◌, ◌<◌}
use mathlib.Core.Path.{◌≡◌, refl, sym, ap, ap₂, ◌∙◌}
use mathlib.Core.Bool.{Bool, true, false, false≢true, ◌&&◌, cond}
use mathlib.Core.List.{List, [], ◌∷◌}
use mathlib.Core.Option.{Option, none, some, map, none-ne-some}
use native.Mathlib.Omega.{arith}
use lib.Dec.{leb, eqb}
use lib.ListN.{length, get_or, take, drop, get_or-eq_default}
use lib.Seq.{take-take, drop-drop, get_or-take, get_or-drop}
use borrow.Author.Tests.{eq-eqb, ne_eqb, leb-true}
use Rattle.std.proofs.lemmas.List.{drop-take}
use Rattle.std.specs.List.{list_all}
use Rattle.std.specs.Option.{is_some as is_found}
use Rattle.std.specs.Prelude.{Option as Found, Some, None}
use Rattle.std.specs.Simd.{first_chunks}
use Rattle.model.specs.Edit.{Edit}
use Rattle.layout.specs.Words.{four, word, text}
use Rattle.layout.specs.Some.{is_some}
use Rattle.edit_rows.specs.declared.edit_row.Change.{Change}
use Rattle.edit_rows.specs.Changes.{change_read}
use Rattle.edit_rows.specs.EditRows.{texts_fit, component_at, data_at, nine, edit_at, ahead, rows_at, edits_of}

-- what was read is there
pub change_there : (r : Found Change) {o : Option Edit} → change_read r ≡ o → is_found r ≡ is_some o
change_there (Some c) e = ap is_some e
change_there None e = ap is_some e

module _ (s : List ℕ) (at : ℕ) where
  pub edit-none : texts_fit s at ≡ false → edit_at s at ≡ none
  unfolding edit_at
  edit-none h = ap (λ (b : Bool). cond b (get_or (nine s at) (word s at) none) none) h

  -- the edit of the row's number
  pub edit_is : {k : ℕ} → texts_fit s at ≡ true → word s at ≡ k → edit_at s at ≡ get_or (nine s at) k none
  unfolding edit_at
  edit_is {k} h e =
      ap (λ (b : Bool). cond b (get_or (nine s at) (word s at) none) none) h ∙ ap (λ (k : ℕ). get_or (nine s at) k none) e

  -- no edit has that number
  pub edit_beyond : (k : ℕ) → texts_fit s at ≡ true → word s at ≡ k → (1 ≤ k → 10 ≤ k) → none ≡ edit_at s at
  edit_beyond zero h e b = sym (edit_is h e)
  edit_beyond (suc k) h e b = sym (edit_is h e ∙ get_or-eq_default (nine s at) none (b (omega arith)))

  -- an edit of what was read, which is there, or not
  module _ {A : Type 0} {k : ℕ} (f : A → Edit) {o : Option A} (h : texts_fit s at ≡ true) (e : word s at ≡ k) (p : get_or (nine s at) k none ≡ map f o) where
    pub edit_there : {a : A} → some a ≡ o → some (f a) ≡ edit_at s at
    edit_there q = sym (edit_is h e ∙ p ∙ sym (ap (map f) q))

    pub edit_absent : none ≡ o → none ≡ edit_at s at
    edit_absent q = sym (edit_is h e ∙ p ∙ sym (ap (map f) q))

within : (a : ℕ) (b : Bool) → (leb a 40 && b) ≡ true → (a ≤ 40) × (b ≡ true)
within a b = go (leb a 40) refl
  where
    go : (c : Bool) → leb a 40 ≡ c → (c && b) ≡ true → (a ≤ 40) × (b ≡ true)
    go true e h = (leb-true a 40 e, h)
    go false e h = absurd (false≢true h)

-- ---- a row by itself, which is 256 bytes of the list

module _ (s : List ℕ) (at : ℕ) where
  abbrev row : List ℕ
  row = take 256 (drop at s)

  byte : (k j : ℕ) → k < 256 → at + k ≡ j → get_or row k 0 ≡ get_or s j 0
  byte k j h e = get_or-take 256 (drop at s) k 0 h ∙ get_or-drop at s k 0 ∙ ap (λ (n : ℕ). get_or s n 0) e

  word_in : (k : ℕ) → k + 8 ≤ 256 → word row k ≡ word s (at + k)
  unfolding word four
  word_in k h =
      rw (
        byte k (at + k) (omega arith) refl,
        byte (k + 1) (at + k + 1) (omega arith) (omega arith),
        byte (k + 2) (at + k + 2) (omega arith) (omega arith),
        byte (k + 2 + 1) (at + k + 2 + 1) (omega arith) (omega arith),
        byte (k + 4) (at + k + 4) (omega arith) (omega arith),
        byte (k + 4 + 1) (at + k + 4 + 1) (omega arith) (omega arith),
        byte (k + 4 + 2) (at + k + 4 + 2) (omega arith) (omega arith),
        byte (k + 4 + 2 + 1) (at + k + 4 + 2 + 1) (omega arith) (omega arith),
      )

  first : word row 0 ≡ word s at
  first = word_in 0 (omega arith) ∙ ap (word s) (let z : at + 0 ≡ at = omega arith in z)

  text_in : (k : ℕ) → k + 48 ≤ 256 → word s (at + k) ≤ 40 → text row k ≡ text s (at + k)
  unfolding text
  text_in k h w =
      ap (λ (n : ℕ). take n (drop (k + 8) row)) (word_in k (omega arith))
      ∙ ap (take (word s (at + k)))
      (ap (λ (n : ℕ). drop (k + 8) (take n (drop at s))) (let z : 256 ≡ k + 8 + (248 - k) = omega arith in z) ∙ drop-take (k + 8) (248 - k) (drop at s))
      ∙ take-take (word s (at + k)) (248 - k) (drop (k + 8) (drop at s)) (omega (arith, w, h))
      ∙ ap (take (word s (at + k))) (drop-drop (k + 8) at s ∙ ap (λ (n : ℕ). drop n s) (let z : at + (k + 8) ≡ at + k + 8 = omega arith in z))

  fits_in : texts_fit row 0 ≡ texts_fit s at
  unfolding texts_fit
  fits_in = rw (word_in 64 (omega arith), word_in 112 (omega arith), word_in 160 (omega arith), word_in 208 (omega arith))

  module _ (a : word s (at + 64) ≤ 40) (b : word s (at + 112) ≤ 40) (c : word s (at + 160) ≤ 40) (d : word s (at + 208) ≤ 40) where
    same_nine : get_or (nine row 0) (word row 0) none ≡ get_or (nine s at) (word s at) none
    unfolding component_at data_at
    same_nine =
        rw (
          text_in 64 (omega arith) a,
          text_in 112 (omega arith) b,
          text_in 160 (omega arith) c,
          text_in 208 (omega arith) d,
          first,
          word_in 8 (omega arith),
          word_in 16 (omega arith),
          word_in 24 (omega arith),
          word_in 32 (omega arith),
          word_in 40 (omega arith),
          word_in 48 (omega arith),
          word_in 56 (omega arith),
        )

  same_edit : texts_fit s at ≡ true → get_or (nine row 0) (word row 0) none ≡ get_or (nine s at) (word s at) none
  unfolding texts_fit
  same_edit h =
      let a = within _ _ h in
      let b = within _ _ a.1 in
      let c = within _ _ b.1 in
      same_nine a.0 b.0 c.0 (leb-true _ _ c.1)

  pub edit_in : edit_at row 0 ≡ edit_at s at
  edit_in = go (texts_fit s at) refl
    where
      go : (b : Bool) → texts_fit s at ≡ b → edit_at row 0 ≡ edit_at s at
      go true h = edit_is row 0 (fits_in ∙ h) refl ∙ same_edit h ∙ sym (edit_is s at h refl)
      go false h = edit-none row 0 (fits_in ∙ h) ∙ sym (edit-none s at h)

-- ---- the list, as its rows

-- the edits of rows, if each is one
unfoldable pub rows_of : List (List ℕ) → Option (List Edit)
rows_of [] = some []
rows_of (r ∷ rs) = ahead (edit_at r 0) (rows_of rs)

rows_apart : (s : List ℕ) (n at : ℕ) → rows_of (first_chunks 256 n (drop at s)) ≡ rows_at n s at
unfolding rows_of rows_at
rows_apart s zero at = refl
rows_apart s (suc n) at =
    ap₂ ahead (edit_in s at) (ap (λ (l : List ℕ). rows_of (first_chunks 256 n l)) (drop-drop 256 at s) ∙ rows_apart s n (at + 256))

chosen : {A : Type 0} {a : A} (b : Bool) (o : Option A) → cond b o none ≡ some a → o ≡ some a
chosen true o h = h
chosen {a = a} false o h = absurd (none-ne-some a h)

-- where the bytes are a list, their rows are its edits
pub edits_rows : (s : List ℕ) {es : List Edit} → edits_of s ≡ some es → rows_of (first_chunks 256 (length s / 256) s) ≡ some es
unfolding edits_of
edits_rows s h = rows_apart s (length s / 256) 0 ∙ chosen (eqb (length s % 256) 0) (rows_at (length s / 256) s 0) h

pub edits_part : (s : List ℕ) → (length s % 256 ≡ 0 → ⊥) → edits_of s ≡ none
unfolding edits_of
edits_part s h = ap (λ (b : Bool). cond b (rows_at (length s / 256) s 0) none) (ne_eqb (length s % 256) 0 h)

pub edits_whole : (s : List ℕ) → length s % 256 ≡ 0 → edits_of s ≡ rows_of (first_chunks 256 (length s / 256) s)
unfolding edits_of
edits_whole s h = ap (λ (b : Bool). cond b (rows_at (length s / 256) s 0) none) (eq-eqb (length s % 256) 0 h) ∙ sym (rows_apart s (length s / 256) 0)

some_ahead : (o : Option Edit) (es : Option (List Edit)) → (is_some o && is_some es) ≡ is_some (ahead o es)
some_ahead none es = refl
some_ahead (some e) none = refl
some_ahead (some e) (some es) = refl

pub rows_tested : (rs : List (List ℕ)) → list_all (λ r. is_some (edit_at r 0)) rs ≡ is_some (rows_of rs)
unfolding rows_of
rows_tested [] = refl
rows_tested (r ∷ rs) = ap (λ (b : Bool). is_some (edit_at r 0) && b) (rows_tested rs) ∙ some_ahead (edit_at r 0) (rows_of rs)
