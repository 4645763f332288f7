-- What stands in bytes, by its checks. Assumes nothing.
use Prim.Native.Nat.{ℕ, zero, suc, ◌+◌, ◌*◌, ◌-◌, ◌≤◌, ◌<◌}
use native.Mathlib.Omega.{arith}
use mathlib.Core.Path.{◌≡◌, refl, sym, ap, subst, ◌∙◌}
use mathlib.Core.Bool.{Bool, true, false, cond}
use mathlib.Core.List.{List, [], ◌∷◌, ◌++◌}
use mathlib.Core.Option.{Option, none, some, map}
use lib.ListN.{take, drop, length}
use Rattle.std.specs.declared.ops.Range.{Range}
use Rattle.std.specs.Prelude.{Option as Maybe, Some, None, MatchOption, is_some}
use Rattle.std.specs.Bool.{MatchBool}
use Rattle.std.specs.Fn.{Called}
use Rattle.std.specs.Iterator.{YieldsThen}
use Rattle.std.specs.List.{range_with_len, FoldsTo, AllWithin}
use Rattle.std.proofs.iter.Yields.{nat_range_steps}
use Rattle.std.proofs.lemmas.Iterator.{cases_from_all, YieldsList-from_range}
use denote.Param.Members.{Mut}
use Rattle.std.proofs.lemmas.List.FromFn.{length-range_with_len, get_or-range_with_len}
use borrow.Author.Tests.{le-leb}
use Rattle.component.specs.declared.model_component.Component.{Component}
use Rattle.component_layout.specs.Components.{component_read}
use Rattle.model.specs.Table.{Table}
use Rattle.model.specs.Model.{Place}
use Rattle.layout.specs.Words.{word}
use Rattle.rows.specs.Rows.{blank, text_in, tag_in, place_from, place_in, component_in, rows_in, place_row}
use Rattle.model_bytes.specs.ModelBytes.{entry_in, list_in, headed, entry_row, list_row, joined, model_in}
use Rattle.model_holding.specs.Holds.{Held}
use Rattle.rows.proofs.Laws.Tests.{apart}
use Rattle.rows.proofs.Laws.Reading.{rows_append}
use Rattle.row_reading.proofs.Laws.{blank_as}
use Rattle.model_bytes.proofs.Laws.Reading.{entry_is, list_is, places_rest}

held_as : {A : Type 0} {o p : Option A} → o ≡ p → Held p → Held o
held_as e h = record { held = h.held; is = e ∙ h.is }

text-held : (n : ℕ) (s : List ℕ) (at : ℕ) → n ≤ 32 → blank s (at + n) (32 - n) ≡ true → Held (text_in n s at)
unfolding text_in
text-held n s at h e = record { held = take n (drop at s); is = rw (le-leb n 32 h, e) }

pub text-checked : (n : ℕ) (s : List ℕ) (at : ℕ) {b : Bool} → n ≤ 32 → b ≡ blank s (at + n) (at + 32 - (at + n)) → b ≡ true → Held (text_in n s at)
text-checked n s at h e t = text-held n s at h (blank_as s (at + n) (at + 32) (32 - n) e (omega arith) ∙ t)

module _ (s : List ℕ) (at : ℕ) {n : ℕ} (w : n ≡ word s at) where
  pub tag_held : Held (text_in n s (at + 8)) → Held (tag_in s at)
  unfolding tag_in
  tag_held h = held_as (ap (λ (k : ℕ). text_in k s (at + 8)) (sym w)) h

  pub place-checked : {b : Bool} → n ≡ 0 → b ≡ blank s (at + 8) (at + 40 - (at + 8)) → b ≡ true → Held (place_in s at)
  unfolding place_in place_from
  place-checked z e t =
      record { held = none; is = ap (λ (k : ℕ). place_from k s (at + 8)) (sym w ∙ z) ∙ ap (λ (b : Bool). cond b (some none) none) (blank_as s (at + 8) (at + 40) 32 e (omega arith) ∙ t) }

  pub place-text-held : (n ≡ 0 → ⊥) → Held (text_in (n - 1) s (at + 8)) → Held (place_in s at)
  unfolding place_in place_from
  place-text-held z h =
      let q : suc (n - 1) ≡ n = omega (arith, z) in
      record { held = some h.held; is = ap (λ (k : ℕ). place_from k s (at + 8)) (sym w ∙ sym q) ∙ ap (map some) h.is }

pub entry-held : (s : List ℕ) (at : ℕ) → Held (tag_in s at) → (read : Maybe Component) → is_some read ≡ true → component_read read ≡ component_in s (at + 40) → Held (entry_in s at)
entry-held s at t None e q = absurd (apart e refl)
entry-held s at t (Some c) e q = record { held = (t.held, c); is = entry_is s at t.is (sym q) }

pub list_checked : (s : List ℕ) (at : ℕ) {n : ℕ} {b : Bool} → n ≡ word s (at + 40) → n ≤ 3 → Held (tag_in s at) → b ≡ blank s (at + 48 + 40 * n) (at + 168 - (at + 48 + 40 * n)) → b ≡ true
    → Held (rows_in (place_row s (at + 48)) n) → Held (list_in s at)
list_checked s at {n} w h t e q r =
    record { held = (t.held, r.held); is = list_is s at w h (places_rest s at n h e ∙ q) t.is r.is }

-- ---- rows

-- what `all` over 0..n shows of each number below n
pub all_below : {F : Type 0} {g : Mut F (ℕ × Unit {0}) Bool} (P : ℕ → Type 0) (n : ℕ) (u : Range ℕ) (f : F) (r : Bool)
    → (xs : List ℕ) × (o : Maybe ℕ) × (j : F) × YieldsThen nat_range_steps (record { start = 0; end = n }) xs o u × FoldsTo (λ p x q. Called g p (x, tt) true q) f xs j × MatchOption o (r ≡ true) (λ x. (r ≡ false) × ((h : F) × Called g j (x, tt) false h))
    → ((x : ℕ) (q : F) → Called g f (x, tt) true q → (q ≡ f) × P x) → r ≡ true → (i : ℕ) → i < n → P i
all_below {g = g} P n u f r ran shows =
    go r _ (cases_from_all {g = g} u f r P (λ i. Unit {0}) ran (YieldsList-from_range 0 n n refl (omega arith)) shows (λ x q k. tt))
  where
    go : (r : Bool) (otherwise : Type 0) → MatchBool r (AllWithin P (range_with_len 0 n) 0 (length (range_with_len 0 n))) otherwise → r ≡ true → (i : ℕ) → i < n → P i
    go true otherwise m e i l = subst P (get_or-range_with_len 0 n i 0 l ∙ omega arith) (m i 0 (omega arith) (omega (arith, length-range_with_len 0 n)))
    go false otherwise m e i l = absurd (apart e refl)

pub rows_held : {A : Type 0} (row : ℕ → Option A) (n : ℕ) → ((i : ℕ) → i < n → Held (row i)) → Held (rows_in row n)
unfolding rows_in
rows_held row zero h = record { held = []; is = refl }
rows_held row (suc n) h =
    let below = rows_held row n (λ i l. h i (omega arith)) in
    let last = h n (omega arith) in
    record { held = below.held ++ (last.held ∷ []); is = ap (rows_in row) (let z : suc n ≡ n + 1 = omega arith in z) ∙ rows_append row n below.is last.is }

pub model_holds : (s : List ℕ) {n k : ℕ} → headed s ≡ true → Held (place_in s 24) → n ≡ word s 8 → Held (rows_in (entry_row s) n) → k ≡ word s 16 → Held (rows_in (list_row s) k) → Held (model_in s)
unfolding model_in
model_holds s h d n cs k ls = record {
  held = record { components = cs.held; lists = ls.held; default = d.held };
  is =
      ap (λ (b : Bool). cond b (joined (rows_in (entry_row s) (word s 8)) (rows_in (list_row s) (word s 16)) (place_in s 24)) none) h
      ∙ ap (λ (o : Option (Table Component)). joined o (rows_in (list_row s) (word s 16)) (place_in s 24)) (ap (rows_in (entry_row s)) (sym n) ∙ cs.is)
      ∙ ap (λ (o : Option (Table (List Place))). joined (some cs.held) o (place_in s 24)) (ap (rows_in (list_row s)) (sym k) ∙ ls.is)
      ∙ ap (joined (some cs.held) (some ls.held)) d.is;
}
