-- Rows of the tables that are written one after another. Assumes nothing.
use Prim.Native.Nat.{ℕ, zero, suc, ◌+◌, ◌*◌, ◌≤◌, ◌<◌, min}
use mathlib.Core.Path.{◌≡◌, refl, sym, ap, subst, ◌∙◌}
use mathlib.Core.Bool.{Bool, true}
use mathlib.Core.List.{List, [], ◌∷◌, map}
use mathlib.Core.Option.{Option, some}
use native.Mathlib.Nat.{not-suc-le-zero, le_of_suc-le-suc}
use native.Mathlib.Omega.{arith}
use lib.ListN.{length, get_or, take}
use lib.Seq.{take-length}
use Rattle.tag.specs.View.{bytes_of}
use Rattle.model.specs.declared.implicit_model.ComponentEntry.{ComponentEntry}
use Rattle.model.specs.declared.implicit_model.InputList.{InputList}
use Rattle.model.specs.View.{rows, every, component_of, list_of}
use Rattle.held.proofs.Laws.Rows.{no_entry, no_list}
use Rattle.layout.specs.Words.{word}
use Rattle.layout.proofs.Kept.{kept_then, agree_below}
use Rattle.rows.specs.Rows.{tag_in, component_in, rows_in, places_in, places_of}
use Rattle.rows.specs.Written.{Wrote}
use Rattle.rows.proofs.Laws.Tests.{and_left, and_right}
use Rattle.rows.proofs.Laws.Local.{tag_local}
use Rattle.rows.proofs.Laws.Writing.{both-kept, word-stays, rows-wrote-none, rows-wrote-more}
use Rattle.model_bytes.specs.ModelBytes.{entry_in, list_in, entry_row, list_row}
use Rattle.model_bytes.proofs.Laws.Reading.{entry_is, list_by}
use Rattle.model_bytes.proofs.Laws.Local.{entry_local, list_local}

pub entry-wrote : (e : ComponentEntry) {at : ℕ} {s t u : List ℕ} → Wrote (λ v. tag_in v at) (some (bytes_of e.tag)) at 40 s t → Wrote (λ v. component_in v (at + 40)) (some e.component) (at + 40) 48 t u
    → Wrote (λ v. entry_in v at) (some (component_of e)) at 88 s u
entry-wrote e {at} {s} {t} {u} p q = record {
  kept = both-kept p q at 88 (omega arith) (omega arith) (omega arith) (omega arith);
  holds = entry_is u at (tag_local (agree_below at 40 q.kept (omega arith)) ∙ p.holds) q.holds;
}

pub entries_none : (s : List ℕ) (es : List ComponentEntry) → Wrote (λ v. rows_in (entry_row v) 0) (some (rows component_of 0 es)) 64 (88 * 0) s s
entries_none s es = rows-wrote-none component_of entry_row 64 88 (λ k. 64 + 88 * k) (λ k i h. omega arith) (λ s t k a. entry_local a) s es

pub entries_more : (es : List ComponentEntry) {s t u : List ℕ} {i : ℕ} → i < length es
    → Wrote (λ v. rows_in (entry_row v) i) (some (rows component_of i es)) 64 (88 * i) s t → Wrote (λ v. entry_in v (64 + 88 * i)) (some (component_of (get_or es i no_entry))) (64 + 88 * i) 88 t u
    → Wrote (λ v. rows_in (entry_row v) (i + 1)) (some (rows component_of (i + 1) es)) 64 (88 * (i + 1)) s u
entries_more es h p q =
    rows-wrote-more component_of entry_row 64 88 (λ k. 64 + 88 * k) (λ k i h. omega arith) (λ s t k a. entry_local a) _ es no_entry h refl (omega arith) p q

pub lists-none : (s : List ℕ) (ls : List InputList) → Wrote (λ v. rows_in (list_row v) 0) (some (rows list_of 0 ls)) 5696 (168 * 0) s s
lists-none s ls = rows-wrote-none list_of list_row 5696 168 (λ k. 5696 + 168 * k) (λ k i h. omega arith) (λ s t k a. list_local a) s ls

pub lists-more : (ls : List InputList) {s t u : List ℕ} {i : ℕ} → i < length ls
    → Wrote (λ v. rows_in (list_row v) i) (some (rows list_of i ls)) 5696 (168 * i) s t → Wrote (λ v. list_in v (5696 + 168 * i)) (some (list_of (get_or ls i no_list))) (5696 + 168 * i) 168 t u
    → Wrote (λ v. rows_in (list_row v) (i + 1)) (some (rows list_of (i + 1) ls)) 5696 (168 * (i + 1)) s u
lists-more ls h p q =
    rows-wrote-more list_of list_row 5696 168 (λ k. 5696 + 168 * k) (λ k i h. omega arith) (λ s t k a. list_local a) _ ls no_list h refl (omega arith) p q

-- a test that every row passes, one row passes
pub row_fits : {A : Type 0} (f : A → Bool) (table : List A) (i : ℕ) (d : A) → i < length table → every (map f table) ≡ true → f (get_or table i d) ≡ true
row_fits f [] i d h e = absurd (not-suc-le-zero h)
row_fits f (x ∷ xs) zero d h e = and_left (f x) (every (map f xs)) e
row_fits f (x ∷ xs) (suc i) d h e = row_fits f xs i d (le_of_suc-le-suc h) (and_right (f x) (every (map f xs)) e)

-- all rows of a slice, and those of the table whose live rows it is
module _ {A B : Type 0} (g : A → B) (row : List ℕ → ℕ → Option B) (base width : ℕ) where
  pub all_wrote : (es : List A) {s t : List ℕ} {i : ℕ} → i ≡ length es → Wrote (λ u. rows_in (row u) i) (some (rows g i es)) base (width * i) s t
      → Wrote (λ u. rows_in (row u) (length es)) (some (map g es)) base (width * length es) s t
  unfolding rows
  all_wrote es {s} {t} e w =
      subst (λ (xs : List A). Wrote (λ u. rows_in (row u) (length es)) (some (map g xs)) base (width * length es) s t) (take-length es)
      (subst (λ (k : ℕ). Wrote (λ u. rows_in (row u) k) (some (rows g k es)) base (width * k) s t) e w)

  pub live_wrote : (n : ℕ) (table : List A) {es : List A} {s t : List ℕ} → es ≡ take n table → length es ≡ n
      → Wrote (λ u. rows_in (row u) (length es)) (some (map g es)) base (width * length es) s t → Wrote (λ u. rows_in (row u) n) (some (rows g n table)) base (width * n) s t
  unfolding rows
  live_wrote n table {es} {s} {t} e l w =
      subst (λ (xs : List A). Wrote (λ u. rows_in (row u) n) (some (map g xs)) base (width * n) s t) e
      (subst (λ (k : ℕ). Wrote (λ u. rows_in (row u) k) (some (map g es)) base (width * k) s t) l w)

-- ---- lists

module _ (l : InputList) {at : ℕ} {s t u v : List ℕ} (few : l.count ≤ 3) where
  pub list_wrote : Wrote (λ x. tag_in x at) (some (bytes_of l.tag)) at 40 s t → Wrote (λ x. word x (at + 40)) l.count (at + 40) 8 t u
      → Wrote (λ x. places_in (min l.count 3) x (at + 48)) (some (places_of l.count l)) (at + 48) 120 u v
      → Wrote (λ x. list_in x at) (some (list_of l)) at 168 s v
  list_wrote p q r =
      let qr = both-kept q r (at + 40) 128 (omega arith) (omega arith) (omega arith) (omega arith) in
      record {
        kept = kept_then at 168 p.kept qr (omega arith) (omega arith) (omega arith) (omega arith);
        holds =
            list_by v at (sym (word-stays (at + 40) r.kept (omega arith) q.holds))
            (tag_local (agree_below at 40 qr (omega arith)) ∙ p.holds)
            (ap (λ (k : ℕ). places_in k v (at + 48)) (let z : l.count ≡ min l.count 3 = omega arith in z) ∙ r.holds);
      }
