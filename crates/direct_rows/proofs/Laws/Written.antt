-- One row of a table written: the model that the bytes then hold. Assumes nothing.
use Prim.Native.Nat.{ℕ, ◌+◌, ◌*◌, ◌≤◌, ◌<◌}
use native.Mathlib.Omega.{arith}
use native.Mathlib.Decide.{dec_lt}
use mathlib.Core.Path.{◌≡◌, ap, ◌∙◌}
use mathlib.Core.Logic.{◌≢◌}
use mathlib.Core.Bool.{Bool, false}
use mathlib.Core.List.{List}
use mathlib.Core.Option.{some}
use lib.ListN.{length, set, length-set}
use Rattle.tag.specs.Tags.{Tag}
use Rattle.component.specs.declared.model_component.Component.{Component}
use Rattle.model.specs.Table.{Table}
use Rattle.model.specs.Model.{Place, Model}
use Rattle.model.specs.Edit.{Outcome, check}
use Rattle.layout.specs.Words.{word}
use Rattle.layout.specs.Writing.{Kept}
use Rattle.layout.proofs.Kept.{kept-none, kept_then, Agree, agree_below, word_same}
use Rattle.rows.proofs.Laws.Local.{place_local}
use Rattle.model_bytes.specs.ModelBytes.{entry_row, list_row}
use Rattle.model_bytes.specs.Calls.{Spares}
use Rattle.model_bytes.proofs.Laws.Local.{entry_local, list_local}
use Rattle.finding.specs.Rows.{component_at, list_place_at}
use Rattle.standing.proofs.Laws.Rows.{Built}
use Rattle.direct_rows.proofs.Laws.Table.{built_same, built_set}
use Rattle.direct_rows.proofs.Laws.Parts.{Whole, whole_of}
use Rattle.direct_rows.proofs.Laws.Found.{components-length, lists_length}

-- a check that does not refuse
pub pass : (m : Model) (b : Bool) (n : ℕ) (t : Tag) (i : ℕ) (o : Outcome) → b ≡ false → check m b n t i o ≡ o
unfolding check
pass m b n t i o e = ap (λ (x : Bool). check m x n t i o) e

-- ---- what a write leaves alone

pub kept-within : {s t : List ℕ} {i n : ℕ} (a z : ℕ) → Kept s t i n → a ≤ i → i + n ≤ a + z → Kept s t a z
kept-within {t = t} {i} {n} a z k g h = kept_then a z k (kept-none t i n) g h g h

pub agree_above : {s t : List ℕ} {j m : ℕ} (i n : ℕ) → Kept s t j m → j + m ≤ i → Agree s t i n
agree_above i n k h = record { size = k.size; same = λ p a b. k.above p (omega arith) }

-- another of the rows at f, each z bytes long
module _ {s t : List ℕ} (f : ℕ → ℕ) (z i : ℕ) (k : Kept s t (f i) z) where
  pub agree_other : (j : ℕ) → (j < i → f j + z ≤ f i) → (i < j → f i + z ≤ f j) → j ≢ i → Agree s t (f j) z
  agree_other j below above n = go (dec_lt j i)
    where
      go : Dec (j < i) → Agree s t (f j) z
      go (yes l) = agree_below (f j) z k (below l)
      go (no l) = agree_above (f j) z k (above (omega (arith, n)))

-- one change after another
pub spares_then : {n k n' k' : ℕ} {s t u : List ℕ} → Spares n k s t → Spares n' k' t u → n ≤ n' → k ≤ k' → Spares n' k' s u
spares_then p q a b = record {
  size = q.size ∙ p.size;
  components = λ i g h. q.components i g h ∙ p.components i (omega arith) h;
  lists = λ i g. q.lists i g ∙ p.lists i (omega arith);
}

module _ {s t : List ℕ} {m : Model} (w : Whole s m) where
  -- a write past the header
  past_header : {i n : ℕ} {cs : Table Component} {ls : Table (List Place)} → Kept s t i n → 64 ≤ i → Built (entry_row t) (word s 8) cs → Built (list_row t) (word s 16) ls
      → Whole t (record { components = cs; lists = ls; default = m.default })
  past_header k h c l =
      whole_of (k.size ∙ w.size) (word_same (agree_below 0 8 k (omega arith)) ∙ w.version) (word_same (agree_below 8 8 k (omega arith))) w.few (word_same (agree_below 16 8 k (omega arith))) w.few_lists c l
      (place_local (agree_below 24 40 k (omega arith)) ∙ w.default)

  -- ---- a row of the components

  module _ (i : ℕ) (x : Tag × Component) (h : i < word s 8) (k : Kept s t (component_at i) 88) where
    pub entry-written : entry_row t i ≡ some x → Whole t (record { components = set m.components i x; lists = m.lists; default = m.default })
    entry-written e =
        past_header k (omega arith) (built_set w.components i x h e (λ j l n. entry_local (agree_other component_at 88 i k j (λ a. omega arith) (λ a. omega arith) n)))
        (built_same w.lists (λ j l. list_local (agree_above (5696 + 168 * j) 168 k (omega (arith, w.few)))))

    pub entry-spares : Spares (length (set m.components i x)) (length m.lists) s t
    entry-spares = record {
      size = k.size;
      components = λ q a b. k.above q (omega (arith, length-set m.components i x, components-length w));
      lists = λ q a. k.above q (omega (arith, w.few));
    }

  -- ---- a row of the lists

  module _ (j : ℕ) (x : Tag × List Place) (h : j < word s 16) (k : Kept s t (list_place_at j) 168) where
    pub list_written : list_row t j ≡ some x → Whole t (record { components = m.components; lists = set m.lists j x; default = m.default })
    list_written e =
        past_header k (omega arith) (built_same w.components (λ i l. entry_local (agree_below (64 + 88 * i) 88 k (omega (arith, w.few)))))
        (built_set w.lists j x h e (λ i l n. list_local (agree_other list_place_at 168 j k i (λ a. omega arith) (λ a. omega arith) n)))

    pub list-spares : Spares (length m.components) (length (set m.lists j x)) s t
    list-spares = record {
      size = k.size;
      components = λ q a b. k.below q (omega arith);
      lists = λ q a. k.above q (omega (arith, length-set m.lists j x, lists_length w));
    }
