-- One row of a table overwritten, or one more: the table then holds what is put there, and its rows fit. Assumes nothing.
use mathlib.Core.Path.{◌≡◌, refl, sym, ◌∙◌, ap, subst}
use mathlib.Core.Bool.{Bool}
use mathlib.Core.List.{List, [], ◌∷◌, ◌++◌}
use mathlib.Core.Option.{none}
use Prim.Native.Nat.{ℕ, zero, suc, ◌+◌, ◌<◌}
use native.Mathlib.Nat.{not-suc-le-zero, le_of_suc-le-suc}
use native.Mathlib.Omega.{arith}
use lib.Dec.{T}
use lib.ListN.{length, get_or, set}
use Rattle.tag.specs.Tags.{Tag}
use Rattle.component.specs.declared.model_component.Component.{Component}
use Rattle.model.specs.declared.implicit_model.ComponentEntry.{ComponentEntry}
use Rattle.model.specs.declared.implicit_model.InputList.{InputList}
use Rattle.model.specs.declared.implicit_model.Model.{Model as Record}
use Rattle.model.specs.Table.{Table, find, put, distinct}
use Rattle.model.specs.Model.{Place, Same}
use Rattle.model.specs.View.{every, rows, component_of, list_of, entry_fits, list_fits, view}
use Rattle.model.proofs.Laws.Bool.{and_T₁, and_T₂}
use Rattle.held.proofs.Laws.Rows.{rows-length, rows-set, rows_at, rows_more}
use Rattle.held.proofs.Laws.Search.{RowAt}
use Rattle.held.proofs.Laws.Changes.{Becomes, becomes_refl, appended, overwritten}
use Rattle.held.proofs.Laws.Standing.{Standing, same_view, every_set, every_more}
use Rattle.edit.specs.Rows.{with_entry, with_list}

-- the table after it: what it holds, and that its rows fit
pub record Stored {A B : Type 0} (g : A → Tag × B) (ok : A → Bool) (w : Table B) (n : ℕ) (table : List A) : Type 0 where
  pub becomes : Becomes w (rows g n table)
  pub fits : T (every (rows ok n table))

module _ {A B : Type 0} (g : A → Tag × B) (ok : A → Bool) (table : List A) (n : ℕ) (t : Tag) (b : B) (x : A) (e : g x ≡ (t, b)) (o : T (ok x))
    (once : T (distinct (rows g n table))) (all : T (every (rows ok n table))) where
  pub over_row : (i : ℕ) (d : A) → RowAt g table n i t d → Stored g ok (put t b (rows g n table)) n (set table i x)
  over_row i d at = record {
    becomes = subst (λ (r : Table B). Becomes (put t b (rows g n table)) r)
        (ap (set (rows g n table) i) (sym e) ∙ sym (rows-set g table n i x at.below))
        (overwritten (g d) (rows g n table) i t b once at.within (ap (λ (y : Tag × B). y.0) (rows_at g table n i d at.within) ∙ at.tag));
    fits = subst (λ (bs : List Bool). T (every bs)) (sym (rows-set ok table n i x at.below)) (every_set (rows ok n table) i (ok x) all o);
  }

  pub more_row : find t (rows g n table) ≡ none → n < length table → Stored g ok (put t b (rows g n table)) (n + 1) (set table n x)
  more_row free k = record {
    becomes = subst (λ (r : Table B). Becomes (put t b (rows g n table)) r)
        (ap (λ (y : Tag × B). rows g n table ++ (y ∷ [])) (sym e) ∙ sym (rows_more g table n x k)) (appended t b (rows g n table) free once);
    fits = subst (λ (bs : List Bool). T (every bs)) (sym (rows_more ok table n x k)) (every_more (rows ok n table) (ok x) all o);
  }

-- ---- a record with one list replaced, or one component

module _ (m : Record) (g : Standing m) (i : ℕ) where
  pub list_stands : {w : Table (List Place)} (l : InputList) → Stored list_of list_fits w m.list_count (set m.lists i l) → Standing (with_list m i l)
  list_stands l s = record {
    few = g.few;
    few_lists = g.few_lists;
    entries = g.entries;
    lists = s.fits;
    default = g.default;
    once = g.once;
    once-lists = s.becomes.once;
  }

  pub list_same : {w : Table (List Place)} (l : InputList) → Stored list_of list_fits w m.list_count (set m.lists i l)
      → Same (record { components = (view m).components; lists = w; default = (view m).default }) (view (with_list m i l))
  unfolding view
  list_same l s = same_view (with_list m i l) (becomes_refl g.once) s.becomes refl

  pub entry_stands : {w : Table Component} (e : ComponentEntry) → Stored component_of entry_fits w m.component_count (set m.components i e) → Standing (with_entry m i e)
  entry_stands e s = record {
    few = g.few;
    few_lists = g.few_lists;
    entries = s.fits;
    lists = g.lists;
    default = g.default;
    once = s.becomes.once;
    once-lists = g.once-lists;
  }

  pub entry-same : {w : Table Component} (e : ComponentEntry) → Stored component_of entry_fits w m.component_count (set m.components i e)
      → Same (record { components = w; lists = (view m).lists; default = (view m).default }) (view (with_entry m i e))
  unfolding view
  entry-same e s = same_view (with_entry m i e) s.becomes (becomes_refl g.once-lists) refl

-- ---- a row that fits

every_at : (bs : List Bool) (i : ℕ) (d : Bool) → T (every bs) → i < length bs → T (get_or bs i d)
every_at [] i d h k = absurd (not-suc-le-zero k)
every_at (b ∷ bs) zero d h k = and_T₁ b (every bs) h
every_at (b ∷ bs) (suc i) d h k = every_at bs i d (and_T₂ b (every bs) h) (le_of_suc-le-suc k)

pub row_fits : {A : Type 0} (ok : A → Bool) (table : List A) (n i : ℕ) (d : A) → T (every (rows ok n table)) → i < n → i < length table → T (ok (get_or table i d))
row_fits ok table n i d h k l =
    let w : i < length (rows ok n table) = omega (arith, rows-length ok table n) in
    subst T (rows_at ok table n i d w) (every_at (rows ok n table) i (ok d) h w)
