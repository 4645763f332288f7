-- The model that the header and the tables make. Assumes nothing.
use Prim.Native.Nat.{ℕ, ◌≤◌}
use mathlib.Core.Path.{◌≡◌, refl, sym, ap, subst, ◌∙◌}
use mathlib.Core.Bool.{Bool, true, false, ◌&&◌, cond}
use mathlib.Core.List.{List}
use mathlib.Core.Option.{Option, none, some}
use Rattle.std.specs.Prelude.{Some}
use lib.Dec.{leb, eqb}
use lib.ListN.{length}
use borrow.Author.Tests.{le-leb, eq-eqb, ne_eqb, eqb-true, leb-true}
use Rattle.component.specs.declared.model_component.Component.{Component}
use Rattle.model.specs.declared.implicit_model.Model.{Model as Record}
use Rattle.model.specs.Table.{Table}
use Rattle.model.specs.Model.{Place}
use Rattle.model.specs.View.{place_of, component_of, components_of, list_of, lists_of, view, rows, every, place_fits, entry_fits, list_fits, fits}
use Rattle.layout.specs.Words.{word}
use Rattle.rows.specs.Rows.{place_in, rows_in}
use Rattle.model_bytes.specs.ModelBytes.{headed, entry_row, list_row, joined, model_in}
use Rattle.model_bytes.specs.Steps.{Read, all_fit}
use Rattle.rows.proofs.Laws.Tests.{and_left, and_right, and_false}

-- ---- the header

module _ (s : List ℕ) where
  pub headed_other : (word s 0 ≡ 1 → ⊥) → headed s ≡ false
  unfolding headed
  headed_other h = and_false (eqb (length s) 27200) (rw (ne_eqb (word s 0) 1 h))

  pub headed_is : length s ≡ 27200 → word s 0 ≡ 1 → word s 8 ≤ 64 → headed s ≡ leb (word s 16) 128
  unfolding headed
  headed_is p q h = rw (eq-eqb (length s) 27200 p, eq-eqb (word s 0) 1 q, le-leb (word s 8) 64 h)

  pub record Head : Type 0 where
    pub size : length s ≡ 27200
    pub components : word s 8 ≤ 64
    pub lists : word s 16 ≤ 128

  pub head : headed s ≡ true → Head
  unfolding headed
  head e =
      let r = and_right (eqb (length s) 27200) (eqb (word s 0) 1 && (leb (word s 8) 64 && leb (word s 16) 128)) e in
      let q = and_right (eqb (word s 0) 1) (leb (word s 8) 64 && leb (word s 16) 128) r in
      record {
        size = eqb-true (length s) 27200 (and_left (eqb (length s) 27200) (eqb (word s 0) 1 && (leb (word s 8) 64 && leb (word s 16) 128)) e);
        components = leb-true (word s 8) 64 (and_left (leb (word s 8) 64) (leb (word s 16) 128) q);
        lists = leb-true (word s 16) 128 (and_right (leb (word s 8) 64) (leb (word s 16) 128) q);
      }

-- ---- no model

no_default : (cs : Option (Table Component)) (ls : Option (Table (List Place))) {d : Option Place} → d ≡ none → joined cs ls d ≡ none
no_default none ls e = refl
no_default (some cs) none e = refl
no_default (some cs) (some ls) e = ap (joined (some cs) (some ls)) e

no_lists : (cs : Option (Table Component)) {ls : Option (Table (List Place))} (d : Option Place) → ls ≡ none → joined cs ls d ≡ none
no_lists none d e = refl
no_lists (some cs) d e = ap (λ (o : Option (Table (List Place))). joined (some cs) o d) e

module _ (s : List ℕ) where
  pub none-headed : headed s ≡ false → model_in s ≡ none
  unfolding model_in
  none-headed e = ap (λ (b : Bool). cond b (joined (rows_in (entry_row s) (word s 8)) (rows_in (list_row s) (word s 16)) (place_in s 24)) none) e

  module _ (h : headed s ≡ true) where
    model_is : model_in s ≡ joined (rows_in (entry_row s) (word s 8)) (rows_in (list_row s) (word s 16)) (place_in s 24)
    unfolding model_in
    model_is = ap (λ (b : Bool). cond b (joined (rows_in (entry_row s) (word s 8)) (rows_in (list_row s) (word s 16)) (place_in s 24)) none) h

    pub none-default : place_in s 24 ≡ none → model_in s ≡ none
    none-default e = model_is ∙ no_default (rows_in (entry_row s) (word s 8)) (rows_in (list_row s) (word s 16)) e

    pub none-components : {n : ℕ} → n ≡ word s 8 → rows_in (entry_row s) n ≡ none → model_in s ≡ none
    none-components w e =
        model_is
        ∙ ap (λ (o : Option (Table Component)). joined o (rows_in (list_row s) (word s 16)) (place_in s 24)) (ap (rows_in (entry_row s)) (sym w) ∙ e)

    pub none-lists : {n : ℕ} → n ≡ word s 16 → rows_in (list_row s) n ≡ none → model_in s ≡ none
    none-lists w e = model_is ∙ no_lists (rows_in (entry_row s) (word s 8)) (place_in s 24) (ap (rows_in (list_row s)) (sym w) ∙ e)

    -- ---- the model

    pub model_some : (m : Record) → m.component_count ≡ word s 8 → m.list_count ≡ word s 16
        → rows_in (entry_row s) m.component_count ≡ some (components_of m) → rows_in (list_row s) m.list_count ≡ some (lists_of m) → place_in s 24 ≡ some (place_of m.default)
        → model_in s ≡ some (view m)
    unfolding view
    model_some m n k e l p =
        model_is
        ∙ ap (λ (o : Option (Table Component)). joined o (rows_in (list_row s) (word s 16)) (place_in s 24)) (ap (rows_in (entry_row s)) (sym n) ∙ e)
        ∙ ap (λ (o : Option (Table (List Place))). joined (some (components_of m)) o (place_in s 24)) (ap (rows_in (list_row s)) (sym k) ∙ l)
        ∙ ap (joined (some (components_of m)) (some (lists_of m))) p

pub model_sized : (m : Record) → m.component_count ≤ 64 → m.list_count ≤ 128 → every (rows entry_fits m.component_count m.components) ≡ true
    → every (rows list_fits m.list_count m.lists) ≡ true → place_fits m.default ≡ true → fits m ≡ true
unfolding fits
model_sized m p q r t u = rw (le-leb m.component_count 64 p, le-leb m.list_count 128 q, r, t, u)

-- ---- what is answered

module _ (s : List ℕ) (h : headed s ≡ true) where
  pub model_read : (m : Record) → m.component_count ≡ word s 8 → m.list_count ≡ word s 16
      → Read (rows component_of m.component_count) (all_fit entry_fits m.component_count) (rows_in (entry_row s) m.component_count) (Some m.components)
      → Read (rows list_of m.list_count) (all_fit list_fits m.list_count) (rows_in (list_row s) m.list_count) (Some m.lists)
      → Read place_of place_fits (place_in s 24) (Some m.default)
      → Read view fits (model_in s) (Some m)
  model_read m n k e l p =
      let g = head s h in
      (model_some s h m n k e.0 l.0 p.0, model_sized m (subst (λ (k : ℕ). k ≤ 64) (sym n) g.components) (subst (λ (k : ℕ). k ≤ 128) (sym k) g.lists) e.1 l.1 p.1)
