-- What stands at a position, and a new record. Assumes nothing.
use mathlib.Core.Path.{◌≡◌, refl, sym, ap}
use mathlib.Core.List.{List, [], ◌∷◌, map}
use mathlib.Core.Option.{none, some}
use Prim.Native.Nat.{ℕ, zero, suc, ◌<◌, ◌≤◌}
use native.Mathlib.Nat.{not-suc-le-zero, le_of_suc-le-suc}
use lib.ListN.{length, get_or, get_elem?, take}
use denote.Ref.{Bor}
use Rattle.std.specs.Prelude.{Option, Some, None, option_copied}
use Rattle.std.specs.Slice.{IsItemAt}
use Rattle.tag.specs.Tags.{Tag}
use Rattle.model.specs.declared.implicit_model.ComponentEntry.{ComponentEntry}
use Rattle.model.specs.declared.implicit_model.InputList.{InputList}
use Rattle.model.specs.declared.implicit_model.Model.{Model as Record}
use Rattle.model.specs.Table.{distinct}
use Rattle.model.specs.Model.{component, list, new, valid}
use Rattle.model.specs.View.{place_of, rows, component_of, list_of, components_of, lists_of, view, place_fits, fits, passes}
use Rattle.held.specs.Search.{position}
use Rattle.held.specs.Reading.{New, entry_read, list_read, places_read}
use Rattle.model.proofs.Laws.Table.{held-false}
use Rattle.held.proofs.Laws.Rows.{no_entry, no_list}
use Rattle.held.proofs.Laws.Search.{row_at, position-free}

-- ---- by position, and by tag

-- the row at an index of a slice, seen through g
module _ {A B : Type 0} (g : A → B) where
  elem_at : (xs : List A) (i : ℕ) (x : A) → i < length xs → x ≡ get_or xs i x → get_elem? (map g xs) i ≡ some (g x)
  elem_at [] i x h e = absurd (not-suc-le-zero h)
  elem_at (y ∷ xs) zero x h e = ap (λ z. some (g z)) (sym e)
  elem_at (y ∷ xs) (suc i) x h e = elem_at xs i x (le_of_suc-le-suc h) e

  elem_past : (xs : List A) (i : ℕ) → length xs ≤ i → get_elem? (map g xs) i ≡ none
  elem_past [] i h = refl
  elem_past (x ∷ xs) zero h = absurd (not-suc-le-zero h)
  elem_past (x ∷ xs) (suc i) h = elem_past xs i (le_of_suc-le-suc h)

module _ (m : Record) (i : ℕ) where
  pub entry_at : {xs : List ComponentEntry} (o : Option (Bor ComponentEntry)) → xs ≡ take m.component_count m.components → IsItemAt xs i o → entry_read (option_copied o) ≡ get_elem? (view m).components i
  unfolding entry_read view rows
  entry_at (Some e) q h = rw (← q) (sym (elem_at component_of _ i e.now h.3.0 (h.3.1 e.now)))
  entry_at None q h = rw (← q) (sym (elem_past component_of _ i h.3))

  pub list_at : {xs : List InputList} (o : Option (Bor InputList)) → xs ≡ take m.list_count m.lists → IsItemAt xs i o → list_read (option_copied o) ≡ get_elem? (view m).lists i
  unfolding list_read view rows
  list_at (Some l) q h = rw (← q) (sym (elem_at list_of _ i l.now h.3.0 (h.3.1 l.now)))
  list_at None q h = rw (← q) (sym (elem_past list_of _ i h.3))

module _ (m : Record) (t : Tag) where
  pub component-held : (i : ℕ) → position t 0 (components_of m) ≡ Some i → some (get_or m.components i no_entry).component ≡ component (view m) t
  unfolding view
  component-held i h = sym (row_at component_of m.components m.component_count i no_entry h).entry

  pub component-missing : position t 0 (components_of m) ≡ None → none ≡ component (view m) t
  unfolding view
  component-missing h = sym (held-false t (components_of m) (position-free t 0 (components_of m) h))

  pub inputs-held : (i : ℕ) → position t 0 (lists_of m) ≡ Some i → places_read (Some (get_or m.lists i no_list)) ≡ list (view m) t
  unfolding places_read view
  inputs-held i h = sym (row_at list_of m.lists m.list_count i no_list h).entry

  pub inputs-missing : position t 0 (lists_of m) ≡ None → places_read None ≡ list (view m) t
  unfolding places_read view
  inputs-missing h = sym (held-false t (lists_of m) (position-free t 0 (lists_of m) h))

-- ---- a new record

-- no rows and no default
module _ (m : Record) (components : m.component_count ≡ 0) (lists : m.list_count ≡ 0) (default : m.default ≡ None) where
  pub new-record : New m
  unfolding view new passes fits valid place_of place_fits rows distinct
  new-record = record { holds = rw (components, lists, default); passing = rw (components, lists, default) }
