-- The code's tests are the definition's. Assumes nothing.
use mathlib.Core.Path.{◌≡◌, sym, ◌∙◌, subst}
use mathlib.Core.Bool.{Bool, true, false}
use mathlib.Core.List.{List}
use mathlib.Core.Option.{none}
use Prim.Native.Nat.{ℕ, ◌<◌, ◌≤◌}
use native.Mathlib.Omega.{arith}
use lib.ListN.{length}
use borrow.Author.Tests.{le-leb, lt-leb}
use Rattle.tag.specs.declared.Tag.{Tag as Label}
use Rattle.tag.specs.Tags.{Tag}
use Rattle.tag.specs.View.{bytes_of, Labelled}
use Rattle.model.specs.declared.implicit_model.Model.{Model as Record}
use Rattle.std.specs.Prelude.{Option, Some, None}
use Rattle.model.specs.Table.{Table, find, held}
use Rattle.model.specs.Edit.{full}
use Rattle.model.specs.View.{rows, component_of, components_of, view}
use Rattle.held.specs.Search.{Sought}
use Rattle.model.proofs.Laws.Table.{held-false}
use Rattle.held.proofs.Laws.Rows.{rows-length}
use Rattle.held.proofs.Laws.Search.{position-held, position-free, row_at, RowAt}
use Rattle.edit.specs.declared.Edited.{Edited}
use Rattle.edit.specs.Ends.{Refused}

-- ---- a tag that came in

-- a refusal that carries the label's tag
pub carrying : {m : Record} {n : ℕ} {t : Tag} {u : Label} {i : ℕ} {r : Edited} → Labelled t u → Refused m n (bytes_of u) i r → Refused m n t i r
carrying {m} {n} {t} {u} {i} {r} l h = subst (λ (x : Tag). Refused m n x i r) l.bytes h

-- what holds the label's tag
pub held_as : {A : Type 0} (r : Table A) {t : Tag} {u : Label} {b : Bool} → Labelled t u → held (bytes_of u) r ≡ b → held t r ≡ b
held_as r {b = b} l h = subst (λ (x : Tag). held x r ≡ b) l.bytes h

-- ---- a search

module _ {A : Type 0} {r : Table A} {cap : ℕ} {t : Tag} {f : Option ℕ} (p : Sought r cap t f) where
  pub taken : {i : ℕ} → f ≡ Some i → held t r ≡ true
  taken {i} e = position-held t 0 i r (sym p.at ∙ e)

  pub free : f ≡ None → held t r ≡ false
  free e = position-free t 0 r (sym p.at ∙ e)

  pub missing : f ≡ None → find t r ≡ none
  missing e = held-false t r (free e)

-- a search by the label is one by the tag
pub sought_by : {A : Type 0} {r : Table A} {cap : ℕ} {t : Tag} {u : Label} {f : Option ℕ} → Labelled t u → Sought r cap (bytes_of u) f → Sought r cap t f
sought_by {r = r} {cap = cap} {f = f} l p = subst (λ (x : Tag). Sought r cap x f) l.bytes p

-- the row that a search found
pub found_row : {A B : Type 0} (g : A → Tag × B) (table : List A) (n : ℕ) {cap : ℕ} {t : Tag} {f : Option ℕ} {i : ℕ} (d : A) → Sought (rows g n table) cap t f → f ≡ Some i → RowAt g table n i t d
found_row g table n {i = i} d p e = row_at g table n i d (sym p.at ∙ e)

-- ---- the room

module _ (m : Record) (size : length m.components ≡ 64) where
  pub is_full : 64 ≤ m.component_count → full (view m) ≡ true
  unfolding view
  is_full h = le-leb 64 (length (components_of m)) (omega (arith, rows-length component_of m.components m.component_count))

  pub has_room : m.component_count < 64 → full (view m) ≡ false
  unfolding view
  has_room h = lt-leb 64 (length (components_of m)) (omega (arith, rows-length component_of m.components m.component_count))
