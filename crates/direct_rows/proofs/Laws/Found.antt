-- What a search by tag shows of the model, and what its rows hold. Assumes nothing.
use Rattle.std.specs.Prelude.{Option as Answer, Some, None, is_some}
use Prim.Native.Nat.{ℕ, ◌<◌, min}
use native.Mathlib.Omega.{arith}
use mathlib.Core.Path.{◌≡◌, refl, sym, ap, ◌∙◌}
use mathlib.Core.Bool.{Bool, true, false, true≢false}
use mathlib.Core.List.{List}
use mathlib.Core.Option.{none, some}
use lib.Dec.{T}
use lib.ListN.{length, get_or}
use Rattle.tag.specs.Tags.{Tag}
use Rattle.component.specs.declared.model_component.Component.{Component}
use Rattle.model.specs.Table.{Table, find, held, distinct}
use Rattle.model.specs.Model.{Place, Model}
use Rattle.model.proofs.Laws.Table.{held-true}
use Rattle.model.proofs.Laws.Valid.{none_some}
use Rattle.held.proofs.Laws.Changes.{find_at}
use Rattle.layout.specs.Words.{word}
use Rattle.finding.specs.Rows.{component_at, list_place_at, RowSought}
use Rattle.standing.proofs.Laws.Rows.{built_length, built_get_d, built_none}
use Rattle.standing.proofs.Laws.Model.{Entry, entry_shows, Row, list_shows}
use Rattle.direct_rows.proofs.Laws.Parts.{Whole}

-- what is not found is not held
pub unheld : {A : Type 0} (t : Tag) (r : Table A) → find t r ≡ none → held t r ≡ false
unheld t r e = go (held t r) refl
  where
    go : (b : Bool) → held t r ≡ b → b ≡ false
    go true q = none_some (sym e ∙ (held-true t r q).1)
    go false q = refl

-- a search that is asked only whether it found a row
pub unsought : {s : List ℕ} {at : ℕ → ℕ} {n : ℕ} {t : Tag} {b : Bool} (r : Answer ℕ) → RowSought s at n t r → b ≡ is_some r → b ≡ false → RowSought s at n t None
unsought None q e n = q
unsought (Some r) q e n = absurd (true≢false (sym e ∙ n))

module _ {s : List ℕ} {m : Model} (w : Whole s m) where
  -- ---- counts

  pub components-length : length m.components ≡ word s 8
  components-length = built_length w.components

  pub lists_length : length m.lists ≡ word s 16
  lists_length = built_length w.lists

  pub components-counted : min (word s 8) 64 ≡ word s 8
  components-counted = omega (arith, w.few)

  pub lists-counted : min (word s 16) 128 ≡ word s 16
  lists-counted = omega (arith, w.few_lists)

  -- ---- rows

  pub entry_at : (d : Tag × Component) (i : ℕ) → i < word s 8 → Entry s i (get_or m.components i d)
  entry_at d i h = entry_shows s i (get_or m.components i d) (built_get_d w.components d i h)

  pub list_at : (d : Tag × List Place) (j : ℕ) → j < word s 16 → Row s j (get_or m.lists j d)
  list_at d j h = list_shows s j (get_or m.lists j d) (built_get_d w.lists d j h)

  -- ---- by tag

  pub component-found : (d : Tag × Component) {t : Tag} {r : ℕ} → RowSought s component_at (min (word s 8) 64) t (Some r) → (r < word s 8) × ((get_or m.components r d).0 ≡ t)
  component-found d {t} {r} q =
      let f = q.found in
      let l : r < word s 8 = omega (arith, f.0) in
      (l, sym (entry_at d r l).tag.is ∙ f.1)

  pub component-missing : {t : Tag} → RowSought s component_at (min (word s 8) 64) t None → find t m.components ≡ none
  component-missing {t} q = built_none w.components t (λ i x l e p. q.missing i (omega (arith, w.few)) ((entry_shows s i x e).tag.is ∙ p))

  pub list-found : (d : Tag × List Place) {t : Tag} {r : ℕ} → RowSought s list_place_at (min (word s 16) 128) t (Some r) → (r < word s 16) × ((get_or m.lists r d).0 ≡ t)
  list-found d {t} {r} q =
      let f = q.found in
      let l : r < word s 16 = omega (arith, f.0) in
      (l, sym (list_at d r l).tag.is ∙ f.1)

  pub list-missing : {t : Tag} → RowSought s list_place_at (min (word s 16) 128) t None → find t m.lists ≡ none
  list-missing {t} q = built_none w.lists t (λ i x l e p. q.missing i (omega (arith, w.few_lists)) ((list_shows s i x e).tag.is ∙ p))

  -- what stands in the row is what the tag holds
  pub component-held : (d : Tag × Component) {t : Tag} {r : ℕ} → T (distinct m.components) → RowSought s component_at (min (word s 8) 64) t (Some r) → find t m.components ≡ some (get_or m.components r d).1
  component-held d {t} {r} once q =
      let f = component-found d q in
      ap (λ (a : Tag). find a m.components) (sym f.1) ∙ find_at d m.components r once (omega (arith, f.0, components-length))

  pub list_held : (d : Tag × List Place) {t : Tag} {r : ℕ} → T (distinct m.lists) → RowSought s list_place_at (min (word s 16) 128) t (Some r) → find t m.lists ≡ some (get_or m.lists r d).1
  list_held d {t} {r} once q =
      let f = list-found d q in
      ap (λ (a : Tag). find a m.lists) (sym f.1) ∙ find_at d m.lists r once (omega (arith, f.0, lists_length))
