-- A component of any kind added in the bytes, under the first free tag. Assumes nothing.
use Rattle.std.specs.Prelude.{Option as Answer, Some}
use Prim.Native.Nat.{ℕ, ◌<◌, ◌≤◌}
use native.Mathlib.Omega.{arith}
use mathlib.Core.Path.{◌≡◌, sym, ap, subst, ◌∙◌}
use mathlib.Core.Bool.{Bool, true, false, cond}
use mathlib.Core.List.{List}
use mathlib.Core.Option.{none, some}
use lib.ListN.{length, replicate}
use Rattle.tag.specs.declared.Tag.{Tag as Label}
use Rattle.tag.specs.Tags.{Tag, empty, overlong}
use Rattle.tag.specs.View.{bytes_of, Labelled}
use Rattle.component.specs.Kind.{is_operation}
use Rattle.component.specs.Value.{input_count}
use Rattle.component.specs.declared.model_component.Component.{Component}
use Rattle.model.specs.declared.implicit_model.InputList.{InputList}
use Rattle.model.specs.Table.{find}
use Rattle.model.specs.Model.{Model}
use Rattle.model.specs.Edit.{add_component, made, check, edit, full, lists_full, with_component, with_operation, free_tag, add_under, add_free, add_any}
use Rattle.model.proofs.Laws.Numbered.{free-tag}
use Rattle.input_rows.specs.Inputs.{RowOf}
use Rattle.adding_operation.proofs.Laws.Operation.{few_inputs}
use Rattle.adding_component.specs.Free.{FreeTag}
use Rattle.adding_component.proofs.Laws.Component.{fits_not_long}
use Rattle.standing.specs.Standing.{Passing}
use Rattle.direct_rows.specs.Took.{Makes}
use Rattle.direct_rows.proofs.Laws.Written.{pass}
use Rattle.direct_adding.specs.Plain.{Grew}
use Rattle.direct_adding.proofs.Laws.Edits.{has_room}
use Rattle.direct_adding.proofs.Laws.Grown.{grew_makes}
use Rattle.direct_operation.specs.Listed.{Listed}
use Rattle.direct_operation.proofs.Laws.Listed.{listed-makes}
use Rattle.direct_component.specs.Free.{FirstFreeIn}

-- the outcome where nothing refuses it, under the free tag u
module _ (m : Model) (t : Tag) (c : Component) (u : Tag) (s : overlong t ≡ false) (f : free_tag m.components t ≡ some u) (v : overlong u ≡ false) (r : length m.components < 64) where
  under : edit (add_component t c) m ≡ add_under m u t c
  unfolding edit add_any
  under = pass m (overlong t) 1 empty 0 _ s ∙ (ap (add_free m t c) f ∙ (pass m (overlong u) 17 t 0 _ v ∙ pass m (full m) 15 empty 0 _ (has_room m r)))

  component_is : is_operation c ≡ false → edit (add_component t c) m ≡ record { answer = made u; model = with_component m u c t }
  unfolding add_under
  component_is o =
      under ∙ ap (λ (b : Bool). cond b (check m (lists_full m u) 16 empty 0 (record { answer = made u; model = with_operation m u c (replicate (input_count c) none) t }))
      (record { answer = made u; model = with_component m u c t })) o

  listed_is : is_operation c ≡ true → lists_full m u ≡ false → edit (add_component t c) m ≡ record { answer = made u; model = with_operation m u c (replicate (input_count c) none) t }
  unfolding add_under
  listed_is o l =
      under ∙ (ap (λ (b : Bool). cond b (check m (lists_full m u) 16 empty 0 (record { answer = made u; model = with_operation m u c (replicate (input_count c) none) t }))
      (record { answer = made u; model = with_component m u c t })) o ∙ pass m (lists_full m u) 16 empty 0 _ l)

-- the row that `unassigned_row` answers
pub unassigned : (c : Component) {x : Label} {row : InputList} (k : ℕ) → k ≡ input_count c → (k ≤ 3 → RowOf x (replicate k none) row) → RowOf x (replicate (input_count c) none) row
unassigned c {x} {row} k e r = subst (λ (i : ℕ). RowOf x (replicate i none) row) e (r (omega (arith, few_inputs c)))

module _ (t : Tag) (c : Component) {s : List ℕ} (k : Passing s) (short : overlong t ≡ false) (x : Label) (lt : Labelled t x) (v : Label) (f : FirstFreeIn s (bytes_of x) (Some v)) where
  free : FreeTag k.model.components (bytes_of x) (Some v)
  free = f k.model k.is k.sound

  -- the tag made
  first : free_tag k.model.components t ≡ some (bytes_of v)
  first = ap (free_tag k.model.components) (sym lt.bytes) ∙ free.0

  fresh : find (bytes_of v) k.model.components ≡ none
  fresh = free-tag k.model.components t (bytes_of v) first

  fitted : overlong (bytes_of v) ≡ false
  fitted = fits_not_long v free.1

  pub component-more : (u : List ℕ) (r : Answer Label) → is_operation c ≡ false → Grew v c x s u r → Makes (add_component t c) s u r
  component-more u r o w =
      grew_makes k (add_component t c) v c x u r fresh
      (λ z. subst (λ (d : Tag). edit (add_component t c) k.model ≡ record { answer = made (bytes_of v); model = with_component k.model (bytes_of v) c d }) (sym lt.bytes)
      (component_is k.model t c (bytes_of v) short first fitted z o)) w

  pub component-listed : (u : List ℕ) (r : Answer Label) → is_operation c ≡ true → (row : InputList) → RowOf v (replicate (input_count c) none) row → Listed c row x s u r → Makes (add_component t c) s u r
  component-listed u r o row ro w =
      listed-makes k (add_component t c) v _ row c x u r ro fresh
      (λ z y. subst (λ (d : Tag). edit (add_component t c) k.model ≡ record { answer = made (bytes_of v); model = with_operation k.model (bytes_of v) c (replicate (input_count c) none) d }) (sym lt.bytes)
      (listed_is k.model t c (bytes_of v) short first fitted z o y)) w
