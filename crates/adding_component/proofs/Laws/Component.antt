-- Each way out of `add_component`. Assumes nothing.
use mathlib.Core.Path.{◌≡◌, refl, sym, ◌∙◌, ap, subst}
use mathlib.Core.Logic.{◌⊎◌, inl, inr}
use mathlib.Core.Bool.{Bool, true, false, not, cond}
use mathlib.Core.List.{[]}
use mathlib.Core.Option.{Option as Maybe, none, some}
use lib.Dec.{T}
use lib.ListN.{length, replicate}
use Rattle.tag.specs.declared.Tag.{Tag as Label}
use Rattle.std.specs.Prelude.{Option, Some, None}
use Rattle.tag.specs.Tags.{Tag, empty, overlong}
use Rattle.tag.specs.View.{bytes_of, tag_fits, Labelled}
use Rattle.component.specs.Kind.{is_operation}
use Rattle.component.specs.Value.{input_count}
use Rattle.component.specs.declared.model_component.Component.{Component}
use Rattle.model.specs.declared.implicit_model.InputList.{InputList}
use Rattle.model.specs.declared.implicit_model.Model.{Model as Record}
use Rattle.model.specs.Table.{find}
use Rattle.model.specs.Edit.{add_component, made, Outcome, check, edit, add_any, add_free, add_under, free_tag, full, lists_full, with_component, with_operation}
use Rattle.model.specs.View.{components_of, view, passes}
use Rattle.model.proofs.Laws.Bool.{true→T}
use Rattle.model.proofs.Laws.Numbered.{free-tag}
use Rattle.sound_lists.proofs.Laws.Lists.{fits-short}
use Rattle.held.proofs.Laws.Standing.{standing}
use Rattle.edit.specs.declared.Edited.{Edited}
use Rattle.edit.specs.Meets.{Meets}
use Rattle.edit.specs.Ends.{Refused}
use Rattle.edit.proofs.Laws.Step.{Step, refusal, skip, stop, meets_on}
use Rattle.edit.proofs.Laws.Tests.{carrying}
use Rattle.adding.specs.Grown.{Grew}
use Rattle.adding.proofs.Laws.Grown.{grew}
use Rattle.input_rows.specs.Inputs.{RowOf}
use Rattle.adding_operation.specs.Listed.{Listed}
use Rattle.adding_operation.proofs.Laws.Listed.{listed}
use Rattle.adding_component.specs.Free.{FreeTag}

-- a record of a tag within its size is not too long
pub fits_not_long : (u : Label) → tag_fits u ≡ true → overlong (bytes_of u) ≡ false
fits_not_long u h = go (overlong (bytes_of u)) (fits-short u (true→T (tag_fits u) h))
  where
    go : (b : Bool) → T (not b) → b ≡ false
    go false h = refl
    go true h = absurd h

module _ (m : Record) (t : Tag) (c : Component) (r : Edited) (v : passes m ≡ true) where
  on : Step (add_any (view m) t c) m r → Meets (add_component t c) m r
  unfolding edit
  on s = meets_on v s

  pub add_1 : overlong t ≡ true → Refused m 1 [] 0 r → Meets (add_component t c) m r
  unfolding add_any
  add_1 h z = on (stop (overlong t) 1 empty 0 _ h z)

  module _ (st : overlong t ≡ false) (x : Label) (lt : Labelled t x) (n : Option Label) (f : FreeTag (components_of m) (bytes_of x) n) where
    into : (o : Maybe Tag) → free_tag (components_of m) (bytes_of x) ≡ o → Step (add_free (view m) t c o) m r → Meets (add_component t c) m r
    unfolding add_any view
    into o e s =
        on (skip (overlong t) 1 empty 0 st
        (subst (λ (p : Maybe Tag). Step (add_free (view m) t c p) m r) (sym (ap (free_tag (components_of m)) (sym lt.bytes) ∙ e)) s))

    pub add_17 : n ≡ None → Refused m 17 (bytes_of x) 0 r → Meets (add_component t c) m r
    add_17 h z = go (subst (FreeTag (components_of m) (bytes_of x)) h f)
      where
        go : (free_tag (components_of m) (bytes_of x) ≡ none) ⊎ ((u : Tag) × (free_tag (components_of m) (bytes_of x) ≡ some u) × (overlong u ≡ true)) → Meets (add_component t c) m r
        go (inl e) = into none e (refusal (carrying lt z))
        go (inr w) = into (some w.0) w.1 (stop (overlong w.0) 17 t 0 _ w.2 (carrying lt z))

    module _ (u : Label) (h : n ≡ Some u) (size : length m.components ≡ 64) where
      first : (free_tag (components_of m) (bytes_of x) ≡ some (bytes_of u)) × (tag_fits u ≡ true)
      first = subst (FreeTag (components_of m) (bytes_of x)) h f

      lu : Labelled (bytes_of u) u
      lu = record { bytes = refl; short = first.1 }

      unheld : find (bytes_of u) (components_of m) ≡ none
      unheld = free-tag (components_of m) (bytes_of x) (bytes_of u) first.0

      -- an operation, or not
      abbrev operation : Outcome
      operation = check (view m) (lists_full (view m) (bytes_of u)) 16 empty 0
          (record { answer = made (bytes_of u); model = with_operation (view m) (bytes_of u) c (replicate (input_count c) none) t })

      abbrev plain : Outcome
      plain = record { answer = made (bytes_of u); model = with_component (view m) (bytes_of u) c t }

      under : (b : Bool) → is_operation c ≡ b → Step (check (view m) (full (view m)) 15 empty 0 (cond b operation plain)) m r → Meets (add_component t c) m r
      unfolding add_under
      under b o s =
          into (some (bytes_of u)) first.0 (skip (overlong (bytes_of u)) 17 t 0 (fits_not_long u first.1)
          (subst (λ (y : Bool). Step (check (view m) (full (view m)) 15 empty 0 (cond y operation plain)) m r) (sym o) s))

      pub add-plain : is_operation c ≡ false → Grew m u c x r → Meets (add_component t c) m r
      add-plain o z = under false o (grew m (standing m v) size lu lt c unheld z)

      pub add_operation : is_operation c ≡ true → length m.lists ≡ 128 → (row : InputList) → RowOf u (replicate (input_count c) none) row → Listed m u c row x r → Meets (add_component t c) m r
      add_operation o lsize row ro z = under true o (listed m (standing m v) size lsize lu lt c unheld (replicate (input_count c) none) row ro z)
