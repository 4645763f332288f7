-- Each way out of `add_operation`. Assumes nothing.
use mathlib.Core.Path.{◌≡◌, sym, ◌∙◌, ap, subst}
use mathlib.Core.Bool.{Bool, true, false, not, ◌||◌}
use mathlib.Core.List.{List, []}
use Prim.Native.Nat.{◌≤◌}
use lib.Dec.{eqb, leb→le}
use lib.ListN.{length}
use Rattle.tag.specs.declared.Tag.{Tag as Label}
use Rattle.tag.specs.Tags.{Tag, empty, overlong}
use Rattle.tag.specs.View.{bytes_of, Labelled}
use Rattle.component.specs.Kind.{is_operation}
use Rattle.component.specs.Value.{input_count}
use Rattle.component.specs.declared.model_component.Component.{Component}
use Rattle.component.proofs.Theorems.Count.{count_few}
use Rattle.model.specs.declared.implicit_model.InputList.{InputList}
use Rattle.model.specs.declared.implicit_model.Model.{Model as Record}
use Rattle.std.specs.Prelude.{Option as Given}
use Rattle.model.specs.Table.{any, held}
use Rattle.model.specs.Model.{Place}
use Rattle.model.specs.Edit.{add_operation, edit, add_op, looked_at, new_places}
use Rattle.model.specs.View.{components_of, view, passes}
use Rattle.model.proofs.Laws.Table.{held-false}
use Rattle.held.proofs.Laws.Standing.{standing}
use Rattle.edit.specs.declared.Edited.{Edited}
use Rattle.edit.specs.Meets.{Meets}
use Rattle.edit.specs.Ends.{Refused}
use Rattle.edit.proofs.Laws.Step.{Step, skip, stop, meets_on}
use Rattle.edit.proofs.Laws.Tests.{carrying, held_as}
use Rattle.input_rows.specs.declared.Inputs.{Inputs}
use Rattle.input_rows.specs.Inputs.{inputs_of, fitting, asked, RowOf}
use Rattle.input_rows.proofs.Laws.Inputs.{count_is, asked_are}
use Rattle.adding_operation.specs.Listed.{Listed}
use Rattle.adding_operation.proofs.Laws.Listed.{listed}

pub few_inputs : (c : Component) → input_count c ≤ 3
few_inputs c = leb→le (input_count c) 3 (count_few c)

module _ (m : Record) (t : Tag) (c : Component) (o : Given Inputs) (r : Edited) (v : passes m ≡ true) where
  on : Step (add_op (view m) t c (inputs_of o)) m r → Meets (add_operation t c (inputs_of o)) m r
  unfolding edit
  on s = meets_on v s

  pub op_1 : overlong t ≡ true → Refused m 1 [] 0 r → Meets (add_operation t c (inputs_of o)) m r
  unfolding add_op
  op_1 h z = on (stop (overlong t || any overlong (looked_at (inputs_of o))) 1 empty 0 _ (ap (λ (x : Bool). x || any overlong (looked_at (inputs_of o))) h) z)

  module _ (st : overlong t ≡ false) where
    either : (x : Bool) → any overlong (looked_at (inputs_of o)) ≡ x → (overlong t || any overlong (looked_at (inputs_of o))) ≡ x
    either x e = ap (λ (y : Bool). y || any overlong (looked_at (inputs_of o))) st ∙ e

    pub op_1_inputs : true ≡ any overlong (looked_at (inputs_of o)) → Refused m 1 [] 0 r → Meets (add_operation t c (inputs_of o)) m r
    unfolding add_op
    op_1_inputs h z = on (stop (overlong t || any overlong (looked_at (inputs_of o))) 1 empty 0 _ (either true (sym h)) z)

    module _ (sh : false ≡ any overlong (looked_at (inputs_of o))) (u : Label) (lt : Labelled t u) where
      pub op_4 : is_operation c ≡ false → Refused m 4 (bytes_of u) 0 r → Meets (add_operation t c (inputs_of o)) m r
      unfolding add_op
      op_4 h z =
          on (skip (overlong t || any overlong (looked_at (inputs_of o))) 1 empty 0 (either false (sym sh)) (stop (not (is_operation c)) 4 t 0 _ (ap not h) (carrying lt z)))

      module _ (ok : is_operation c ≡ true) where
        pub op_11 : held (bytes_of u) (components_of m) ≡ true → Refused m 11 (bytes_of u) 0 r → Meets (add_operation t c (inputs_of o)) m r
        unfolding add_op view
        op_11 h z =
            on (skip (overlong t || any overlong (looked_at (inputs_of o))) 1 empty 0 (either false (sym sh)) (skip (not (is_operation c)) 4 t 0 (ap not ok)
            (stop (held t (components_of m)) 11 t 0 _ (held_as _ lt h) (carrying lt z))))

        module _ (free : held (bytes_of u) (components_of m) ≡ false) where
          pub op_2 : fitting o (input_count c) ≡ false → Refused m 2 (bytes_of u) 0 r → Meets (add_operation t c (inputs_of o)) m r
          unfolding add_op view
          op_2 h z =
              on (skip (overlong t || any overlong (looked_at (inputs_of o))) 1 empty 0 (either false (sym sh)) (skip (not (is_operation c)) 4 t 0 (ap not ok)
              (skip (held t (components_of m)) 11 t 0 (held_as _ lt free)
              (stop (not (eqb (length (new_places c (inputs_of o))) (input_count c))) 2 t 0 _ (ap not (count_is o c ∙ h)) (carrying lt z)))))

          pub op_listed : fitting o (input_count c) ≡ true → length m.components ≡ 64 → length m.lists ≡ 128
              → (row : InputList) → RowOf u (asked o (input_count c)) row → Listed m u c row u r → Meets (add_operation t c (inputs_of o)) m r
          unfolding add_op view
          op_listed fit size lsize row ro z =
              on (skip (overlong t || any overlong (looked_at (inputs_of o))) 1 empty 0 (either false (sym sh)) (skip (not (is_operation c)) 4 t 0 (ap not ok)
              (skip (held t (components_of m)) 11 t 0 (held_as _ lt free)
              (skip (not (eqb (length (new_places c (inputs_of o))) (input_count c))) 2 t 0 (ap not (count_is o c ∙ fit))
              (listed m (standing m v) size lsize lt lt c (held-false t (components_of m) (held_as _ lt free)) (new_places c (inputs_of o)) row
              (subst (λ (ps : List Place). RowOf u ps row) (asked_are o c (few_inputs c) fit) ro) z)))))
