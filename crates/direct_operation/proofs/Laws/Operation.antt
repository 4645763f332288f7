-- An operation added in the bytes. Assumes nothing.
use Rattle.std.specs.Prelude.{Option as Answer, Option as Given, IfSome}
use Prim.Native.Nat.{ℕ, ◌<◌, ◌≤◌}
use native.Mathlib.Omega.{arith}
use mathlib.Core.Path.{◌≡◌, sym, ap, subst, ◌∙◌}
use mathlib.Core.Bool.{Bool, true, false, not, ◌||◌}
use mathlib.Core.List.{List}
use mathlib.Core.Option.{Option, none}
use lib.Dec.{eqb}
use lib.ListN.{length}
use Rattle.tag.specs.declared.Tag.{Tag as Label}
use Rattle.tag.specs.Tags.{Tag, empty, overlong}
use Rattle.tag.specs.View.{Labelled}
use Rattle.component.specs.Kind.{is_operation}
use Rattle.component.specs.Value.{input_count}
use Rattle.component.specs.declared.model_component.Component.{Component}
use Rattle.model.specs.declared.implicit_model.InputList.{InputList}
use Rattle.model.specs.Table.{any, find, held}
use Rattle.model.specs.Model.{Place, Model}
use Rattle.model.specs.Edit.{add_operation, made, edit, full, lists_full, with_operation, looked_at, new_places, add_op}
use Rattle.input_rows.specs.declared.Inputs.{Inputs}
use Rattle.input_rows.specs.Inputs.{inputs_of, fitting, Short, asked, RowOf}
use Rattle.input_rows.proofs.Laws.Inputs.{count_is, asked_are, asked-short}
use Rattle.adding_operation.proofs.Laws.Operation.{few_inputs}
use Rattle.standing.specs.Standing.{Passing}
use Rattle.direct_rows.specs.Took.{Makes}
use Rattle.direct_rows.proofs.Laws.Found.{unheld}
use Rattle.direct_rows.proofs.Laws.Written.{pass}
use Rattle.direct_adding.proofs.Laws.Edits.{has_room}
use Rattle.direct_operation.specs.Listed.{Listed}
use Rattle.direct_operation.proofs.Laws.Listed.{listed-makes}

-- the outcome where nothing refuses it
operation_is : (m : Model) (t : Tag) (c : Component) (ts : Option (List Tag)) → overlong t ≡ false → any overlong (looked_at ts) ≡ false → is_operation c ≡ true → find t m.components ≡ none
    → eqb (length (new_places c ts)) (input_count c) ≡ true → length m.components < 64 → lists_full m t ≡ false
    → edit (add_operation t c ts) m ≡ record { answer = made t; model = with_operation m t c (new_places c ts) t }
unfolding edit add_op
operation_is m t c ts s a o n q r l =
    pass m (overlong t || any overlong (looked_at ts)) 1 empty 0 _ (ap (λ (b : Bool). b || any overlong (looked_at ts)) s ∙ a)
    ∙ (pass m (not (is_operation c)) 4 t 0 _ (ap not o) ∙ (pass m (held t m.components) 11 t 0 _ (unheld t m.components n)
    ∙ (pass m (not (eqb (length (new_places c ts)) (input_count c))) 2 t 0 _ (ap not q) ∙ (pass m (full m) 15 empty 0 _ (has_room m r) ∙ pass m (lists_full m t) 16 empty 0 _ l))))

-- the row that `operation_row` answers
pub asked_row : (c : Component) (i : Given Inputs) {x : Label} {row : InputList} (k : ℕ) → k ≡ input_count c → any overlong (looked_at (inputs_of i)) ≡ false → fitting i k ≡ true
    → (k ≤ 3 → IfSome i (Short k) → RowOf x (asked i k) row) → RowOf x (asked i (input_count c)) row
asked_row c i {x} {row} k e s f r =
    let h : k ≤ 3 = omega (arith, few_inputs c) in
    subst (λ (n : ℕ). RowOf x (asked i n) row) e (r h (asked-short i k s f h))

module _ (t : Tag) (c : Component) (i : Given Inputs) {s : List ℕ} (u : List ℕ) (k : Passing s) (short : overlong t ≡ false) (sh : any overlong (looked_at (inputs_of i)) ≡ false)
    (op : is_operation c ≡ true) (fit : fitting i (input_count c) ≡ true) (x : Label) (lt : Labelled t x) (o : find t k.model.components ≡ none) where
  pub operation_listed : (row : InputList) (v : Answer Label) → RowOf x (asked i (input_count c)) row → Listed c row x s u v → Makes (add_operation t c (inputs_of i)) s u v
  operation_listed row v ro w =
      let e = add_operation t c (inputs_of i) in
      let ps = new_places c (inputs_of i) in
      listed-makes k e x _ row c x u v (subst (λ (qs : List Place). RowOf x qs row) (asked_are i c (few_inputs c) fit) ro) (ap (λ (y : Tag). find y k.model.components) lt.bytes ∙ o)
      (λ z y. subst (λ (v : Tag). edit e k.model ≡ record { answer = made v; model = with_operation k.model v c ps v }) (sym lt.bytes)
      (operation_is k.model t c (inputs_of i) short sh op o (count_is i c ∙ fit) z (ap (lists_full k.model) (sym lt.bytes) ∙ y))) w
