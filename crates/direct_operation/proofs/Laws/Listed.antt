-- One component more with its list, in the bytes. Assumes nothing.
use Rattle.std.specs.Prelude.{Option, Some, None}
use Prim.Native.Nat.{ℕ, ◌<◌, min}
use native.Mathlib.Omega.{arith}
use mathlib.Core.Path.{◌≡◌, refl, sym, ap, subst, ◌∙◌}
use mathlib.Core.Logic.{inl, inr}
use mathlib.Core.Bool.{Bool, true, false, not, ◌&&◌}
use mathlib.Core.List.{List, [], ◌∷◌}
use mathlib.Core.Option.{none}
use lib.Dec.{leb}
use lib.ListN.{length, length-append}
use borrow.Author.Tests.{lt-leb}
use Rattle.tag.specs.declared.Tag.{Tag as Label}
use Rattle.tag.specs.Tags.{Tag}
use Rattle.tag.specs.View.{bytes_of}
use Rattle.component.specs.declared.model_component.Component.{Component}
use Rattle.model.specs.declared.implicit_model.InputList.{InputList}
use Rattle.model.specs.Table.{find, held}
use Rattle.model.specs.Model.{Place}
use Rattle.model.specs.Edit.{Edit, edit, made, lists_full, with_operation}
use Rattle.held.proofs.Laws.Changes.{appended}
use Rattle.input_rows.specs.Inputs.{RowOf}
use Rattle.layout.specs.Words.{word}
use Rattle.rows.specs.Rows.{places_of}
use Rattle.standing.specs.Standing.{Passing}
use Rattle.direct_rows.specs.Took.{Took, Makes}
use Rattle.direct_rows.proofs.Laws.Parts.{whole}
use Rattle.direct_rows.proofs.Laws.Found.{lists_length, list-found}
use Rattle.direct_rows.proofs.Laws.Written.{spares_then}
use Rattle.direct_adding.proofs.Laws.Put.{more_whole, more-spares}
use Rattle.direct_adding.proofs.Laws.Edits.{row_held, took_by}
use Rattle.direct_adding.proofs.Laws.Grown.{stands, counted, room}
use Rattle.direct_operation.specs.Put.{RowFor, OperationPut}
use Rattle.direct_operation.specs.Listed.{Listed}
use Rattle.direct_operation.proofs.Laws.Put.{list_put}

module _ {s : List ℕ} (k : Passing s) {n : ℕ} (e : n ≡ min (word s 8) 64) (l : n < 64) where
  -- there is room for the list too
  lists-room : (t : Tag) (j : ℕ) → RowFor s t (Some j) → lists_full k.model t ≡ false
  lists-room t j (inl f) =
      let q = list-found (whole k.is) ([], []) f in
      ap (λ (b : Bool). not b && leb 128 (length k.model.lists))
      (row_held ([], []) t k.model.lists j (stands k e l).once-lists (omega (arith, q.0, lists_length (whole k.is))) q.1)
  lists-room t j (inr (f, (c, h))) = full (held t k.model.lists) (lt-leb 128 (length k.model.lists) (omega (arith, c, h, (whole k.is).few_lists, lists_length (whole k.is))))
    where
      full : (b : Bool) {x : Bool} → x ≡ false → (not b && x) ≡ false
      full true p = refl
      full false p = p

  module _ (g : Edit) {u : List ℕ} {t : Tag} {c : Component} {d : Tag} (o : find t k.model.components ≡ none) where
    operation_took : {j : ℕ} {ps : List Place} → edit g k.model ≡ record { answer = made t; model = with_operation k.model t c ps d } → RowFor s t (Some j) → OperationPut n j t c ps d s u → Took g (made t) s u
    operation_took q f p =
        let i = list_put (whole k.is) (stands k e l).once-lists f p.row in
        let z : n ≡ word p.listed 8 = omega (arith, counted k e l, i.count) in
        took_by g k.is k.sound q (more_whole i.whole z l p.more) (appended t c k.model.components o (stands k e l).once) i.becomes
        (spares_then i.spares (more-spares i.whole z l p.more) (omega (arith, length-append k.model.components ((t, c) ∷ []))) (omega arith))

-- written by its record is written by what it means
row_put : {x : Label} {ps : List Place} {row : InputList} → RowOf x ps row → {n j : ℕ} {t : Tag} {c : Component} {d : Tag} {s u : List ℕ} → bytes_of x ≡ t → OperationPut n j (bytes_of row.tag) c (places_of row.count row) d s u → OperationPut n j t c ps d s u
row_put {ps = ps} {row = row} ro {n} {j} {t} {c} {d} {s} {u} e p =
    subst (λ (b : Tag). OperationPut n j b c ps d s u) (ap bytes_of ro.tag ∙ e) (subst (λ (qs : List Place). OperationPut n j (bytes_of row.tag) c qs d s u) ro.places p)

-- what `add_listed_in` answers, for a tag that no component has
pub listed-makes : {s : List ℕ} (k : Passing s) (g : Edit) (x : Label) (ps : List Place) (l : InputList) (c : Component) (d : Label) (u : List ℕ) (r : Option Label) → RowOf x ps l → find (bytes_of x) k.model.components ≡ none
    → (length k.model.components < 64 → lists_full k.model (bytes_of x) ≡ false → edit g k.model ≡ record { answer = made (bytes_of x); model = with_operation k.model (bytes_of x) c ps (bytes_of d) })
    → Listed c l d s u r → Makes g s u r
listed-makes {s} k g x ps l c d u (Some r) ro o q (e, p) =
    let f : RowFor s (bytes_of x) (Some p.list) = subst (λ (z : Label). RowFor s (bytes_of z) (Some p.list)) ro.tag p.chosen in
    let h = lists-room k p.counted p.room (bytes_of x) p.list f in
    subst (λ (z : Label). Took g (made (bytes_of z)) s u) (sym (e ∙ ro.tag))
    (operation_took k p.counted p.room g o (q (room k p.counted p.room) h) f (row_put ro refl p.put))
listed-makes k g x ps l c d u None ro o q e = e
