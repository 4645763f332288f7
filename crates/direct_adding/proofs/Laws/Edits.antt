-- An edit's outcome where nothing refuses it, and what then is to be shown of the bytes. Assumes nothing.
use Prim.Native.Nat.{ℕ, ◌<◌}
use mathlib.Core.Path.{◌≡◌, refl, sym, ap, subst, ◌∙◌}
use mathlib.Core.Bool.{true, false}
use mathlib.Core.List.{List}
use mathlib.Core.Option.{none, some}
use lib.Dec.{T}
use lib.ListN.{length, get_or}
use borrow.Author.Tests.{lt-leb}
use Rattle.tag.specs.Tags.{Tag, empty, overlong}
use Rattle.component.specs.declared.model_component.Component.{Component}
use Rattle.model.specs.Table.{Table, find, held, distinct}
use Rattle.model.specs.Model.{Place, Model, valid}
use Rattle.model.specs.Edit.{Edit, Answer, made, Outcome, edit, full, with_component, add_plain}
use Rattle.model.proofs.Laws.Bool.{T→true}
use Rattle.model.proofs.Laws.Valid.{found-held}
use Rattle.held.proofs.Laws.Changes.{Becomes, find_at}
use Rattle.model_bytes.specs.ModelBytes.{model_in}
use Rattle.model_bytes.specs.Calls.{Spares}
use Rattle.direct_rows.specs.Took.{Took}
use Rattle.direct_rows.proofs.Laws.Parts.{Whole}
use Rattle.direct_rows.proofs.Laws.Found.{unheld}
use Rattle.direct_rows.proofs.Laws.Took.{applied, took}
use Rattle.direct_rows.proofs.Laws.Written.{pass}

-- the tag of a row is held
pub row_held : {A : Type 0} (d : Tag × A) (t : Tag) (r : Table A) (i : ℕ) → T (distinct r) → i < length r → (get_or r i d).0 ≡ t → held t r ≡ true
row_held d t r i h l e = T→true (held t r) (found-held t r ((get_or r i d).1, ap (λ (x : Tag). find x r) (sym e) ∙ find_at d r i h l))

pub has_room : (m : Model) → length m.components < 64 → full m ≡ false
has_room m h = lt-leb 64 (length m.components) h

-- `took`, by the outcome
pub took_by : (e : Edit) {a : Answer} {s u : List ℕ} {m n : Model} {cs : Table Component} {ls : Table (List Place)} → model_in s ≡ some m → T (valid m) → edit e m ≡ record { answer = a; model = n }
    → Whole u (record { components = cs; lists = ls; default = n.default }) → Becomes n.components cs → Becomes n.lists ls → Spares (length cs) (length ls) s u → Took e a s u
took_by e {m = m} {n = n} {cs = cs} {ls = ls} i v q w b c r =
    let o = applied e m v ∙ q in
    took e i v (ap (λ (x : Outcome). x.answer) o) w
    (subst (λ (x : Outcome). Becomes x.model.components cs) (sym o) b)
    (subst (λ (x : Outcome). Becomes x.model.lists ls) (sym o) c)
    (ap (λ (x : Outcome). x.model.default) o) r

module _ (m : Model) (t : Tag) (c : Component) where
  pub plain_is : overlong t ≡ false → find t m.components ≡ none → length m.components < 64 → add_plain m t c true ≡ record { answer = made t; model = with_component m t c t }
  unfolding add_plain
  plain_is s n r =
      pass m (overlong t) 1 empty 0 _ s ∙ (pass m false 4 t 0 _ refl ∙ (pass m (held t m.components) 11 t 0 _ (unheld t m.components n) ∙ pass m (full m) 15 empty 0 _ (has_room m r)))
