-- An edit made in the bytes: it is done where they hold the model after it. Assumes nothing.
use Prim.Native.Nat.{ℕ}
use mathlib.Core.Path.{◌≡◌, sym, ap}
use mathlib.Core.Bool.{Bool, true, false, not, true≢false}
use mathlib.Core.List.{List}
use mathlib.Core.Option.{Option, some}
use lib.Dec.{T}
use lib.ListN.{length}
use Rattle.tag.specs.Tags.{Tag, empty}
use Rattle.component.specs.declared.model_component.Component.{Component}
use Rattle.model.specs.Table.{Table}
use Rattle.model.specs.Model.{Place, Model, Same, valid}
use Rattle.model.specs.Edit.{Edit, Answer, check, edit, apply}
use Rattle.model.proofs.Laws.Bool.{T→true}
use Rattle.model.proofs.Laws.Valid.{same-valid}
use Rattle.model.proofs.Theorems.Keep.{apply-valid}
use Rattle.held.proofs.Laws.Changes.{Becomes}
use Rattle.model_bytes.specs.ModelBytes.{model_in}
use Rattle.model_bytes.specs.Calls.{Spares}
use Rattle.direct_rows.specs.Took.{Took, Takes}
use Rattle.direct_rows.proofs.Laws.Parts.{Whole, whole_model}

-- 7 does not refuse
pub applied : (e : Edit) (m : Model) → T (valid m) → apply e m ≡ edit e m
unfolding apply check
applied e m v = ap (λ (b : Bool). check m (not b) 7 empty 0 (edit e m)) (T→true (valid m) v)

pub took : (e : Edit) {a : Answer} {s t : List ℕ} {m : Model} {cs : Table Component} {ls : Table (List Place)} {d : Option Tag} → model_in s ≡ some m → T (valid m) → (apply e m).answer ≡ a
    → Whole t (record { components = cs; lists = ls; default = d }) → Becomes (apply e m).model.components cs → Becomes (apply e m).model.lists ls → (apply e m).model.default ≡ d
    → Spares (length cs) (length ls) s t → Took e a s t
took e {m = m} {cs} {ls} {d} i v q w b c p r =
    let n : Model = record { components = cs; lists = ls; default = d } in
    let same : Same (apply e m).model n = record { components = b.same; lists = c.same; default = p } in
    record {
      model = m;
      is = i;
      answer = q;
      holds = record {
        model = n;
        held = whole_model w;
        same = same;
        passing = T→true (valid n) (same-valid (apply e m).model n (apply-valid e m v) same b.once c.once);
        rows = r;
      };
    }

-- ---- what is answered

module _ {e : Edit} {a : Answer} {s t : List ℕ} where
  pub takes_yes : Took e a s t → Takes e a s t true
  takes_yes k = record { taken = λ _. k; left = λ q. absurd (true≢false q) }

  pub takes_no : t ≡ s → Takes e a s t false
  takes_no k = record { taken = λ q. absurd (true≢false (sym q)); left = λ _. k }
