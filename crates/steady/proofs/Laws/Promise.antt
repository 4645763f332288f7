-- The contract, from the list judged, run and asked. Assumes nothing.
use mathlib.Core.Path.{◌≡◌, refl}
use mathlib.Core.Bool.{true}
use mathlib.Core.List.{List}
use mathlib.Core.Option.{Option, none, some}
use Prim.Native.Nat.{ℕ}
use native.Mathlib.Omega.{arith}
use Rattle.tag.specs.Tags.{Tag}
use Rattle.geometry.specs.declared.vec3f.Vec3.{Vec3}
use Rattle.model.specs.declared.implicit_model.Model.{Model as Record}
use Rattle.model.specs.Edit.{Edit}
use Rattle.model.specs.declared.model_error.Refusal.{Refusal}
use Rattle.std.specs.Prelude.{Result}
use Rattle.model.specs.Form.{Reply}
use Rattle.evaluating.specs.Evaluate.{EvaluatesAs, reply_of}
use Rattle.layout.specs.Some.{is_some}
use Rattle.edit_rows.specs.EditRows.{edits_of}
use Rattle.steady.specs.Steadied.{Promised, Steadied, After}
use Rattle.steady.specs.Steps.{Listed}
use Rattle.steady.proofs.Laws.Along.{at_end}

promised : (m n : Record) (t : Tag) (p : Vec3) (r : Reply) (o : Option (List Edit)) → is_some o ≡ true → ((es : List Edit) → o ≡ some es → Steadied es m t p n r)
    → Promised o m t p n r
promised m n t p r none h k = absurd (let z : ◌≡◌ {A = ℕ} 0 1 = cc in let y : ⊥ = omega arith in y)
promised m n t p r (some es) h k = k es refl

pub after_list : (s : List ℕ) {m n : Record} {t u : Tag} {p : Vec3} {r : Result ℕ Refusal} → is_some (edits_of s) ≡ true → Listed s m t n u → EvaluatesAs n u p r
    → After (edits_of s) m t p n r
after_list s {m} {n} {t} {u} {p} {r} h l e = record { promised = promised m n t p (reply_of r) (edits_of s) h (λ es g. at_end (l es g) e.unfit e.fitting) }
