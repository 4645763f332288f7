-- The contract of an edit on bytes, from what was decoded, edited and stored. Assumes nothing.
use Prim.Native.Nat.{ℕ, ◌≤◌}
use mathlib.Core.Path.{◌≡◌, refl, sym, ap, subst, ◌∙◌}
use mathlib.Core.Bool.{Bool, true, false, not, ◌&&◌, cond}
use mathlib.Core.List.{List}
use mathlib.Core.Option.{Option, none, some, get_or, none-ne-some}
use native.Mathlib.Omega.{arith}
use Rattle.std.specs.Prelude.{Some}
use lib.Dec.{T, leb, eqb}
use lib.ListN.{length}
use borrow.Author.Tests.{eqb-true, eq-eqb}
use Rattle.tag.specs.Tags.{Tag, empty}
use Rattle.model.specs.declared.implicit_model.Model.{Model as Record}
use Rattle.model.specs.Model.{Model, Same, valid, new}
use Rattle.model.specs.Edit.{Edit, Answer, refused, Outcome, check, edit, apply}
use Rattle.model.specs.Answer.{answer_of}
use Rattle.model.specs.View.{component_of, list_of, view, fits, passes}
use Rattle.model.proofs.Laws.Bool.{T→true, true→T, and_T, and_T₁}
use Rattle.held.proofs.Laws.Rows.{rows-length}
use Rattle.held.proofs.Laws.Standing.{passes-valid, standing}
use Rattle.edit.specs.declared.Edited.{Edited}
use Rattle.edit.specs.Meets.{defined, Meets}
use Rattle.layout.specs.Words.{word}
use Rattle.model_bytes.specs.ModelBytes.{headed, model_in}
use Rattle.model_bytes.specs.Calls.{Decodes, Spares, Holds}
use Rattle.report.specs.Report.{reported, of_answer}
use Rattle.storing.specs.Called.{answer_in, Called}
use Rattle.storing.specs.Steps.{Told, Put, Written, Stored}
use Rattle.storing.proofs.Laws.Told.{answer-apart}

-- ---- the bytes

chosen : {A : Type 0} {a : A} (b : Bool) (o : Option A) → cond b o none ≡ some a → b ≡ true
chosen true o h = refl
chosen {a = a} false o h = absurd (none-ne-some a h)

-- bytes that hold a model have its length
pub model-long : (s : List ℕ) {m : Model} → model_in s ≡ some m → length s ≡ 27200
unfolding model_in headed
model-long s h =
    let rest = eqb (word s 0) 1 && (leb (word s 8) 64 && leb (word s 16) 128) in
    eqb-true (length s) 27200 (T→true (eqb (length s) 27200) (and_T₁ (eqb (length s) 27200) rest (true→T (eqb (length s) 27200 && rest) (chosen (headed s) _ h))))

-- they hold one
pub held_one : (s : List ℕ) {m n : Model} → model_in s ≡ some m → model_in s ≡ some n → m ≡ n
held_one s p q = ap (λ (o : Option Model). get_or o new) (sym p ∙ q)

-- ---- the record decoded: 7 of it is 7 of the model that the bytes hold

pub passes_is : (m : Record) → fits m ≡ true → passes m ≡ valid (view m)
unfolding passes
passes_is m fit = ap (λ (b : Bool). b && valid (view m)) fit

defined_is : (m : Record) → fits m ≡ true → (e : Edit) → defined e m ≡ apply e (view m)
unfolding defined apply
defined_is m fit e = ap (λ (b : Bool). check (view m) (not b) 7 empty 0 (edit e (view m))) (passes_is m fit)

-- ---- the record stored

fits_is : (n : Record) → passes n ≡ true → T (fits n)
unfolding passes
fits_is n p = and_T₁ (fits n) (valid (view n)) (true→T (fits n && valid (view n)) p)

module _ (n : Record) where
  count-components : n.component_count ≤ 64 → length n.components ≡ 64 → n.component_count ≡ length (view n).components
  unfolding view
  count-components l e = omega (arith, rows-length component_of n.components n.component_count)

  count-lists : n.list_count ≤ 128 → length n.lists ≡ 128 → n.list_count ≡ length (view n).lists
  unfolding view
  count-lists l e = omega (arith, rows-length list_of n.lists n.list_count)

module _ {n : Record} {s t : List ℕ} where
  rows-spared : passes n ≡ true → Put n s t → Spares (length (view n).components) (length (view n).lists) s t
  rows-spared p x =
      subst (λ (j : ℕ). Spares j (length (view n).lists) s t) (count-components n (standing n p).few x.components)
      (subst (λ (j : ℕ). Spares n.component_count j s t) (count-lists n (standing n p).few_lists x.lists) x.encodes.spares)

  pub holds_after : {m : Model} {r : ℕ} → length s ≡ 27200 → passes n ≡ true → Same m (view n) → Written n s t r → r ≡ 0 → Holds m s t
  holds_after size p q w z =
      let x = w.taken z in
      let yes = x.encodes.answer ∙ T→true _ (and_T (eqb (length s) 27200) (fits n) (true→T _ (eq-eqb (length s) 27200 size)) (fits_is n p)) in
      record {
        model = view n;
        held = x.encodes.holds yes;
        same = q;
        passing = T→true (valid (view n)) (passes-valid n p);
        rows = rows-spared p x;
      }

-- ---- the call

-- a model that 7 does not let pass is refused with 7
refused_7 : (e : Edit) (m : Model) → valid m ≡ false → (of_answer (apply e m).answer).code ≡ 7
unfolding apply check
refused_7 e m q = ap (λ (b : Bool). (of_answer (check m (not b) 7 empty 0 (edit e m)).answer).code) q

module _ (e : Edit) (s : List ℕ) {out after : List ℕ} {r : ℕ} where
  module _ {t : List ℕ} {x : Edited} (d : Record) (held : Decodes s (Some d)) (h : Meets e d x) (w : Stored x s t out after r) where
    answer_is : answer_of x.answer ≡ answer_in e (model_in s)
    answer_is = h.answer ∙ ap (λ (o : Outcome). o.answer) (defined_is d held.1 e) ∙ sym (ap (answer_in e) held.0)

    code : r ≡ (of_answer (answer_in e (model_in s))).code
    code = w.told.code ∙ ap (λ (a : Answer). (of_answer a).code) answer_is

    -- a refusal's number is not 0
    apart : {n i : ℕ} {u : Tag} → answer_in e (model_in s) ≡ refused n u i → r ≡ 0 → ⊥
    apart q z = answer-apart x.answer (answer_is ∙ q) (sym (ap (λ (a : Answer). (of_answer a).code) q) ∙ sym code ∙ z)

    module _ (m : Model) (g : model_in s ≡ some m) (z : r ≡ 0) where
      seen : view d ≡ m
      seen = held_one s held.0 g

      same : Same (apply e m).model (view x.model)
      same = subst (λ (o : Outcome). Same o.model (view x.model)) (defined_is d held.1 e ∙ ap (apply e) seen) h.model

      -- what was taken was asked of a model that 7 lets pass
      passing : (b : Bool) → valid m ≡ b → passes x.model ≡ true
      passing true q = h.passing ∙ passes_is d held.1 ∙ ap valid seen ∙ q
      passing false q =
          absurd
          (let k : 0 ≡ 7 = sym z ∙ code ∙ ap (λ (o : Option Model). (of_answer (answer_in e o)).code) g ∙ refused_7 e m q in
          let y : ⊥ = omega arith in y)

    pub called : Called e s t out after r
    called = record {
      code = code;
      report = w.told.report ∙ ap (λ (a : Answer). reported out (of_answer a)) answer_is;
      apart = λ q z. apart q z;
      model = λ m g z. holds_after (model-long s g) (passing m g z (valid m) refl) (same m g z) w.written z;
      kept = w.written.kept;
    }

-- bytes that hold no model are 7, and not one is changed
module _ (e : Edit) (s : List ℕ) (n : model_in s ≡ none) where
  answer_7 : refused 7 empty 0 ≡ answer_in e (model_in s)
  answer_7 = sym (ap (answer_in e) n)

  pub called_7 : {a : Answer} {out after : List ℕ} {r : ℕ} → a ≡ refused 7 empty 0 → Told a out after r → Called e s s out after r
  called_7 {out = out} q w = record {
    code = w.code ∙ ap (λ (b : Answer). (of_answer b).code) (q ∙ answer_7);
    report = w.report ∙ ap (λ (b : Answer). reported out (of_answer b)) (q ∙ answer_7);
    apart = λ p z. absurd (let k : 0 ≡ 7 = sym z ∙ w.code ∙ ap (λ (b : Answer). (of_answer b).code) q in let y : ⊥ = omega arith in y);
    model = λ m g z. absurd (none-ne-some m (sym n ∙ g));
    kept = λ k. refl;
  }
