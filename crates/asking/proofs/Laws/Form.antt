-- A form's number at a point. Assumes nothing.
use Prim.Native.Nat.{ℕ}
use mathlib.Core.Path.{◌≡◌, refl, sym, ap, subst, ◌∙◌}
use mathlib.Core.Bool.{Bool, true, false, not}
use mathlib.Core.List.{List}
use mathlib.Core.Option.{Option, none}
use Rattle.std.specs.Prelude.{Some, Result, Ok, Err, IsErrAnd}
use Rattle.tag.specs.Tags.{Tag, empty}
use Rattle.geometry.specs.declared.vec3f.Vec3.{Vec3}
use Rattle.model.specs.declared.implicit_model.Model.{Model as Record}
use Rattle.model.specs.declared.model_error.Refusal.{Refusal}
use Rattle.model.specs.Answer.{refusal_of}
use Rattle.model.specs.Edit.{Answer, done, made, refused}
use Rattle.model.specs.Model.{Model}
use Rattle.model.specs.Form.{Reply, invalid, handed, bits, Evaluated, refused_by}
use Rattle.model.specs.View.{view, fits, passes}
use Rattle.model.proofs.Laws.Bool.{true→T}
use Rattle.evaluating.specs.Evaluate.{reply_of, EvaluatesAs}
use Rattle.model_bytes.specs.ModelBytes.{model_in}
use Rattle.model_bytes.specs.Calls.{Decodes}
use Rattle.report.specs.Report.{of_reply}
use Rattle.direct.specs.Evaluate.{EvaluatesIn}
use Rattle.opened.specs.Said.{of_number, Says}
use Rattle.opened.proofs.Laws.Said.{says_as, judged}
use Rattle.asking.specs.Form.{Replies, Evaluates}

-- ---- 7 judged on the record and on the model

module _ (m : Record) (t : Tag) (fit : fits m ≡ true) where
  pub evaluated : {p : Vec3} {r : Result ℕ Refusal} → EvaluatesAs m t p r → Evaluated (view m) t p (reply_of r)
  evaluated {p} {r} x = go (passes m) refl
    where
      go : (b : Bool) → passes m ≡ b → Evaluated (view m) t p (reply_of r)
      go true e = x.fitting e
      go false e = subst (Evaluated (view m) t p) (sym (x.unfit e)) (refused_by (invalid (true→T _ (ap not (judged m fit ∙ e)))))

-- ---- dw_evaluate_at

-- a refusal as a reply
abbrev reply : Answer → Reply
reply (refused n u i) = handed n u i
reply done = handed 0 empty 0
reply (made u) = handed 0 empty 0

module _ (s : List ℕ) (t : Tag) (p : Vec3) where
  -- straight from the bytes
  pub replied_direct : {b : ℕ} → EvaluatesIn s t p b → Replies (model_in s) t p (bits b)
  replied_direct {b} d = subst (λ (o : Option Model). Replies o t p (bits b)) (sym d.is) d.answers

  -- a refusal handed on
  pub replied_7 : (a : Result ℕ Refusal) (e : Refusal) → (model_in s ≡ none) × (refusal_of e ≡ refused 7 empty 0) → IsErrAnd a (λ x. x ≡ e) → Replies (model_in s) t p (reply_of a)
  replied_7 (Ok b) e f h = absurd h
  replied_7 (Err x) e f h = subst (λ (o : Option Model). Replies o t p (reply_of (Err x))) (sym f.0) (ap reply (ap refusal_of h ∙ f.1))

  pub replied : (m : Record) → Decodes s (Some m) → {a : Result ℕ Refusal} → EvaluatesAs m t p a → Replies (model_in s) t p (reply_of a)
  replied m x {a} h = subst (λ (o : Option Model). Replies o t p (reply_of a)) (sym x.0) (evaluated m t x.1 h)

  number_reply : (a : Result ℕ Refusal) → of_number a ≡ of_reply (reply_of a)
  number_reply (Ok b) = refl
  number_reply (Err r) = refl

  pub evaluates : (a : Result ℕ Refusal) {out after : List ℕ} {code : ℕ} → Replies (model_in s) t p (reply_of a) → Says (of_number a) out after code → Evaluates s t p out after code
  evaluates a d q = record { reply = reply_of a; defined = d; says = says_as q (number_reply a) }
