-- The contracts of a new model and of a list of edits on bytes. Assumes nothing.
use Prim.Native.Nat.{ℕ}
use mathlib.Core.Path.{◌≡◌, refl, sym, ap, subst, ◌∙◌}
use mathlib.Core.Bool.{Bool, true, false}
use mathlib.Core.List.{List, []}
use mathlib.Core.Option.{Option, none, some, none-ne-some}
use native.Mathlib.Omega.{arith}
use Rattle.std.specs.Prelude.{Some, None, Option as Found, Result, Ok, Err}
use lib.Ieee.{Float, binary64, to_bits}
use lib.ListN.{length}
use Rattle.tag.specs.declared.Tag.{Tag as Label}
use Rattle.tag.specs.Tags.{Tag, empty}
use Rattle.geometry.specs.declared.vec3f.Vec3.{Vec3}
use Rattle.model.specs.declared.implicit_model.Model.{Model as Record}
use Rattle.model.specs.Model.{Model, new, Same, valid}
use Rattle.model.specs.declared.model_error.Refusal.{Refusal}
use Rattle.model.specs.Answer.{refusal_of, answer_of}
use Rattle.model.specs.Edit.{Edit, Answer, refused}
use Rattle.model.specs.Form.{Compiles, Number, Reply, bits, handed, Evaluated}
use Rattle.model.specs.View.{view, passes}
use Rattle.held.specs.Reading.{New}
use Rattle.evaluating.specs.Evaluate.{reply_of}
use Rattle.model_bytes.specs.ModelBytes.{model_in}
use Rattle.model_bytes.specs.Calls.{Decodes}
use Rattle.report.specs.Report.{reported, of_answer, of_reply}
use Rattle.opened.specs.Said.{of_number, Says}
use Rattle.steady.specs.Lists.{after, newest, Sparing}
use Rattle.steady.specs.Steadied.{Steadied, Promised, After}
use Rattle.model_bytes.specs.Calls.{Holds}
use Rattle.edit_lists.specs.Lists.{Begun, Begins, Answered, AskedAfter}
use Rattle.storing.specs.Steps.{Told, Replied, Written}
use Rattle.storing.proofs.Laws.Stored.{model-long, held_one, passes_is, holds_after}

-- ---- a new model

module _ {s : List ℕ} where
  pub begins_7 : (e : Refusal) → (length s ≡ 27200 → ⊥) → refusal_of e ≡ refused 7 empty 0 → Begins s s (Err e)
  begins_7 e h f = record { room = λ q. absurd (h q); elsewhere = λ q. (f, refl) }

  pub begins_new : {t : List ℕ} {m : Record} → length s ≡ 27200 → New m → Written m s t 0 → Begins s t (Ok None)
  begins_new e n w = record {
    room = λ q. (refl, holds_after e n.passing (subst (Same new) (sym n.holds) (record { components = λ u. refl; lists = λ u. refl; default = refl })) w refl);
    elsewhere = λ h. absurd (h e);
  }

  pub begun : {t out written : List ℕ} {r : ℕ} (a : Result (Found Label) Refusal) → Begins s t a → Told (answer_of a) out written r → Begun s t out written r
  begun {out = out} a b k = record {
    room = λ q. record {
      code = k.code ∙ ap (λ (y : Answer). (of_answer y).code) (b.room q).0;
      report = k.report ∙ ap (λ (y : Answer). reported out (of_answer y)) (b.room q).0;
      model = (b.room q).1;
    };
    elsewhere = λ h. record {
      code = k.code ∙ ap (λ (y : Answer). (of_answer y).code) (b.elsewhere h).0;
      report = k.report ∙ ap (λ (y : Answer). reported out (of_answer y)) (b.elsewhere h).0;
      kept = (b.elsewhere h).1;
    };
  }

-- ---- a list of edits

-- what is said of an asking is its reply
pub replied : {out written : List ℕ} {r : ℕ} (a : Result ℕ Refusal) → Says (of_number a) out written r → Replied (reply_of a) out written r
replied (Ok b) q = record { code = q.answer; report = q.report }
replied (Err e) q = record { code = q.answer; report = q.report }

module _ (o : Option (List Edit)) (target : Tag) (p : Vec3) {s out written : List ℕ} where
  pub asked_7 : {a : Answer} {r : ℕ} → model_in s ≡ none → a ≡ refused 7 [] 0 → Told a out written r → AskedAfter o target p s s out written r
  asked_7 h e k = record {
    reply = handed 7 empty 0;
    code = k.code ∙ ap (λ (b : Answer). (of_answer b).code) e;
    report = k.report ∙ ap (λ (b : Answer). reported out (of_answer b)) e;
    unread = λ q. refl;
    unlisted = λ q. refl;
    answered = λ m es g q. absurd (none-ne-some m (sym h ∙ g));
    model = λ m es g q z. absurd (none-ne-some m (sym h ∙ g));
    kept = λ z. refl;
  }

  module _ {t : List ℕ} {n : Record} {a : Result ℕ Refusal} {r : ℕ} (d : Record) (held : Decodes s (Some d)) (h : After o d target p n a)
      (k : Replied (reply_of a) out written r) (w : Written n s t r) where
    abbrev reply : Reply
    reply = reply_of a

    unlisted : o ≡ none → reply ≡ handed 7 empty 0
    unlisted q = (subst (λ (y : Option (List Edit)). Promised y d target p n reply) q h.promised).reply

    module _ (m : Model) (es : List Edit) (g : model_in s ≡ some m) (q : o ≡ some es) where
      run : Steadied es d target p n reply
      run = subst (λ (y : Option (List Edit)). Promised y d target p n reply) q h.promised

      seen : view d ≡ m
      seen = held_one s held.0 g

      passing : passes d ≡ valid m
      passing = passes_is d held.1 ∙ ap valid seen

      answered : Answered es m target p reply
      answered = record {
        invalid = λ v. (run.invalid (passing ∙ v)).reply;
        reply = λ v. subst (λ (n : Model). Evaluated (after es n) (newest es n target) p reply) seen (run.reply (passing ∙ v));
        steady = λ v.
            subst (λ (n : Model). Compiles n target → Sparing es n target → (x : Float) × Number n p target x × (reply ≡ bits (to_bits binary64 x)))
            seen (run.steady (passing ∙ v));
      }

      -- what was answered was asked of a model that 7 lets pass
      valid_is : (b : Bool) → valid m ≡ b → r ≡ 0 → valid m ≡ true
      valid_is true v z = v
      valid_is false v z =
          absurd
          (let i : 0 ≡ 7 = sym z ∙ k.code ∙ ap (λ (y : Reply). (of_reply y).code) (answered.invalid v) in
          let y : ⊥ = omega arith in y)

      stored : r ≡ 0 → Holds (after es m) s t
      stored z =
          let v = passing ∙ valid_is (valid m) refl z in
          holds_after (model-long s g) (run.passing v) (subst (λ (x : Model). Same (after es x) (view n)) seen (run.model v)) w z

    pub asked-after : AskedAfter o target p s t out written r
    asked-after = record {
      reply = reply;
      code = k.code;
      report = k.report;
      unread = λ q. absurd (none-ne-some (view d) (sym q ∙ held.0));
      unlisted = unlisted;
      answered = answered;
      model = stored;
      kept = w.kept;
    }
