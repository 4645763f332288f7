-- How an edit's code meets its contract: check by check, then the record made. Assumes nothing.
use mathlib.Core.Path.{◌≡◌, refl, sym, ◌∙◌, ap, subst}
use mathlib.Core.Logic.{◌⊎◌, inl, inr}
use mathlib.Core.Bool.{Bool, true, false, not, cond}
use mathlib.Core.List.{[]}
use Prim.Native.Nat.{ℕ}
use native.Mathlib.Omega.{arith}
use lib.Dec.{T}
use Rattle.std.specs.Prelude.{Option, Some, None, Result, Ok, Err, IsErrAnd}
use Rattle.std.specs.Option.{ok_or}
use Rattle.tag.specs.declared.Tag.{Tag as Label}
use Rattle.tag.specs.Tags.{Tag, empty}
use Rattle.tag.specs.View.{bytes_of}
use Rattle.model.specs.declared.implicit_model.Model.{Model as Record}
use Rattle.model.specs.Model.{Model, Same, valid}
use Rattle.model.specs.Edit.{Edit, done, made, refused, Outcome, refuse, check, edit, apply}
use Rattle.model.specs.declared.model_error.Refusal.{Refusal}
use Rattle.model.specs.Answer.{refusal_of, answer_of}
use Rattle.model.specs.View.{view, passes}
use Rattle.model.proofs.Laws.Bool.{T→true}
use Rattle.held.proofs.Laws.Standing.{Standing, passes-valid, stands_passes}
use Rattle.model.proofs.Theorems.Keep.{apply-valid}
use Rattle.edit.specs.declared.Edited.{Edited}
use Rattle.edit.specs.Meets.{defined, Meets}
use Rattle.edit.specs.Ends.{Ends, Refused}

-- r is what the outcome o of an edit of m asks, at any table positions
pub record Step (o : Outcome) (m : Record) (r : Edited) : Type 0 where
  pub answer : answer_of r.answer ≡ o.answer
  pub model : Same o.model (view r.model)
  pub stands : (r.model ≡ m) ⊎ Standing r.model
  pub kept : {n : ℕ} {t : Tag} {i : ℕ} → answer_of r.answer ≡ refused n t i → r.model ≡ m

-- ---- the code's answers: a refusal, also one handed on, and the record as it was

pub stays : {m : Record} {n i : ℕ} {t : Tag} {e : Refusal} → refusal_of e ≡ refused n t i → Refused m n t i (record { answer = Err e; model = m })
stays h = record { model = refl; answer = h }

pub handed_on : {m : Record} {n i : ℕ} {t : Tag} (e : Refusal) {a : Result (Option Label) Refusal} → IsErrAnd a (λ x. x ≡ e) → refusal_of e ≡ refused n t i
    → Refused m n t i (record { answer = a; model = m })
handed_on e {a = Ok x} p h = absurd p
handed_on e {a = Err x} p h = stays (ap refusal_of p ∙ h)

-- and one that another type's error becomes
pub becomes : {m : Record} {n i : ℕ} {t : Tag} {a : Result (Option Label) Refusal} → IsErrAnd a (λ x. refusal_of x ≡ refused n t i) → Refused m n t i (record { answer = a; model = m })
becomes {a = Ok x} p = absurd p
becomes {a = Err x} p = stays p

-- what `ok_or` makes of nothing
pub unmade : {A : Type 0} {e : Refusal} {n i : ℕ} {t : Tag} (o : Option A) (d : Refusal) → Err e ≡ ok_or o d → refusal_of d ≡ refused n t i → refusal_of e ≡ refused n t i
unmade {e = e} None d h q = let same : e ≡ d = grind arith in ap refusal_of same ∙ q
unmade (Some x) d h q = absurd (grind arith)

-- done, and a tag made
pub is_done : {n : Record} → Ends done n (record { answer = Ok None; model = n })
is_done = record { model = refl; answer = refl }

pub is_made : {n : Record} {t : Label} → Ends (made (bytes_of t)) n (record { answer = Ok (Some t); model = n })
is_made = record { model = refl; answer = refl }

-- ---- a step

same_refl : (m : Model) → Same m m
same_refl m = record { components = λ t. refl; lists = λ t. refl; default = refl }

module _ {m : Record} {r : Edited} where
  -- refused as the outcome is
  pub refusal : {n : ℕ} {t : Tag} {i : ℕ} → Refused m n t i r → Step (refuse (view m) n t i) m r
  refusal h = record {
    answer = h.answer;
    model = subst (λ (x : Record). Same (view m) (view x)) (sym h.model) (same_refl (view m));
    stands = inl h.model;
    kept = λ e. h.model;
  }

  -- a check that does not refuse is passed
  pub skip : {o : Outcome} (b : Bool) (n : ℕ) (t : Tag) (i : ℕ) → b ≡ false → Step o m r → Step (check (view m) b n t i o) m r
  unfolding check
  skip {o} b n t i e h = subst (λ (x : Bool). Step (cond x (refuse (view m) n t i) o) m r) (sym e) h

  -- a check that refuses
  pub stop : (b : Bool) (n : ℕ) (t : Tag) (i : ℕ) (o : Outcome) → b ≡ true → Refused m n t i r → Step (check (view m) b n t i o) m r
  unfolding check
  stop b n t i o z h = subst (λ (x : Bool). Step (cond x (refuse (view m) n t i) o) m r) (sym z) (refusal h)

  -- the tag made, or done, with a record that stands and holds what the outcome does
  pub finish_made : {w : Model} {t : Tag} {n : Record} → Ends (made t) n r → Same w (view n) → Standing n → Step (record { answer = made t; model = w }) m r
  finish_made {w} {n = n} a s g = record {
    answer = a.answer;
    model = subst (λ (x : Record). Same w (view x)) (sym a.model) s;
    stands = inr (subst Standing (sym a.model) g);
    kept = λ e. absurd (let z : ◌≡◌ {A = ℕ} 0 1 = cc (a.answer, e) in let y : ⊥ = omega arith in y);
  }

  pub finish_done : {w : Model} {n : Record} → Ends done n r → Same w (view n) → Standing n → Step (record { answer = done; model = w }) m r
  finish_done {w} {n = n} a s g = record {
    answer = a.answer;
    model = subst (λ (x : Record). Same w (view x)) (sym a.model) s;
    stands = inr (subst Standing (sym a.model) g);
    kept = λ e. absurd (let z : ◌≡◌ {A = ℕ} 0 1 = cc (a.answer, e) in let y : ⊥ = omega arith in y);
  }

-- ---- 7

-- what a record that passes comes to is what its edit is defined to be
pub defined-apply : (e : Edit) (m : Record) → passes m ≡ true → defined e m ≡ apply e (view m)
unfolding defined apply check
defined-apply e m p =
    ap (λ (b : Bool). cond (not b) (refuse (view m) 7 empty 0) (edit e (view m))) (p ∙ sym (T→true (valid (view m)) (passes-valid m p)))

pub defined-refused : (e : Edit) (m : Record) → passes m ≡ false → defined e m ≡ refuse (view m) 7 empty 0
unfolding defined check
defined-refused e m p = ap (λ (b : Bool). cond (not b) (refuse (view m) 7 empty 0) (edit e (view m))) p

-- THE LAW: checks passed or refused in their sequence, and a record that stands, make the contract
meets : (e : Edit) (m : Record) (r : Edited) → Step (defined e m) m r → Meets e m r
meets e m r s = record { answer = s.answer; model = s.model; passing = go (passes m) refl s.stands; kept = λ q. s.kept q }
  where
    go : (b : Bool) → passes m ≡ b → (r.model ≡ m) ⊎ Standing r.model → passes r.model ≡ passes m
    go b p (inl q) = ap passes q
    go true p (inr g) =
        stands_passes (defined e m).model r.model
        (subst (λ (x : Outcome). T (valid x.model)) (sym (defined-apply e m p)) (apply-valid e (view m) (passes-valid m p))) s.model g ∙ sym p
    go false p (inr g) = ap passes (s.kept (s.answer ∙ ap (λ (x : Outcome). x.answer) (defined-refused e m p)))

module _ {e : Edit} {m : Record} {r : Edited} where
  pub meets_7 : passes m ≡ false → Refused m 7 [] 0 r → Meets e m r
  unfolding defined
  meets_7 p h = meets e m r (stop (not (passes m)) 7 empty 0 (edit e (view m)) (ap not p) h)

  pub meets_on : passes m ≡ true → Step (edit e (view m)) m r → Meets e m r
  unfolding defined
  meets_on p s = meets e m r (skip (not (passes m)) 7 empty 0 (ap not p) s)
