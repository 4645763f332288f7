-- The contract of an edit on bytes, from an edit that was made in the bytes themselves. Assumes nothing.
use Prim.Native.Nat.{ℕ}
use mathlib.Core.Path.{◌≡◌, refl, sym, ap, subst, ◌∙◌}
use mathlib.Core.Bool.{Bool, false}
use mathlib.Core.List.{List}
use native.Mathlib.Omega.{arith}
use Rattle.tag.specs.Tags.{Tag}
use Rattle.model.specs.Model.{Model}
use Rattle.model.specs.Edit.{Edit, Answer, done, made, refused, apply}
use Rattle.model.proofs.Laws.Valid.{some_some}
use Rattle.model_bytes.specs.ModelBytes.{model_in}
use Rattle.model_bytes.specs.Calls.{Holds}
use Rattle.direct_rows.specs.Took.{Took, Takes}
use Rattle.report.specs.Report.{reported, of_answer}
use Rattle.storing.specs.Called.{answer_in, Called}
use Rattle.storing.specs.Steps.{Told}

answered : {e : Edit} {a : Answer} {s t : List ℕ} → Took e a s t → answer_in e (model_in s) ≡ a
answered {e} x = ap (answer_in e) x.is ∙ x.answer

-- where a is no refusal
taken : {e : Edit} {a : Answer} {s t out after : List ℕ} {r : ℕ} → ((n i : ℕ) (u : Tag) → a ≡ refused n u i → ⊥) → (of_answer a).code ≡ 0 → Took e a s t → Told a out after r → Called e s t out after r
taken {e} {a} {s} {t} {out} apart z x h = record {
  code = h.code ∙ ap (λ (b : Answer). (of_answer b).code) (sym (answered x));
  report = h.report ∙ ap (λ (b : Answer). reported out (of_answer b)) (sym (answered x));
  apart = λ {n} {u} {i} q k. apart n i u (sym (answered x) ∙ q);
  model = λ m g k. subst (λ (n : Model). Holds (apply e n).model s t) (some_some (sym x.is ∙ g)) x.holds;
  kept = λ k. absurd (k (h.code ∙ z));
}

module _ {e : Edit} {s t out after : List ℕ} {r : ℕ} where
  pub taken-done : Took e done s t → Told done out after r → Called e s t out after r
  taken-done x h = taken (λ n i u q. let k : ◌≡◌ {A = ℕ} 0 1 = cc in omega arith) refl x h

  pub taken_made : {u : Tag} → Took e (made u) s t → Told (made u) out after r → Called e s t out after r
  taken_made x h = taken (λ n i v q. let k : ◌≡◌ {A = ℕ} 0 1 = cc in omega arith) refl x h

  -- not taken so: the bytes are as they were, and the call goes on
  pub not_taken : {a : Answer} {b : Bool} {u : List ℕ} → Takes e a s u b → b ≡ false → Called e u t out after r → Called e s t out after r
  not_taken x q h = subst (λ (v : List ℕ). Called e v t out after r) (x.left q) h

-- neither is what made no tag
pub not_made : {e : Edit} {s t u out after : List ℕ} {r : ℕ} → u ≡ s → Called e u t out after r → Called e s t out after r
not_made {e} {t = t} {out = out} {after} {r} q h = subst (λ (v : List ℕ). Called e v t out after r) q h

-- the same edit
pub took_as : {f e : Edit} {a : Answer} {s t : List ℕ} → f ≡ e → Took f a s t → Took e a s t
took_as {a = a} {s = s} {t = t} q h = subst (λ (x : Edit). Took x a s t) q h

pub takes_as : {f e : Edit} {a : Answer} {s t : List ℕ} {b : Bool} → f ≡ e → Takes f a s t b → Takes e a s t b
takes_as {a = a} {s = s} {t = t} {b = b} q h = subst (λ (x : Edit). Takes x a s t b) q h
