-- Document 01's steady number, demand 3: after any list of sparing edits, on any model that 7 lets pass and in which the target compiles, the form still compiles and evaluating it answers, at every point and with nothing else, the number that it had before. Assumes nothing.
use mathlib.Core.Path.{◌≡◌, refl, sym, ◌∙◌, subst}
use mathlib.Core.List.{List}
use lib.Dec.{T}
use lib.Ieee.{Float}
use Rattle.tag.specs.Tags.{Tag}
use Rattle.geometry.specs.declared.vec3f.Vec3.{Vec3}
use Rattle.model.specs.Model.{Model, valid, Same}
use Rattle.model.specs.Edit.{Edit, apply}
use Rattle.model.specs.Form.{here, Compiles, Number}
use Rattle.model.specs.Steady.{Agrees, relabel, Spares, refusal, untouched, renaming, Run, stop, step, Steady}
use Rattle.model.proofs.Theorems.Number.{number_exists}
use Rattle.model.proofs.Theorems.Evaluate.{evaluated_exactly}
use Rattle.model.proofs.Theorems.Carry.{Carries, compiles_carried, number-carried, agree_carries}
use Rattle.model.proofs.Theorems.Kept.{refused-kept}
use Rattle.model.proofs.Theorems.Renaming.{rename_renames, rename_carries}

same_agrees : {m n o : Model} {t : Tag} → Agrees m t n → Same n o → Agrees m t o
same_agrees h s = record { components = λ a r. sym (s.components a) ∙ h.components a r; lists = λ a r. sym (s.lists a) ∙ h.lists a r }

agrees_refl : (m : Model) (t : Tag) → Agrees m t m
agrees_refl m t = record { components = λ a r. refl; lists = λ a r. refl }

-- one sparing edit carries the form, whatever table positions it leaves
pub spared : {e : Edit} {m n : Model} {t u : Tag} → Spares e m t u → Compiles m t → Same (apply e m).model n
    → (f : Tag → Tag) × Carries f m t n × (u ≡ f t)
spared {n = n} (refusal {e = e} {m = m} {t = t} q) h s =
    (λ x. x, agree_carries (same_agrees (subst (λ (x : Model). Agrees m t x) (sym ((refused-kept e m).kept _ _ _ q)) (agrees_refl m t)) s), refl)
spared (untouched g) h s = (λ x. x, agree_carries (same_agrees g s), refl)
spared {n = n} (renaming {m = m} {t = t} {old = old} {new = new} q l) h s =
    let k = rename_renames m old new in
    (relabel old new, rename_carries old new h (subst (λ (x : Model). Same x n) (k.model q) s) (k.free q) (k.there q) l, refl)

-- after the list the form still compiles, and keeps its numbers
kept_form : {es : List Edit} {m n : Model} {t u : Tag} → Run es m t n u → Compiles m t
    → Compiles n u × ((p : Vec3) (x : Float) → Number m p t x → Number n p u x)
kept_form stop h = (h, λ p x k. k)
kept_form (step {n = n} a s v r) h =
    let c = spared a h s in
    let k = kept_form r (subst (Compiles n) (sym c.2) (compiles_carried c.1 h)) in
    (k.0, λ p x q. k.1 p x (subst (λ (w : Tag). Number n p w x) (sym c.2) (number-carried c.1 q here)))

valid_run : {es : List Edit} {m n : Model} {t u : Tag} → Run es m t n u → T (valid m) → T (valid n)
valid_run stop h = h
valid_run (step a s v r) h = valid_run r v

pub steady : Steady
steady es m n t u v h r =
    let k = kept_form r h in
    (k.0, λ p. let x = number_exists h p in (x.0, x.1, evaluated_exactly (valid_run r v) k.0 (k.1 p x.0 x.1)))
