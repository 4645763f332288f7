-- The newest tag is the one that sparing speaks of: of a form that compiles, an edit that spares it names no other target after it. Assumes nothing.
use mathlib.Core.Path.{◌≡◌, refl, sym, ◌∙◌, ap}
use mathlib.Core.Logic.{◌⊎◌, inl, inr, ◌≢◌}
use mathlib.Core.Bool.{Bool, cond}
use mathlib.Core.Option.{none, none-ne-some}
use Prim.Native.Nat.{ℕ}
use Rattle.tag.specs.Tags.{Tag}
use Rattle.tag.proofs.Laws.Is.{is_false}
use Rattle.model.specs.Model.{Model, component}
use Rattle.model.specs.Edit.{Edit, add_operation, add_constant, add_function, add_component, add_input, remove_input, remove_component, rename_component, set_parameter, Answer, made, refused, apply}
use Rattle.model.specs.Form.{here, Compiles}
use Rattle.model.specs.Steady.{Agrees, Spares, refusal, untouched, renaming}
use Rattle.model.proofs.Laws.Change.{move_old}
use Rattle.model.proofs.Theorems.Renaming.{rename_renames}
use Rattle.newest.specs.Carried.{after_rename, carried}

-- a refused edit leaves the target
carried-refused : (e : Edit) (n : ℕ) (a : Tag) (i : ℕ) (t : Tag) → carried e (refused n a i) t ≡ t
unfolding carried
carried-refused (add_operation s c is) n a i t = refl
carried-refused (add_constant s x) n a i t = refl
carried-refused (add_function s c) n a i t = refl
carried-refused (add_component s c) n a i t = refl
carried-refused (add_input s r j) n a i t = refl
carried-refused (remove_input s j) n a i t = refl
carried-refused (remove_component s) n a i t = refl
carried-refused (rename_component old new) n a i t = refl
carried-refused (set_parameter s k d) n a i t = refl

-- a rename that is taken takes the component from its old tag
gone : (m : Model) (old new : Tag) → (apply (rename_component old new) m).answer ≡ made new → component (apply (rename_component old new) m).model old ≡ none
gone m old new q =
    let k = rename_renames m old new in
    let c = k.there q in
    ap (λ (n : Model). component n old) (k.model q)
    ∙ move_old old new m.components (λ z. none-ne-some c.0 (sym (k.free q) ∙ ap (component m) (sym z) ∙ c.1)) c.1

-- so that one which leaves the reach as it was is of another tag than the target's
rename-untouched : {m : Model} {t : Tag} (old new : Tag) → Compiles m t → Agrees m t (apply (rename_component old new) m).model
    → t ≡ after_rename (apply (rename_component old new) m).answer old new t
rename-untouched {m} {t} old new c g = go (rename_renames m old new).told
  where
    other : (apply (rename_component old new) m).answer ≡ made new → t ≢ old
    other q z =
        c.present t (here, sym (g.components t here) ∙ ap (component (apply (rename_component old new) m).model) z ∙ gone m old new q)

    go : ((n : ℕ) × (a : Tag) × (i : ℕ) × ((apply (rename_component old new) m).answer ≡ refused n a i)) ⊎ ((apply (rename_component old new) m).answer ≡ made new)
        → t ≡ after_rename (apply (rename_component old new) m).answer old new t
    go (inl r) = sym (ap (λ (a : Answer). after_rename a old new t) r.3)
    go (inr q) = sym (ap (λ (a : Answer). after_rename a old new t) q ∙ ap (λ (b : Bool). cond b new t) (is_false t old (other q)))

untouched-carried : {m : Model} {t : Tag} (e : Edit) → Compiles m t → Agrees m t (apply e m).model → t ≡ carried e (apply e m).answer t
unfolding carried
untouched-carried (add_operation s k is) c g = refl
untouched-carried (add_constant s x) c g = refl
untouched-carried (add_function s k) c g = refl
untouched-carried (add_component s k) c g = refl
untouched-carried (add_input s r j) c g = refl
untouched-carried (remove_input s j) c g = refl
untouched-carried (remove_component s) c g = refl
untouched-carried (rename_component old new) c g = rename-untouched old new c g
untouched-carried (set_parameter s k d) c g = refl

pub spared-carried : {e : Edit} {m : Model} {t u : Tag} → Compiles m t → Spares e m t u → u ≡ carried e (apply e m).answer t
unfolding carried
spared-carried c (refusal {e = e} {t = t} {n = n} {a = a} {i = i} q) = sym (ap (λ (x : Answer). carried e x t) q ∙ carried-refused e n a i t)
spared-carried c (untouched {e = e} g) = untouched-carried e c g
spared-carried c (renaming {t = t} {old = old} {new = new} q l) = sym (ap (λ (x : Answer). after_rename x old new t) q)
