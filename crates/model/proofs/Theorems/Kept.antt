-- A refused edit changes nothing: the model after it is the one before it. Assumes nothing.
use Rattle.std.specs.Prelude.{Ok, Err}
use mathlib.Core.Path.{◌≡◌, refl}
use mathlib.Core.Bool.{Bool, true, false, cond}
use mathlib.Core.List.{List}
use mathlib.Core.Option.{Option, none, some}
use Prim.Native.Nat.{ℕ}
use native.Mathlib.Omega.{arith}
use Rattle.tag.specs.Tags.{Tag}
use Rattle.component.specs.Kind.{is_operation}
use Rattle.component.specs.Parameter.{Name, set_parameter as parameterSet, Setting}
use Rattle.component.specs.declared.parameter.Data.{Data}
use Rattle.component.specs.declared.parameter.ParameterError.TheVariants.{DoesNotFit, TooNear}
use Rattle.component.specs.declared.model_component.Component.{Component}
use Rattle.model.specs.Model.{Place, Model, component, list}
use Rattle.model.specs.Walk.{Walked, clear, met, gapped, walk_from}
use Rattle.model.specs.Edit.{Edit, add_operation, add_constant, add_function, add_component, add_input, remove_input, remove_component, rename_component, set_parameter, done, made, refused, Outcome, refuse, check, add_plain, add_op, free_tag, add_under, add_free, add_any, walked, wire_in, add_wire, unwire_in, remove_wire, remove, rename, settle, set_in, set_at, edit, apply}

-- where the outcome is refused, it leaves m
pub record Kept (m : Model) (o : Outcome) : Type 0 where
  pub kept : (n : ℕ) (a : Tag) (i : ℕ) → o.answer ≡ refused n a i → o.model ≡ m

module _ {m : Model} where
  kept-refuse : {n : ℕ} {t : Tag} {i : ℕ} → Kept m (refuse m n t i)
  kept-refuse = record { kept = λ n a i e. refl }

  kept-check : {o : Outcome} (b : Bool) (n : ℕ) (t : Tag) (i : ℕ) → Kept m o → Kept m (check m b n t i o)
  unfolding check
  kept-check {o} b n t i k = go b
    where
      go : (b : Bool) → Kept m (cond b (refuse m n t i) o)
      go true = kept-refuse
      go false = k

  kept-made : {n : Model} {u : Tag} → Kept m (record { answer = made u; model = n })
  kept-made = record { kept = λ n a i e. (let z : ◌≡◌ {A = ℕ} 0 1 = cc in absurd (omega arith)) }

  kept-done : {n : Model} → Kept m (record { answer = done; model = n })
  kept-done = record { kept = λ n a i e. (let z : ◌≡◌ {A = ℕ} 0 1 = cc in absurd (omega arith)) }

module _ (m : Model) where
  kept_under : (u t : Tag) (c : Component) → Kept m (add_under m u t c)
  unfolding add_under
  kept_under u t c = go (is_operation c) (kept-check _ _ _ _ kept-made) kept-made
    where
      go : (b : Bool) {o k : Outcome} → Kept m o → Kept m k → Kept m (cond b o k)
      go true x y = x
      go false x y = y

  kept_free : (t : Tag) (c : Component) (u : Option Tag) → Kept m (add_free m t c u)
  kept_free t c none = kept-refuse
  kept_free t c (some u) = kept-check _ _ _ _ (kept-check _ _ _ _ (kept_under u t c))

  kept-walked : (n : Model) (t : Tag) (w : Walked) → Kept m (walked m t (record { answer = done; model = n }) w)
  kept-walked n t clear = kept-done
  kept-walked n t met = kept-refuse
  kept-walked n t (gapped a i) = kept-refuse

  kept-wire : (t s : Tag) (i : ℕ) (l : Option (List Place)) → Kept m (wire_in m t s i l)
  kept-wire t s i none = kept-refuse
  kept-wire t s i (some l) = kept-check _ _ _ _ (kept-walked _ t (walk_from m t s))

  kept_unwire : (t : Tag) (i : ℕ) (l : Option (List Place)) → Kept m (unwire_in m t i l)
  kept_unwire t i none = kept-refuse
  kept_unwire t i (some l) = kept-check _ _ _ _ kept-done

  kept-settle : (t : Tag) (s : Setting) → Kept m (settle m t s)
  kept-settle t (Err DoesNotFit) = kept-refuse
  kept-settle t (Err TooNear) = kept-refuse
  kept-settle t (Ok c) = kept-done

  kept_set : (t : Tag) (n : Name) (d : Data) (c : Option Component) → Kept m (set_in m t n d c)
  kept_set t n d none = kept-refuse
  kept_set t n d (some c) = kept-settle t (parameterSet c n d)

  kept-plain : (t : Tag) (c : Component) (fits : Bool) → Kept m (add_plain m t c fits)
  unfolding add_plain
  kept-plain t c fits = kept-check _ _ _ _ (kept-check _ _ _ _ (kept-check _ _ _ _ (kept-check _ _ _ _ kept-made)))

  kept-edit : (e : Edit) → Kept m (edit e m)
  unfolding edit add_op add_any add_wire remove_wire remove rename set_at
  kept-edit (add_operation t c ts) =
      kept-check _ _ _ _ (kept-check _ _ _ _ (kept-check _ _ _ _ (kept-check _ _ _ _ (kept-check _ _ _ _ (kept-check _ _ _ _ kept-made)))))
  kept-edit (add_constant t x) = kept-plain t _ _
  kept-edit (add_function t c) = kept-plain t c _
  kept-edit (add_component t c) = kept-check _ _ _ _ (kept_free t c (free_tag m.components t))
  kept-edit (add_input t s i) = kept-check _ _ _ _ (kept-check _ _ _ _ (kept-check _ _ _ _ (kept-check _ _ _ _ (kept-wire t s i (list m t)))))
  kept-edit (remove_input t i) = kept-check _ _ _ _ (kept_unwire t i (list m t))
  kept-edit (remove_component t) = kept-check _ _ _ _ (kept-check _ _ _ _ kept-done)
  kept-edit (rename_component t u) = kept-check _ _ _ _ (kept-check _ _ _ _ (kept-check _ _ _ _ (kept-check _ _ _ _ kept-made)))
  kept-edit (set_parameter t n d) = kept-check _ _ _ _ (kept_set t n d (component m t))

pub refused-kept : (e : Edit) (m : Model) → Kept m (apply e m)
unfolding apply
refused-kept e m = kept-check _ _ _ _ (kept-edit m e)
