-- An edit does not see table positions: on two models that are the same, and that 7 lets pass, it answers the same and leaves the same. Assumes nothing.
use Rattle.std.specs.Prelude.{Ok, Err}
use mathlib.Core.Path.{◌≡◌, refl, sym, ◌∙◌, ap, ap₂, subst}
use mathlib.Core.Bool.{Bool, true, false, not, ◌&&◌, cond}
use mathlib.Core.List.{List, [], ◌∷◌, ◌++◌, map}
use mathlib.Core.Option.{Option, none, some, get_or}
use Prim.Native.Nat.{ℕ, zero, suc, ◌+◌}
use native.Mathlib.Omega.{arith}
use lib.Dec.{T, leb}
use lib.ListN.{length, set, replicate}
use Rattle.tag.specs.Tags.{Tag, is, numbered}
use Rattle.component.specs.Value.{input_count}
use Rattle.component.specs.Kind.{is_function, is_operation}
use Rattle.component.specs.Parameter.{Name, set_parameter as parameterSet, Setting}
use Rattle.component.specs.declared.parameter.Data.{Data}
use Rattle.component.specs.declared.parameter.ParameterError.TheVariants.{DoesNotFit, TooNear}
use Rattle.component.specs.declared.model_component.Component.{Component}
use Rattle.component.specs.declared.model_component.Component.TheVariants.{Constant}
use Rattle.model.specs.Table.{held, move}
use Rattle.model.specs.Model.{Place, Model, component, list, inputs, Same, valid}
use Rattle.model.specs.Walk.{gap, tags, fresh, Walked, clear, met, gapped, walk, total, walk_from}
use Rattle.model.specs.Edit.{Edit, add_operation, add_constant, add_function, add_component, add_input, remove_input, remove_component, rename_component, set_parameter, done, made, Outcome, refuse, check, with_component, with_operation, full, lists_full, add_plain, new_places, add_op, first_free, free_tag, add_under, add_free, add_any, with_list, walked, wire_in, add_wire, unwire_in, remove_wire, swap, without, remove, renamed, rename, settle, set_in, set_at, edit, apply}
use Rattle.model.proofs.Laws.Valid.{length-same, Good, good}
use Rattle.model.proofs.Laws.Even.{even_held, even_cut, even_put, even_each, even_move}
use Rattle.model.proofs.Theorems.Walk.{walk_ends}

-- the same answer, and the same model after it
pub record Alike (o p : Outcome) : Type 0 where
  pub answer : o.answer ≡ p.answer
  pub model : Same o.model p.model

module _ {m n : Model} (g : Good m) (h : Good n) (s : Same m n) where
  -- ---- the checks

  alike_refuse : (k : ℕ) (t : Tag) (i : ℕ) → Alike (refuse m k t i) (refuse n k t i)
  alike_refuse k t i = record { answer = refl; model = s }

  alike_check : {o p : Outcome} (b c : Bool) (k : ℕ) (t : Tag) (i : ℕ) → b ≡ c → Alike o p → Alike (check m b k t i o) (check n c k t i p)
  unfolding check
  alike_check {o} {p} b c k t i e a = subst (λ (x : Bool). Alike (cond b (refuse m k t i) o) (cond x (refuse n k t i) p)) e (go b)
    where
      go : (b : Bool) → Alike (cond b (refuse m k t i) o) (cond b (refuse n k t i) p)
      go true = alike_refuse k t i
      go false = a

  held_alike : (t : Tag) → held t m.components ≡ held t n.components
  held_alike t = even_held m.components n.components s.components t

  full_alike : full m ≡ full n
  full_alike = ap (leb 64) (length-same m.components n.components g.once h.once s.components)

  lists_full_alike : (t : Tag) → lists_full m t ≡ lists_full n t
  lists_full_alike t = ap₂ (λ (a : Bool) (k : ℕ). not a && leb 128 k) (even_held m.lists n.lists s.lists t)
      (length-same m.lists n.lists g.once-lists h.once-lists s.lists)

  -- ---- adding

  with-component : (t : Tag) (c : Component) (d : Tag) → Same (with_component m t c d) (with_component n t c d)
  with-component t c d = record { components = even_put m.components n.components s.components t c; lists = s.lists; default = refl }

  with-operation : (t : Tag) (c : Component) (l : List Place) (d : Tag) → Same (with_operation m t c l d) (with_operation n t c l d)
  with-operation t c l d = record { components = even_put m.components n.components s.components t c; lists = even_put m.lists n.lists s.lists t l; default = refl }

  alike_plain : (t : Tag) (c : Component) (fits : Bool) → Alike (add_plain m t c fits) (add_plain n t c fits)
  unfolding add_plain
  alike_plain t c fits = alike_check _ _ _ _ _ refl (alike_check _ _ _ _ _ refl (alike_check _ _ _ _ _ (held_alike t) (alike_check _ _ _ _ _ full_alike
      (record { answer = refl; model = with-component t c t }))))

  alike_operation : (t : Tag) (c : Component) (ts : Option (List Tag)) → Alike (add_op m t c ts) (add_op n t c ts)
  unfolding add_op
  alike_operation t c ts = alike_check _ _ _ _ _ refl (alike_check _ _ _ _ _ refl (alike_check _ _ _ _ _ (held_alike t) (alike_check _ _ _ _ _ refl
      (alike_check _ _ _ _ _ full_alike (alike_check _ _ _ _ _ (lists_full_alike t) (record { answer = refl; model = with-operation t c (new_places c ts) t }))))))

  first-free : (t : Tag) (d k : ℕ) → first_free m.components t d k ≡ first_free n.components t d k
  unfolding first_free
  first-free t zero k = refl
  first-free t (suc d) k =
      ap₂ (λ (b : Bool) (o : Option Tag). elim b as (λ _. Option Tag) [ true ↦ o | false ↦ some (numbered t k) ]) (held_alike (numbered t k)) (first-free t d (suc k))

  free_alike : (t : Tag) → free_tag m.components t ≡ free_tag n.components t
  unfolding free_tag
  free_alike t =
      ap₂ (λ (b : Bool) (o : Option Tag). elim b as (λ _. Option Tag) [ true ↦ o | false ↦ some t ]) (held_alike t)
      (ap (λ (k : ℕ). first_free m.components t (suc k) 1) (length-same m.components n.components g.once h.once s.components)
      ∙ first-free t (suc (length n.components)) 1)

  alike_under : (u t : Tag) (c : Component) → Alike (add_under m u t c) (add_under n u t c)
  unfolding add_under
  alike_under u t c = go (is_operation c)
    where
      go : (b : Bool) → Alike
          (cond b (check m (lists_full m u) 16 [] 0 (record { answer = made u; model = with_operation m u c (replicate (input_count c) none) t }))
          (record { answer = made u; model = with_component m u c t }))
          (cond b (check n (lists_full n u) 16 [] 0 (record { answer = made u; model = with_operation n u c (replicate (input_count c) none) t }))
          (record { answer = made u; model = with_component n u c t }))
      go true = alike_check _ _ _ _ _ (lists_full_alike u) (record { answer = refl; model = with-operation u c (replicate (input_count c) none) t })
      go false = record { answer = refl; model = with-component u c t }

  alike_free : (t : Tag) (c : Component) (u : Option Tag) → Alike (add_free m t c u) (add_free n t c u)
  alike_free t c none = alike_refuse _ _ _
  alike_free t c (some u) = alike_check _ _ _ _ _ refl (alike_check _ _ _ _ _ full_alike (alike_under u t c))

  -- ---- wiring

  inputs_alike : (t : Tag) → inputs m t ≡ inputs n t
  inputs_alike t = ap (λ (o : Option (List Place)). get_or o []) (s.lists t)

  walk_alike : (k : ℕ) (target : Tag) (seen line : List Tag) → walk k m target seen line ≡ walk k n target seen line
  unfolding walk
  walk_alike zero target seen line = refl
  walk_alike (suc k) target seen [] = refl
  walk_alike (suc k) target seen (t ∷ line) =
      ap (λ (w : Walked). elim (is t target) as (λ _. Walked) [ true ↦ met | false ↦ elim (gap 0 (inputs m t)) as (λ _. Walked) [ some i ↦ gapped t i | none ↦ w ] ])
      (walk_alike k target (fresh seen (tags (inputs m t)) ++ seen) (line ++ fresh seen (tags (inputs m t))))
      ∙ ap (λ (l : List Place). elim (is t target) as (λ _. Walked)
      [ true ↦ met | false ↦ elim (gap 0 l) as (λ _. Walked) [ some i ↦ gapped t i | none ↦ walk k n target (fresh seen (tags l) ++ seen) (line ++ fresh seen (tags l)) ] ])
      (inputs_alike t)

  -- The two walks may have other bounds; neither is reached.
  walk_from_alike : (target source : Tag) → walk_from m target source ≡ walk_from n target source
  walk_from_alike target source =
      let a = total m.lists in
      let b = total n.lists in
      let e : b + suc (suc a) ≡ a + suc (suc b) = omega arith in
      sym (walk_ends b m target source) ∙ (walk_alike (b + suc (suc a)) target (source ∷ []) (source ∷ [])
      ∙ (ap (λ (k : ℕ). walk k n target (source ∷ []) (source ∷ [])) e ∙ walk_ends a n target source))

  with-list : (t : Tag) (l : List Place) → Same (with_list m t l) (with_list n t l)
  with-list t l = record { components = s.components; lists = even_put m.lists n.lists s.lists t l; default = s.default }

  alike_walked : (t : Tag) {o p : Outcome} (w : Walked) → Alike o p → Alike (walked m t o w) (walked n t p w)
  alike_walked t clear a = a
  alike_walked t met a = alike_refuse _ _ _
  alike_walked t (gapped u i) a = alike_refuse _ _ _

  alike_wire : (t u : Tag) (i : ℕ) (l : Option (List Place)) → Alike (wire_in m t u i l) (wire_in n t u i l)
  alike_wire t u i none = alike_refuse _ _ _
  alike_wire t u i (some l) =
      let made_of : Model → Outcome = λ x. record { answer = done; model = with_list x t (set l i (some u)) } in
      alike_check _ _ _ _ _ refl (subst (λ (w : Walked). Alike (walked m t (made_of m) (walk_from m t u)) (walked n t (made_of n) w)) (walk_from_alike t u)
      (alike_walked t (walk_from m t u) (record { answer = refl; model = with-list t (set l i (some u)) })))

  alike_unwire : (t : Tag) (i : ℕ) (l : Option (List Place)) → Alike (unwire_in m t i l) (unwire_in n t i l)
  alike_unwire t i none = alike_refuse _ _ _
  alike_unwire t i (some l) = alike_check _ _ _ _ _ refl (record { answer = refl; model = with-list t (set l i none) })

  -- ---- removing, renaming, a parameter set

  without_alike : (t : Tag) → Same (without m t) (without n t)
  without_alike t = record { components = even_cut m.components n.components s.components t; lists = even_each m.lists n.lists s.lists (map (swap t none)); default = ap (swap t none) s.default }

  renamed_alike : (t u : Tag) → Same (renamed m t u) (renamed n t u)
  renamed_alike t u = record {
    components = even_move m.components n.components s.components t u;
    lists = even_each (move t u m.lists) (move t u n.lists) (even_move m.lists n.lists s.lists t u) (map (swap t (some u)));
    default = ap (swap t (some u)) s.default;
  }

  alike_settle : (t : Tag) (c : Setting) → Alike (settle m t c) (settle n t c)
  alike_settle t (Err DoesNotFit) = alike_refuse _ _ _
  alike_settle t (Err TooNear) = alike_refuse _ _ _
  alike_settle t (Ok c) = record { answer = refl; model = record { components = even_put m.components n.components s.components t c; lists = s.lists; default = s.default } }

  alike_set : (t : Tag) (x : Name) (d : Data) (c : Option Component) → Alike (set_in m t x d c) (set_in n t x d c)
  alike_set t x d none = alike_refuse _ _ _
  alike_set t x d (some c) = alike_settle t (parameterSet c x d)

  alike_edit : (e : Edit) → Alike (edit e m) (edit e n)
  unfolding edit add_any add_wire remove_wire remove rename set_at
  alike_edit (add_operation t c ts) = alike_operation t c ts
  alike_edit (add_constant t x) = alike_plain t (Constant x) true
  alike_edit (add_function t c) = alike_plain t c (is_function c)
  alike_edit (add_component t c) = alike_check _ _ _ _ _ refl
      (subst (λ (u : Option Tag). Alike (add_free m t c (free_tag m.components t)) (add_free n t c u)) (free_alike t) (alike_free t c (free_tag m.components t)))
  alike_edit (add_input t u i) = alike_check _ _ _ _ _ refl (alike_check _ _ _ _ _ refl (alike_check _ _ _ _ _ (ap not (held_alike t)) (alike_check _ _ _ _ _ (ap not (held_alike u))
      (subst (λ (l : Option (List Place)). Alike (wire_in m t u i (list m t)) (wire_in n t u i l)) (s.lists t) (alike_wire t u i (list m t))))))
  alike_edit (remove_input t i) = alike_check _ _ _ _ _ refl
      (subst (λ (l : Option (List Place)). Alike (unwire_in m t i (list m t)) (unwire_in n t i l)) (s.lists t) (alike_unwire t i (list m t)))
  alike_edit (remove_component t) = alike_check _ _ _ _ _ refl (alike_check _ _ _ _ _ (ap not (held_alike t)) (record { answer = refl; model = without_alike t }))
  alike_edit (rename_component t u) = alike_check _ _ _ _ _ refl (alike_check _ _ _ _ _ refl (alike_check _ _ _ _ _ (held_alike u) (alike_check _ _ _ _ _ (ap not (held_alike t))
      (record { answer = refl; model = renamed_alike t u }))))
  alike_edit (set_parameter t x d) = alike_check _ _ _ _ _ refl
      (subst (λ (c : Option Component). Alike (set_in m t x d (component m t)) (set_in n t x d c)) (s.components t) (alike_set t x d (component m t)))

pub apply_alike : (e : Edit) (m n : Model) → T (valid m) → T (valid n) → Same m n → Alike (apply e m) (apply e n)
unfolding apply
apply_alike e m n v w s = alike_check (good m v) (good n w) s (not (valid m)) (not (valid n)) 7 [] 0 (both (valid m) (valid n) v w) (alike_edit (good m v) (good n w) s e)
  where
    both : (a b : Bool) → T a → T b → not a ≡ not b
    both true true p q = refl
    both true false p q = absurd q
    both false b p q = absurd p
