-- Every adding spares a form that compiles, and so does every edit that aims outside its reach. Assumes nothing.
use Rattle.std.specs.Prelude.{Ok, Err}
use mathlib.Core.Path.{◌≡◌, refl, sym, ◌∙◌, ap, ap₂, subst}
use mathlib.Core.Logic.{◌≢◌}
use mathlib.Core.Bool.{Bool, true, false, cond}
use mathlib.Core.List.{List, [], ◌∷◌, map, Memᴰ}
use mathlib.Core.Option
use mathlib.Core.Option.{Option, none, some, get_or}
use Prim.Native.Nat.{ℕ}
use Rattle.tag.specs.Tags.{Tag}
use Rattle.tag.proofs.Laws.Is.{is_false}
use Rattle.component.specs.Kind.{is_operation}
use Rattle.component.specs.Parameter.{Name, set_parameter as parameterSet, Setting}
use Rattle.component.specs.declared.parameter.Data.{Data}
use Rattle.component.specs.declared.parameter.ParameterError.TheVariants.{DoesNotFit, TooNear}
use Rattle.component.specs.declared.model_component.Component.{Component}
use Rattle.model.specs.Table.{move}
use Rattle.model.specs.Model.{Place, Model, component, list}
use Rattle.model.specs.Walk.{Walked, clear, met, gapped, walk_from}
use Rattle.model.specs.Edit.{Edit, add_operation, add_constant, add_function, add_component, add_input, remove_input, remove_component, rename_component, set_parameter, done, Outcome, refuse, check, with_component, with_operation, add_plain, add_op, free_tag, add_under, add_free, add_any, with_list, walked, wire_in, add_wire, unwire_in, remove_wire, swap, without, remove, renamed, rename, settle, set_in, set_at, edit, apply, aim}
use Rattle.model.specs.Form.{Reach, along, Compiles}
use Rattle.model.specs.Steady.{Agrees, Spares, untouched}
use Rattle.model.proofs.Laws.Table.{find_cut_other, find_put_other, held-false, find-each}
use Rattle.model.proofs.Laws.Valid.{none_some}
use Rattle.model.proofs.Laws.Change.{move_other}
use Rattle.model.proofs.Laws.Numbered.{free-tag}

-- the outcome leaves the form's reach as it was in m
record Fine (m : Model) (t : Tag) (o : Outcome) : Type 0 where
  agrees : Agrees m t o.model

module _ {m : Model} {t : Tag} where
  fine_refuse : {n : ℕ} {a : Tag} {i : ℕ} → Fine m t (refuse m n a i)
  fine_refuse = record { agrees = record { components = λ a r. refl; lists = λ a r. refl } }

  fine_check : {o : Outcome} (b : Bool) (n : ℕ) (a : Tag) (i : ℕ) → (b ≡ false → Fine m t o) → Fine m t (check m b n a i o)
  unfolding check
  fine_check {o} b n a i k = go b k
    where
      go : (b : Bool) → (b ≡ false → Fine m t o) → Fine m t (cond b (refuse m n a i) o)
      go true k = fine_refuse
      go false k = k refl

  fine_cond : (b : Bool) {o k : Outcome} → Fine m t o → Fine m t k → Fine m t (cond b o k)
  fine_cond true x y = x
  fine_cond false x y = y

-- places none of which names s are as they were after s is swapped
map_swap_other : (s : Tag) (p : Place) (l : List Place) → ¬ Memᴰ (some s) l → map (swap s p) l ≡ l
unfolding swap
map_swap_other s p [] h = refl
map_swap_other s p (none ∷ l) h = ap (none ∷◌) (map_swap_other s p l (λ i. h (Memᴰ.tail i)))
map_swap_other s p (some a ∷ l) h =
    ap₂ ◌∷◌ (ap (λ (b : Bool). cond b p (some a)) (is_false a s (λ e. h (Memᴰ.head (ap some (sym e))))))
    (map_swap_other s p l (λ i. h (Memᴰ.tail i)))

module _ {m : Model} {t : Tag} (h : Compiles m t) where
  -- ---- adding: a tag without a component is not reached

  not_free : {u a : Tag} → component m u ≡ none → Reach m t a → a ≢ u
  not_free {u} {a} e r q = h.present a (r, ap (component m) q ∙ e)

  fine_component : (u : Tag) (c : Component) (d : Tag) → component m u ≡ none → Agrees m t (with_component m u c d)
  fine_component u c d e = record { components = λ a r. find_put_other a u c m.components (not_free e r); lists = λ a r. refl }

  fine_operation : (u : Tag) (c : Component) (l : List Place) (d : Tag) → component m u ≡ none → Agrees m t (with_operation m u c l d)
  fine_operation u c l d e = record {
    components = λ a r. find_put_other a u c m.components (not_free e r);
    lists = λ a r. find_put_other a u l m.lists (not_free e r);
  }

  fine_plain : (s : Tag) (c : Component) (fits : Bool) → Fine m t (add_plain m s c fits)
  unfolding add_plain
  fine_plain s c fits =
      fine_check _ _ _ _ (λ _. fine_check _ _ _ _ (λ _. fine_check _ _ _ _ (λ q. fine_check _ _ _ _ (λ _.
      record { agrees = fine_component s c s (held-false s m.components q) }))))

  fine_under : (u d : Tag) (c : Component) → component m u ≡ none → Fine m t (add_under m u d c)
  unfolding add_under
  fine_under u d c e =
      fine_cond (is_operation c) (fine_check _ _ _ _ (λ _. record { agrees = fine_operation u c _ d e })) (record { agrees = fine_component u c d e })

  fine_free : (d : Tag) (c : Component) (u : Option Tag) → free_tag m.components d ≡ u → Fine m t (add_free m d c u)
  fine_free d c none e = fine_refuse
  fine_free d c (some u) e = fine_check _ _ _ _ (λ _. fine_check _ _ _ _ (λ _. fine_under u d c (free-tag m.components d u e)))

  -- ---- an edit at a tag s that is not reached

  module _ (s : Tag) (out : ¬ Reach m t s) where
    not_out : {a : Tag} → Reach m t a → a ≢ s
    not_out {a} r e = out (subst (Reach m t) e r)

    -- the list of a reached tag has no place that names s
    list-kept : (p : Place) (a : Tag) → Reach m t a → Option.map (map (swap s p)) (list m a) ≡ list m a
    list-kept p a r = go (list m a) (λ w. out (along r w))
      where
        go : (o : Option (List Place)) → ¬ Memᴰ (some s) (get_or o []) → Option.map (map (swap s p)) o ≡ o
        go none g = refl
        go (some l) g = ap some (map_swap_other s p l g)

    fine_list : (l : List Place) → Agrees m t (with_list m s l)
    fine_list l = record { components = λ a r. refl; lists = λ a r. find_put_other a s l m.lists (not_out r) }

    fine_walked : (l : List Place) (w : Walked) → Fine m t (walked m s (record { answer = done; model = with_list m s l }) w)
    fine_walked l clear = record { agrees = fine_list l }
    fine_walked l met = fine_refuse
    fine_walked l (gapped a i) = fine_refuse

    fine_wire : (b : Tag) (i : ℕ) (l : Option (List Place)) → Fine m t (wire_in m s b i l)
    fine_wire b i none = fine_refuse
    fine_wire b i (some l) = fine_check _ _ _ _ (λ _. fine_walked _ (walk_from m s b))

    fine_unwire : (i : ℕ) (l : Option (List Place)) → Fine m t (unwire_in m s i l)
    fine_unwire i none = fine_refuse
    fine_unwire i (some l) = fine_check _ _ _ _ (λ _. record { agrees = fine_list _ })

    fine_settle : (x : Setting) → Fine m t (settle m s x)
    fine_settle (Err DoesNotFit) = fine_refuse
    fine_settle (Err TooNear) = fine_refuse
    fine_settle (Ok c) = record { agrees = record { components = λ a r. find_put_other a s c m.components (not_out r); lists = λ a r. refl } }

    fine_set : (n : Name) (d : Data) (c : Option Component) → Fine m t (set_in m s n d c)
    fine_set n d none = fine_refuse
    fine_set n d (some c) = fine_settle (parameterSet c n d)

    fine_without : Agrees m t (without m s)
    fine_without = record {
      components = λ a r. find_cut_other a s m.components (not_out r);
      lists = λ a r. find-each (map (swap s none)) a m.lists ∙ list-kept none a r;
    }

    fine_renamed : (u : Tag) → component m u ≡ none → Agrees m t (renamed m s u)
    fine_renamed u e = record {
      components = λ a r. move_other s u m.components a (not_out r) (not_free e r);
      lists = λ a r. find-each (map (swap s (some u))) a (move s u m.lists)
          ∙ (ap (Option.map (map (swap s (some u)))) (move_other s u m.lists a (not_out r) (not_free e r)) ∙ list-kept (some u) a r);
    }

  -- ---- the edits

  fine_edit : (e : Edit) → ((s : Tag) → aim e ≡ some s → ¬ Reach m t s) → Fine m t (edit e m)
  unfolding edit add_op add_any add_wire remove_wire remove rename set_at aim
  fine_edit (add_operation s c ts) out =
      fine_check _ _ _ _ (λ _. fine_check _ _ _ _ (λ _. fine_check _ _ _ _ (λ q. fine_check _ _ _ _ (λ _. fine_check _ _ _ _ (λ _. fine_check _ _ _ _ (λ _.
      record { agrees = fine_operation s c _ s (held-false s m.components q) }))))))
  fine_edit (add_constant s x) out = fine_plain s _ _
  fine_edit (add_function s c) out = fine_plain s c _
  fine_edit (add_component s c) out = fine_check _ _ _ _ (λ _. fine_free s c (free_tag m.components s) refl)
  fine_edit (add_input s b i) out =
      fine_check _ _ _ _ (λ _. fine_check _ _ _ _ (λ _. fine_check _ _ _ _ (λ _. fine_check _ _ _ _ (λ _. fine_wire s (out s refl) b i (list m s)))))
  fine_edit (remove_input s i) out = fine_check _ _ _ _ (λ _. fine_unwire s (out s refl) i (list m s))
  fine_edit (remove_component s) out = fine_check _ _ _ _ (λ _. fine_check _ _ _ _ (λ _. record { agrees = fine_without s (out s refl) }))
  fine_edit (rename_component s u) out =
      fine_check _ _ _ _ (λ _. fine_check _ _ _ _ (λ _. fine_check _ _ _ _ (λ q. fine_check _ _ _ _ (λ _.
      record { agrees = fine_renamed s (out s refl) u (held-false u m.components q) }))))
  fine_edit (set_parameter s n d) out = fine_check _ _ _ _ (λ _. fine_set s (out s refl) n d (component m s))

  pub outside_spares : (e : Edit) → ((s : Tag) → aim e ≡ some s → ¬ Reach m t s) → Spares e m t t
  unfolding apply
  outside_spares e out = untouched (fine_check _ _ _ _ (λ _. fine_edit e out)).agrees

  pub adding_spares : (e : Edit) → aim e ≡ none → Spares e m t t
  adding_spares e a = outside_spares e (λ s q. none_some (sym a ∙ q))
