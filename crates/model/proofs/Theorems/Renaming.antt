-- Renaming a component spares every form, if it has a list of its own or the new tag has none: the form is carried, with the new tag in place of the old. Assumes nothing.
use mathlib.Core.Path.{◌≡◌, refl, sym, ◌∙◌, ap, ap₂}
use mathlib.Core.Logic.{◌⊎◌, inl, inr, ◌≢◌}
use mathlib.Core.Bool.{Bool, true, false, cond}
use mathlib.Core.List.{List, [], ◌∷◌, map}
use mathlib.Core.Option
use mathlib.Core.Option.{Option, none, some, get_or}
use Prim.Native.Nat.{ℕ}
use native.Mathlib.Omega.{arith}
use Rattle.tag.specs.Tags.{Tag, is}
use Rattle.tag.proofs.Laws.Is.{is_refl, same?, is_false}
use Rattle.component.specs.declared.model_component.Component.{Component}
use Rattle.model.specs.Table.{find, move}
use Rattle.model.specs.Model.{Place, Model, component, list, inputs, Same}
use Rattle.model.specs.Edit.{rename_component, made, refused, Outcome, refuse, check, swap, renamed, rename, edit, apply}
use Rattle.model.specs.Form.{Reach, Compiles}
use Rattle.model.specs.Steady.{relabel, Spares, refusal, renaming}
use Rattle.model.proofs.Laws.Bool.{not_false}
use Rattle.model.proofs.Laws.Table.{held-false, held-true, find-each}
use Rattle.model.proofs.Laws.Change.{move_new, move-none, move_other}
use Rattle.model.proofs.Theorems.Carry.{retag, Carries}

-- ---- a rename is refused, or makes the new tag

-- what is known of a rename's outcome: where it makes a tag, it is the new one, no component had it, and one had the old
pub record Renames (m : Model) (old new : Tag) (o : Outcome) : Type 0 where
  pub told : ((n : ℕ) × (a : Tag) × (i : ℕ) × (o.answer ≡ refused n a i)) ⊎ (o.answer ≡ made new)
  pub model : {u : Tag} → o.answer ≡ made u → o.model ≡ renamed m old new
  pub free : {u : Tag} → o.answer ≡ made u → component m new ≡ none
  pub there : {u : Tag} → o.answer ≡ made u → (c : Component) × (component m old ≡ some c)

refused-made : {A : Type 0} {n : ℕ} {a u : Tag} {i : ℕ} → refused n a i ≡ made u → A
refused-made e = let z : ◌≡◌ {A = ℕ} 0 1 = cc in absurd (omega arith)

renames_check : {m : Model} {old new : Tag} {o : Outcome} (b : Bool) (n : ℕ) (t : Tag) (i : ℕ) → (b ≡ false → Renames m old new o)
    → Renames m old new (check m b n t i o)
unfolding check
renames_check {m} {old} {new} {o} b n t i k = go b k
  where
    go : (b : Bool) → (b ≡ false → Renames m old new o) → Renames m old new (cond b (refuse m n t i) o)
    go true k = record { told = inl (n, t, i, refl); model = λ e. refused-made e; free = λ e. refused-made e; there = λ e. refused-made e }
    go false k = k refl

pub rename_renames : (m : Model) (old new : Tag) → Renames m old new (apply (rename_component old new) m)
unfolding apply edit rename
rename_renames m old new =
    renames_check _ _ _ _ (λ _. renames_check _ _ _ _ (λ _. renames_check _ _ _ _ (λ _. renames_check _ _ _ _ (λ hn. renames_check _ _ _ _ (λ ho.
    record {
      told = inr refl;
      model = λ e. refl;
      free = λ e. held-false new m.components hn;
      there = λ e. held-true old m.components (not_false _ ho);
    })))))

-- ---- the tags after it

-- the old tag becomes the new one
pub relabel_old : (old new : Tag) → relabel old new old ≡ new
relabel_old old new = ap (λ (b : Bool). cond b new old) (is_refl old)

-- and every other tag stays
pub relabel_other : (old new s : Tag) → s ≢ old → relabel old new s ≡ s
relabel_other old new s h = ap (λ (b : Bool). cond b new s) (is_false s old h)

swap_retag : (old new : Tag) (p : Place) → swap old (some new) p ≡ retag (relabel old new) p
unfolding swap
swap_retag old new none = refl
swap_retag old new (some s) = go (is s old)
  where
    go : (b : Bool) → cond b (some new) (some s) ≡ some (cond b new s)
    go true = refl
    go false = refl

map-swap : (old new : Tag) (l : List Place) → map (swap old (some new)) l ≡ map (retag (relabel old new)) l
map-swap old new [] = refl
map-swap old new (p ∷ l) = ap₂ ◌∷◌ (swap_retag old new p) (map-swap old new l)

-- ---- a rename carries the form

-- the places of a list that may be absent
abbrev places_of : Option (List Place) → List Place
places_of o = get_or o []

-- n is the renamed model, at any table positions
module _ {m n : Model} {t : Tag} (old new : Tag) (h : Compiles m t) (s : Same (renamed m old new) n)
    (free : component m new ≡ none) (there : (c : Component) × (component m old ≡ some c)) (l : (list m old ≢ none) ⊎ (list m new ≡ none)) where
  not_new : {a : Tag} → Reach m t a → a ≢ new
  not_new {a} r e = h.present a (r, ap (component m) e ∙ free)

  component_on : (a : Tag) → Reach m t a → component n (relabel old new a) ≡ component m a
  component_on a r = sym (s.components (relabel old new a)) ∙ go (same? a old)
    where
      go : Dec (a ≡ old) → component (renamed m old new) (relabel old new a) ≡ component m a
      go (yes e) = ap (λ (x : Tag). component (renamed m old new) (relabel old new x)) e ∙ (ap (component (renamed m old new)) (relabel_old old new)
          ∙ (move_new old new m.components there.1 ∙ (sym there.1 ∙ ap (component m) (sym e))))
      go (no k) = ap (component (renamed m old new)) (relabel_other old new a k) ∙ move_other old new m.components a k (not_new r)

  -- the old tag's list, moved: it has one, or the new tag has none
  old_list : (o : Option (List Place)) → list m old ≡ o → find new (move old new m.lists) ≡ o
  old_list none e = ap (find new) (move-none old new m.lists e) ∙ pick l
    where
      pick : (list m old ≢ none) ⊎ (list m new ≡ none) → list m new ≡ none
      pick (inl g) = absurd (g e)
      pick (inr g) = g
  old_list (some x) e = move_new old new m.lists e

  list_on : (a : Tag) → Reach m t a → find (relabel old new a) (move old new m.lists) ≡ list m a
  list_on a r = go (same? a old)
    where
      go : Dec (a ≡ old) → find (relabel old new a) (move old new m.lists) ≡ list m a
      go (yes e) = ap (λ (x : Tag). find (relabel old new x) (move old new m.lists)) e
          ∙ (ap (λ (x : Tag). find x (move old new m.lists)) (relabel_old old new) ∙ (old_list (list m old) refl ∙ ap (list m) (sym e)))
      go (no k) = ap (λ (x : Tag). find x (move old new m.lists)) (relabel_other old new a k) ∙ move_other old new m.lists a k (not_new r)

  places_on : (a : Tag) → Reach m t a → inputs n (relabel old new a) ≡ map (retag (relabel old new)) (inputs m a)
  places_on a r =
      ap places_of (sym (s.lists (relabel old new a)) ∙ (find-each (map (swap old (some new))) (relabel old new a) (move old new m.lists)
      ∙ ap (Option.map (map (swap old (some new)))) (list_on a r))) ∙ go (list m a)
    where
      go : (o : Option (List Place)) → places_of (Option.map (map (swap old (some new))) o) ≡ map (retag (relabel old new)) (places_of o)
      go none = refl
      go (some x) = map-swap old new x

  apart : (a b : Tag) → Reach m t a → Reach m t b → relabel old new a ≡ relabel old new b → a ≡ b
  apart a b ra rb e = go (same? a old) (same? b old)
    where
      go : Dec (a ≡ old) → Dec (b ≡ old) → a ≡ b
      go (yes p) (yes q) = p ∙ sym q
      go (yes p) (no q) = absurd (not_new rb (sym (relabel_other old new b q) ∙ (sym e ∙ (ap (relabel old new) p ∙ relabel_old old new))))
      go (no p) (yes q) = absurd (not_new ra (sym (relabel_other old new a p) ∙ (e ∙ (ap (relabel old new) q ∙ relabel_old old new))))
      go (no p) (no q) = sym (relabel_other old new a p) ∙ (e ∙ relabel_other old new b q)

  pub rename_carries : Carries (relabel old new) m t n
  rename_carries = record { one_to_one = apart; components = component_on; places = places_on }

-- ---- a rename spares

-- any rename under document 01's premise spares any form: it is refused and the target stays, or the target is the old tag under its new name
pub rename-spares : (m : Model) (t old new : Tag) → (list m old ≢ none) ⊎ (list m new ≡ none)
    → Spares (rename_component old new) m t t ⊎ Spares (rename_component old new) m t (relabel old new t)
rename-spares m t old new l = go (rename_renames m old new).told
  where
    go : ((n : ℕ) × (a : Tag) × (i : ℕ) × ((apply (rename_component old new) m).answer ≡ refused n a i)) ⊎ ((apply (rename_component old new) m).answer ≡ made new)
        → Spares (rename_component old new) m t t ⊎ Spares (rename_component old new) m t (relabel old new t)
    go (inl r) = inl (refusal r.3)
    go (inr r) = inr (renaming r l)
