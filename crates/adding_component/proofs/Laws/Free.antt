-- The first free tag, number by number. Assumes nothing.
use mathlib.Core.Path.{◌≡◌, refl, sym, ◌∙◌, ap, subst}
use mathlib.Core.Logic.{inl, inr}
use mathlib.Core.Bool.{Bool, true, false, not, ◌||◌}
use mathlib.Core.List.{[], ◌∷◌}
use mathlib.Core.Option.{Option, none, some}
use Prim.Native.Nat.{ℕ, suc, ◌+◌, ◌-◌, ◌<◌, ◌≤◌}
use native.Mathlib.Numerals.{add-one}
use native.Mathlib.Omega.{arith}
use lib.Dec.{T}
use lib.ListN.{length}
use Rattle.tag.specs.declared.Tag.{Tag as Label}
use Rattle.std.specs.Prelude.{Some, None}
use Rattle.tag.specs.Tags.{Tag, overlong, numbered, is}
use Rattle.tag.specs.View.{bytes_of, tag_fits, Made}
use Rattle.tag.proofs.Laws.Is.{is_true}
use Rattle.component.specs.declared.model_component.Component.{Component}
use Rattle.model.specs.declared.implicit_model.Model.{Model as Record}
use Rattle.model.specs.Table.{all, Table, held}
use Rattle.model.specs.Model.{Model, short_tag, valid}
use Rattle.model.specs.Edit.{first_free, free_tag}
use Rattle.model.specs.View.{components_of, view, passes}
use Rattle.model.proofs.Laws.Bool.{and_T₁, and_T₂}
use Rattle.model.proofs.Laws.Valid.{valid_passed}
use Rattle.held.proofs.Laws.Standing.{passes-valid}
use Rattle.adding_component.specs.Free.{FreeTag}

-- a tag that is too long is not held
not_held : {A : Type 0} (r : Table A) (t : Tag) → T (all short_tag r) → overlong t ≡ true → held t r ≡ false
unfolding held
not_held [] t h e = refl
not_held (x ∷ r) t h e = go (not_held r t (and_T₂ (short_tag x) (all short_tag r) h) e) (is x.0 t) refl
  where
    go : held t r ≡ false → (b : Bool) → is x.0 t ≡ b → (b || held t r) ≡ false
    go ih true p = absurd (subst (λ (y : Bool). T (not y)) (ap overlong (is_true x.0 t p) ∙ e) (and_T₁ (short_tag x) (all short_tag r) h))
    go ih false p = ih

-- a model that 7 lets pass holds short tags alone
pub tags-short : (m : Model) → T (valid m) → T (all short_tag m.components)
tags-short m v = (valid_passed m v).1.1.0

pub record-short : (m : Record) → passes m ≡ true → T (all short_tag (components_of m))
unfolding view
record-short m v = tags-short (view m) (passes-valid m v)

module _ (cs : Table Component) (t : Tag) where
  at_once : held t cs ≡ false → free_tag cs t ≡ some t
  unfolding free_tag
  at_once h = ap (λ (b : Bool). elim b as (λ _. Option Tag) [ true ↦ first_free cs t (suc (length cs)) 1 | false ↦ some t ]) h

  pub first-start : held t cs ≡ true → first_free cs t (suc (length cs)) 1 ≡ free_tag cs t
  unfolding free_tag
  first-start h = sym (ap (λ (b : Bool). elim b as (λ _. Option Tag) [ true ↦ first_free cs t (suc (length cs)) 1 | false ↦ some t ]) h)

  first-held : (d k : ℕ) → held (numbered t k) cs ≡ true → first_free cs t (suc d) k ≡ first_free cs t d (suc k)
  unfolding first_free
  first-held d k h = ap (λ (b : Bool). elim b as (λ _. Option Tag) [ true ↦ first_free cs t d (suc k) | false ↦ some (numbered t k) ]) h

  first-free : (d k : ℕ) → held (numbered t k) cs ≡ false → first_free cs t (suc d) k ≡ some (numbered t k)
  unfolding first_free
  first-free d k h = ap (λ (b : Bool). elim b as (λ _. Option Tag) [ true ↦ first_free cs t d (suc k) | false ↦ some (numbered t k) ]) h

  first-none : (k : ℕ) → first_free cs t 0 k ≡ none
  unfolding first_free
  first-none k = refl

-- ---- the search in the code

-- `left` numbers from k on are left to try
pub Trying : Table Component → Tag → ℕ → ℕ → Type 0
Trying cs t left k = first_free cs t left k ≡ free_tag cs t

module _ (cs : Table Component) (t : Label) where
  pub trying_start : {n : ℕ} → n ≡ length cs → held (bytes_of t) cs ≡ true → Trying cs (bytes_of t) (n + 1) 1
  unfolding Trying
  trying_start {n} e h = ap (λ (i : ℕ). first_free cs (bytes_of t) i 1) (add-one n ∙ ap suc e) ∙ first-start cs (bytes_of t) h

  pub free-once : tag_fits t ≡ true → held (bytes_of t) cs ≡ false → FreeTag cs (bytes_of t) (Some t)
  free-once s h = (at_once cs (bytes_of t) h, s)

  module _ (left k : ℕ) (h : Trying cs (bytes_of t) left k) where
    pub free-none : left ≤ 0 → FreeTag cs (bytes_of t) None
    unfolding Trying
    free-none l = inl (sym h ∙ (ap (λ (i : ℕ). first_free cs (bytes_of t) i k) (let z : left ≡ 0 = omega arith in z) ∙ first-none cs (bytes_of t) k))

    module _ (l : 0 < left) where
      more : left ≡ suc (left - 1)
      more = omega arith

      tried : held (numbered (bytes_of t) k) cs ≡ false → free_tag cs (bytes_of t) ≡ some (numbered (bytes_of t) k)
      unfolding Trying
      tried p = sym h ∙ (ap (λ (i : ℕ). first_free cs (bytes_of t) i k) more ∙ first-free cs (bytes_of t) (left - 1) k p)

      -- it is too long
      pub free-long : T (all short_tag cs) → overlong (numbered (bytes_of t) k) ≡ true → FreeTag cs (bytes_of t) None
      free-long v o = inr (numbered (bytes_of t) k, tried (not_held cs (numbered (bytes_of t) k) v o), o)

      module _ (u : Label) (made : Made (numbered (bytes_of t) k) u) where
        pub free-found : held (bytes_of u) cs ≡ false → FreeTag cs (bytes_of t) (Some u)
        free-found n = (tried (ap (λ (b : Tag). held b cs) (sym made.labelled.bytes) ∙ n) ∙ ap some (sym made.labelled.bytes), made.labelled.short)

        pub trying_next : held (bytes_of u) cs ≡ true → Trying cs (bytes_of t) (left - 1) (k + 1)
        unfolding Trying
        trying_next n =
            ap (λ (i : ℕ). first_free cs (bytes_of t) (left - 1) i) (add-one k)
            ∙ (sym (first-held cs (bytes_of t) (left - 1) k (ap (λ (b : Tag). held b cs) (sym made.labelled.bytes) ∙ n))
            ∙ (ap (λ (i : ℕ). first_free cs (bytes_of t) i k) (sym more) ∙ h))
