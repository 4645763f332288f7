-- The tag that `add_component` makes is free, and is the one asked for or stands beside it. Assumes nothing.
use mathlib.Core.Path.{◌≡◌, refl, subst}
use mathlib.Core.Logic.{◌⊎◌, inl, inr}
use mathlib.Core.Bool.{Bool, true, false}
use mathlib.Core.Option.{Option, none, some}
use Prim.Native.Nat.{ℕ, zero, suc}
use lib.ListN.{length}
use Rattle.tag.specs.Tags.{Tag, numbered}
use Rattle.component.specs.declared.model_component.Component.{Component}
use Rattle.model.specs.Table.{Table, find, held}
use Rattle.model.specs.Edit.{first_free, free_tag}
use Rattle.model.proofs.Laws.Table.{held-false, held-true}
use Rattle.model.proofs.Laws.Valid.{Found, some_some, none_some}

module _ (cs : Table Component) (t : Tag) where
  first-free : (d k : ℕ) (u : Tag) → first_free cs t d k ≡ some u → find u cs ≡ none
  unfolding first_free
  first-free zero k u e = none_some e
  first-free (suc d) k u e = go (first-free d (suc k) u) (held (numbered t k) cs) refl e
    where
      go : (first_free cs t d (suc k) ≡ some u → find u cs ≡ none) → (b : Bool) → held (numbered t k) cs ≡ b
          → elim b as (λ _. Option Tag) [ true ↦ first_free cs t d (suc k) | false ↦ some (numbered t k) ] ≡ some u → find u cs ≡ none
      go ih true q e = ih e
      go ih false q e = subst (λ (x : Tag). find x cs ≡ none) (some_some e) (held-false (numbered t k) cs q)

  pub free-tag : (u : Tag) → free_tag cs t ≡ some u → find u cs ≡ none
  unfolding free_tag
  free-tag u e = go (held t cs) refl e
    where
      go : (b : Bool) → held t cs ≡ b → elim b as (λ _. Option Tag) [ true ↦ first_free cs t (suc (length cs)) 1 | false ↦ some t ] ≡ some u → find u cs ≡ none
      go true q e = first-free (suc (length cs)) 1 u e
      go false q e = subst (λ (x : Tag). find x cs ≡ none) (some_some e) (held-false t cs q)

  -- the tag asked for is held already, or is the one made
  pub free_or_held : (u : Tag) → free_tag cs t ≡ some u → (Found t cs) ⊎ (t ≡ u)
  unfolding free_tag
  free_or_held u e = go (held t cs) refl e
    where
      go : (b : Bool) → held t cs ≡ b → elim b as (λ _. Option Tag) [ true ↦ first_free cs t (suc (length cs)) 1 | false ↦ some t ] ≡ some u
          → (Found t cs) ⊎ (t ≡ u)
      go true q e = inl (held-true t cs q)
      go false q e = inr (some_some e)
