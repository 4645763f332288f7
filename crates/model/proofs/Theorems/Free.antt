-- `add_component` always finds a tag: of one more numbered tag than there are components one is free, far below 1,001, so that `TagGenerationFailed` cannot arise. Assumes nothing.
use mathlib.Core.Path.{◌≡◌, refl, sym, ◌∙◌, ap, subst}
use mathlib.Core.Bool.{Bool, true, false}
use mathlib.Core.List.{List, [], ◌∷◌, Memᴰ}
use mathlib.Core.Option.{Option, none, some}
use Prim.Native.Nat.{ℕ, zero, suc, ◌+◌, ◌≤◌, ◌<◌}
use native.Mathlib.Omega.{arith}
use native.Mathlib.Decide.{ℕ_discrete}
use lib.Dec.{T}
use lib.ListN.{length}
use Rattle.tag.specs.Tags.{Tag, numbered}
use Rattle.tag.proofs.Laws.Numbered.{numbered_injective}
use Rattle.component.specs.declared.model_component.Component.{Component}
use Rattle.model.specs.Table.{Table, held}
use Rattle.model.specs.Model.{Model, valid}
use Rattle.model.specs.Edit.{first_free, free_tag}
use Rattle.model.proofs.Laws.Bool.{true→T}
use Rattle.model.proofs.Laws.Table.{held-true}
use Rattle.model.proofs.Laws.Valid.{some_some, none_some, good}
use Rattle.model.proofs.Laws.Once.{Once, no_tag, one_more, once_le, keys, keys_length, find_key}

module _ (cs : Table Component) (t : Tag) where
  -- the tags from number k on, d of them
  numbers : ℕ → ℕ → List Tag
  numbers zero k = []
  numbers (suc d) k = numbered t k ∷ numbers d (suc k)

  numbers_length : (d k : ℕ) → length (numbers d k) ≡ d
  unfolding numbers
  numbers_length zero k = refl
  numbers_length (suc d) k = ap suc (numbers_length d (suc k))

  not_later : (d j k : ℕ) → j < k → k + d ≤ 1001 → ¬ Memᴰ (numbered t j) (numbers d k)
  unfolding numbers
  not_later zero j k h b i = elim i [ ]
  not_later (suc d) j k h b (Memᴰ.head e) = let q = numbered_injective t j k (omega arith) (omega arith) e in absurd (omega arith)
  not_later (suc d) j k h b (Memᴰ.tail i) = not_later d j (suc k) (omega arith) (omega arith) i

  numbers_once : (d k : ℕ) → k + d ≤ 1001 → Once (numbers d k)
  unfolding numbers
  numbers_once zero k b = no_tag
  numbers_once (suc d) k b = one_more (not_later d k (suc k) (omega arith) (omega arith)) (numbers_once d (suc k) (omega arith))

  -- where none of them is free, each has a component
  all_held : (d k : ℕ) → first_free cs t d k ≡ none → (a : Tag) → Memᴰ a (numbers d k) → Memᴰ a (keys cs)
  unfolding numbers first_free
  all_held zero k e a i = elim i [ ]
  all_held (suc d) k e a i = go (all_held d (suc k)) (held (numbered t k) cs) refl e i
    where
      go : (first_free cs t d (suc k) ≡ none → (a : Tag) → Memᴰ a (numbers d (suc k)) → Memᴰ a (keys cs)) → (b : Bool) → held (numbered t k) cs ≡ b
          → ◌≡◌ {A = Option Tag} (elim b as (λ _. Option Tag) [ true ↦ first_free cs t d (suc k) | false ↦ some (numbered t k) ]) none
          → Memᴰ a (numbered t k ∷ numbers d (suc k)) → Memᴰ a (keys cs)
      go ih true q e (Memᴰ.head p) =
          subst (λ (x : Tag). Memᴰ x (keys cs)) (sym p) (find_key (numbered t k) cs (λ z. none_some (sym z ∙ (held-true (numbered t k) cs q).1)))
      go ih true q e (Memᴰ.tail i) = ih e a i
      go ih false q e i = none_some (sym e)

  -- d numbered tags of which none is free are no more than the components
  few_held : (d : ℕ) → d ≤ 1000 → first_free cs t d 1 ≡ none → d ≤ length cs
  few_held d b e = omega (arith, once_le (numbers_once d 1 (omega arith)) (all_held d 1 e), numbers_length d 1, keys_length cs)

  -- of fewer than 1,000 components
  free_few : length cs < 1000 → ¬ (free_tag cs t ≡ none)
  unfolding free_tag
  free_few h e = go (held t cs) e
    where
      go : (b : Bool) → ◌≡◌ {A = Option Tag} (elim b as (λ _. Option Tag) [ true ↦ first_free cs t (suc (length cs)) 1 | false ↦ some t ]) none → ⊥
      go true e = omega (arith, few_held (suc (length cs)) (omega arith) e)
      go false e = none_some (sym e)

-- a tag is found in every model that 7 lets pass
pub free_exists : (m : Model) (t : Tag) → T (valid m) → (u : Tag) × (free_tag m.components t ≡ some u)
free_exists m t v = go (free_tag m.components t) refl
  where
    go : (o : Option Tag) → free_tag m.components t ≡ o → (u : Tag) × (free_tag m.components t ≡ some u)
    go none e = let f = (good m v).few in absurd (free_few m.components t (omega arith) e)
    go (some u) e = (u, e)

-- ---- it is the first that is free

-- u is t_k, free, and each of t_j from number i on is held
pub record First (cs : Table Component) (t : Tag) (i : ℕ) (u : Tag) : Type 0 where
  pub number : ℕ
  pub from : i ≤ number
  pub is_numbered : u ≡ numbered t number
  pub free : held u cs ≡ false
  pub before : (j : ℕ) → i ≤ j → j < number → held (numbered t j) cs ≡ true

first_of : (cs : Table Component) (t : Tag) (d k : ℕ) (u : Tag) → first_free cs t d k ≡ some u → First cs t k u
unfolding first_free
first_of cs t zero k u e = none_some e
first_of cs t (suc d) k u e = go (first_of cs t d (suc k) u) (held (numbered t k) cs) refl e
  where
    go : (first_free cs t d (suc k) ≡ some u → First cs t (suc k) u) → (b : Bool) → held (numbered t k) cs ≡ b
        → elim b as (λ _. Option Tag) [ true ↦ first_free cs t d (suc k) | false ↦ some (numbered t k) ] ≡ some u → First cs t k u
    go ih true q e =
        let f = ih e in
        record { number = f.number; from = omega (arith, f.from); is_numbered = f.is_numbered; free = f.free; before = λ j h l. pick f j h l (ℕ_discrete j k) }
      where
        pick : (f : First cs t (suc k) u) (j : ℕ) → k ≤ j → j < f.number → Dec (j ≡ k) → held (numbered t j) cs ≡ true
        pick f j h l (yes p) = ap (λ (x : ℕ). held (numbered t x) cs) p ∙ q
        pick f j h l (no n) = f.before j (omega arith) l
    go ih false q e = record {
      number = k;
      from = omega arith;
      is_numbered = sym (some_some e);
      free = ap (λ (x : Tag). held x cs) (sym (some_some e)) ∙ q;
      before = λ j h l. absurd (omega arith);
    }

-- the tag if free, else the first free of t_1, t_2 and on
pub free-first : (cs : Table Component) (t u : Tag) → free_tag cs t ≡ some u → held t cs ≡ true → First cs t 1 u
unfolding free_tag
free-first cs t u e h = go (held t cs) h e
  where
    go : (b : Bool) → b ≡ true → elim b as (λ _. Option Tag) [ true ↦ first_free cs t (suc (length cs)) 1 | false ↦ some t ] ≡ some u → First cs t 1 u
    go true q e = first_of cs t (suc (length cs)) 1 u e
    go false q e = absurd (true→T false q)
