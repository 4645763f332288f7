-- Document 01's compile: it always answers, and with one answer only, whatever order it hands out. It hands out an order exactly if the form compiles, and refuses exactly if it does not. Assumes nothing.
use mathlib.Core.Path.{◌≡◌, refl, sym, ◌∙◌, ap, subst}
use mathlib.Core.Logic.{◌⊎◌, inl, inr, ◌↔◌}
use mathlib.Core.Bool.{Bool, true, false, not}
use mathlib.Core.List.{List, [], ◌∷◌, Memᴰ}
use mathlib.Core.Option.{Option, none, some}
use Prim.Native.Nat.{ℕ, suc}
use lib.Dec.{T, T_not}
use lib.ListN.{length}
use Rattle.tag.specs.Tags.{Tag, overlong}
use Rattle.component.specs.declared.model_component.Component.{Component}
use Rattle.model.specs.Model.{Place, Model, component, inputs, valid}
use Rattle.model.specs.Walk.{gap}
use Rattle.model.specs.Form.{Reach, here, Cyclic, Absent, Gapped, Compiles, Least, Refuses, invalid, long, cyclic, absent, gapped, Order, Compiling, ordered, stopped, Compiled, order, refusal}
use Rattle.model.proofs.Laws.Valid.{none_some, valid-short}
use Rattle.model.proofs.Laws.Once.{mem?}
use Rattle.model.proofs.Laws.Least.{least_unique, least_or_none}
use Rattle.model.proofs.Theorems.Order.{cycle_or_order, order-acyclic, order-count}

-- ---- one refusal at most

pub refuses_unique : {m : Model} {t : Tag} {n k : ℕ} {a b : Tag} {i j : ℕ} → Refuses m t n a i → Refuses m t k b j → stopped n a i ≡ stopped k b j
refuses_unique (invalid x) (invalid y) = refl
refuses_unique {m} (invalid x) (long y q) = absurd (T_not (valid m) x y)
refuses_unique {m} (invalid x) (cyclic y q c) = absurd (T_not (valid m) x y)
refuses_unique {m} (invalid x) (absent y q c l) = absurd (T_not (valid m) x y)
refuses_unique {m} (invalid x) (gapped y q c d l e) = absurd (T_not (valid m) x y)
refuses_unique {m} (long x p) (invalid y) = absurd (T_not (valid m) y x)
refuses_unique (long x p) (long y q) = refl
refuses_unique {m} {t} (long x p) (cyclic y q c) = absurd (T_not (overlong t) q p)
refuses_unique {m} {t} (long x p) (absent y q c l) = absurd (T_not (overlong t) q p)
refuses_unique {m} {t} (long x p) (gapped y q c d l e) = absurd (T_not (overlong t) q p)
refuses_unique {m} (cyclic x p c') (invalid y) = absurd (T_not (valid m) y x)
refuses_unique {m} {t} (cyclic x p c') (long y q) = absurd (T_not (overlong t) p q)
refuses_unique (cyclic x p c') (cyclic y q c) = refl
refuses_unique (cyclic x p c') (absent y q c l) = absurd (c c')
refuses_unique (cyclic x p c') (gapped y q c d l e) = absurd (c c')
refuses_unique {m} (absent x p c' l') (invalid y) = absurd (T_not (valid m) y x)
refuses_unique {m} {t} (absent x p c' l') (long y q) = absurd (T_not (overlong t) p q)
refuses_unique (absent x p c' l') (cyclic y q c) = absurd (c' c)
refuses_unique {m} {t} (absent x p c' l') (absent y q c l) = ap (λ (w : Tag). stopped 12 w 0) (least_unique (Absent m t) l' l)
refuses_unique (absent x p c' l') (gapped y q c d l e) = absurd (d _ l'.0)
refuses_unique {m} (gapped x p c' d' l' e') (invalid y) = absurd (T_not (valid m) y x)
refuses_unique {m} {t} (gapped x p c' d' l' e') (long y q) = absurd (T_not (overlong t) p q)
refuses_unique (gapped x p c' d' l' e') (cyclic y q c) = absurd (c' c)
refuses_unique (gapped x p c' d' l' e') (absent y q c l) = absurd (d' _ l.0)
refuses_unique {m} {t} (gapped x p c' d' l' e') (gapped y q c d l e) =
    let w = least_unique (Gapped m t) l' l in
    let f : some _ ≡ some _ = sym e' ∙ (ap (λ (z : Tag). gap 0 (inputs m z)) w ∙ e) in
    cc

-- ---- what compiles is not refused

-- a form that compiles has a component at its target, so that the target is within its size
pub compiles_short : {m : Model} {t : Tag} → T (valid m) → Compiles m t → T (not (overlong t))
compiles_short {m} {t} v h = go (component m t) refl
  where
    go : (o : Option Component) → component m t ≡ o → T (not (overlong t))
    go none e = absurd (h.present t (here, e))
    go (some c) e = valid-short m t v e

pub not_refused : {m : Model} {t : Tag} {n : ℕ} {a : Tag} {i : ℕ} → T (valid m) → Compiles m t → ¬ Refuses m t n a i
not_refused {m} v h (invalid k) = T_not (valid m) k v
not_refused {m} {t} v h (long k q) = T_not (overlong t) (compiles_short v h) q
not_refused v h (cyclic k q c) = h.acyclic c
not_refused v h (absent {a = a} k q c l) = h.present a l.0
not_refused v h (gapped {a = a} k q c d l e) = h.assigned a l.0

-- ---- compile has one answer

pub compiled_unique : {m : Model} {t : Tag} {r s : Compiling} {o k : List Tag} → Compiled m t r o → Compiled m t s k → r ≡ s
compiled_unique (refusal x) (refusal y) = refuses_unique x y
compiled_unique (refusal x) (order v w c o) = absurd (not_refused v c x)
compiled_unique (order v w c o) (refusal x) = absurd (not_refused v c x)
compiled_unique (order v w c o) (order x y d k) = refl

-- and one count: the size of the reach, or 0 where it is refused
pub compiled-count : {m : Model} {t : Tag} {r s : Compiling} {o k : List Tag} → Compiled m t r o → Compiled m t s k → length o ≡ length k
compiled-count (refusal x) (refusal y) = refl
compiled-count (refusal x) (order v w c o) = absurd (not_refused v c x)
compiled-count (order v w c o) (refusal x) = absurd (not_refused v c x)
compiled-count (order v w c o) (order x y d k) = order-count o k

-- ---- compile has an answer

none? : {A : Type 0} (o : Option A) → Dec (o ≡ none)
none? none = yes refl
none? (some a) = no (λ e. none_some (sym e))

-- the first gap of a list with an unassigned place
gap? : (l : List Place) → Dec (Memᴰ none l)
gap? [] = no (λ i. elim i [ ])
gap? (none ∷ l) = yes (Memᴰ.head refl)
gap? (some t ∷ l) = go (gap? l)
  where
    past : Memᴰ none (some t ∷ l) → Memᴰ none l
    past (Memᴰ.head e) = none_some e
    past (Memᴰ.tail i) = i

    go : Dec (Memᴰ none l) → Dec (Memᴰ none (some t ∷ l))
    go (yes i) = yes (Memᴰ.tail i)
    go (no n) = no (λ i. n (past i))

first_gap : (k : ℕ) (l : List Place) → Memᴰ none l → (i : ℕ) × (gap k l ≡ some i)
unfolding gap
first_gap k [] h = elim h [ ]
first_gap k (none ∷ l) h = (k, refl)
first_gap k (some t ∷ l) (Memᴰ.head e) = none_some e
first_gap k (some t ∷ l) (Memᴰ.tail h) = first_gap (suc k) l h

abbrev Answered : Model → Tag → Type 0
Answered m t = (c : Compiling) × (o : List Tag) × Compiled m t c o

module _ (m : Model) (t : Tag) where
  refused_with : {n : ℕ} {a : Tag} {i : ℕ} → Refuses m t n a i → Answered m t
  refused_with {n} {a} {i} r = (stopped n a i, [], refusal r)

  -- a property of reached tags, along an order
  reached? : {o : List Tag} → Order m t o → (P : Tag → Type 0) → ((a : Tag) → Dec (P a)) → (a : Tag) → Dec (Reach m t a × P a)
  reached? {o} k P d a = go (mem? a o) (d a)
    where
      go : Dec (Memᴰ a o) → Dec (P a) → Dec (Reach m t a × P a)
      go (yes i) (yes p) = yes (k.reached a i, p)
      go (yes i) (no n) = no (λ x. n x.1)
      go (no n) d = no (λ x. n (k.all a x.0))

  -- with an order 12 is looked for, then 13
  from_order : T (valid m) → T (not (overlong t)) → (o : List Tag) → Order m t o → Answered m t
  from_order v s o k = missing (least_or_none (Absent m t) (reached? k (λ a. component m a ≡ none) (λ a. none? (component m a))) o (λ a x. k.all a x.0))
    where
      gaps : ((a : Tag) → ¬ Absent m t a) → ((a : Tag) × Least (Gapped m t) a) ⊎ ((a : Tag) → ¬ Gapped m t a) → Answered m t
      gaps there (inl (a, l)) = let g = first_gap 0 (inputs m a) l.0.1 in refused_with (gapped v s (order-acyclic k) there l g.1)
      gaps there (inr full) = (ordered, o, order v s (record { acyclic = order-acyclic k; present = there; assigned = full }) k)

      missing : ((a : Tag) × Least (Absent m t) a) ⊎ ((a : Tag) → ¬ Absent m t a) → Answered m t
      missing (inl (a, l)) = refused_with (absent v s (order-acyclic k) l)
      missing (inr there) =
          gaps there (least_or_none (Gapped m t) (reached? k (λ a. Memᴰ none (inputs m a)) (λ a. gap? (inputs m a))) o (λ a x. k.all a x.0))

  from_target : T (valid m) → T (not (overlong t)) → Cyclic m t ⊎ ((o : List Tag) × Order m t o) → Answered m t
  from_target v s (inl c) = refused_with (cyclic v s c)
  from_target v s (inr (o, k)) = from_order v s o k

  pub compile_answers : (c : Compiling) × (o : List Tag) × Compiled m t c o
  compile_answers = model (valid m) refl
    where
      target : T (valid m) → (b : Bool) → overlong t ≡ b → Answered m t
      target v true e = refused_with (long v (subst T (sym e) tt))
      target v false e = from_target v (subst (λ (b : Bool). T (not b)) (sym e) tt) (cycle_or_order m t)

      model : (b : Bool) → valid m ≡ b → Answered m t
      model true e = target (subst T (sym e) tt) (overlong t) refl
      model false e = refused_with (invalid (subst (λ (b : Bool). T (not b)) (sym e) tt))

-- ---- exactly

module _ {m : Model} {t : Tag} (v : T (valid m)) where
  -- compile hands out an order exactly if the form compiles
  pub ordered_exactly : ((o : List Tag) × Compiled m t ordered o) ↔ Compiles m t
  ordered_exactly = (λ x. taken x.1, λ h. given h (compile_answers m t))
    where
      taken : {o : List Tag} → Compiled m t ordered o → Compiles m t
      taken (order x y h o) = h

      given : Compiles m t → Answered m t → (o : List Tag) × Compiled m t ordered o
      given h (c, o, order x y k w) = (o, order x y k w)
      given h (c, o, refusal r) = absurd (not_refused v h r)

  -- and refuses exactly if it does not
  pub refused_exactly : ((n : ℕ) × (a : Tag) × (i : ℕ) × Refuses m t n a i) ↔ (¬ Compiles m t)
  refused_exactly = (λ r h. not_refused v h r.3, λ n. given n (compile_answers m t))
    where
      given : ¬ Compiles m t → Answered m t → (n : ℕ) × (a : Tag) × (i : ℕ) × Refuses m t n a i
      given n (c, o, order x y k w) = absurd (n k)
      given n (stopped k a i, o, refusal r) = (k, a, i, r)
