-- Of the tags of a list with a property one is the least in byte order, and only one. Assumes nothing.
use mathlib.Core.Path.{◌≡◌, refl, sym, ◌∙◌, subst}
use mathlib.Core.Logic.{◌⊎◌, inl, inr}
use mathlib.Core.Bool.{Bool, true, false, true≢false}
use mathlib.Core.List.Memᴰ
use mathlib.Core.List.{List, [], ◌∷◌, Memᴰ}
use lib.Dec.{T}
use Rattle.tag.specs.Tags.{Tag, before}
use Rattle.tag.proofs.Laws.Order.{before_irrefl, before_trans, before_level}
use Rattle.model.specs.Form.{Least}
use Rattle.model.proofs.Laws.Bool.{T→true, true→T}

-- byte order, by its test
not_T : (b : Bool) → ¬ T b → b ≡ false
not_T true h = absurd (h tt)
not_T false h = refl

irreflexive : (s : Tag) → ¬ T (before s s)
irreflexive s h = true≢false (sym (T→true (before s s) h) ∙ before_irrefl s)

ahead_trans : (s t u : Tag) → T (before s t) → T (before t u) → T (before s u)
ahead_trans s t u h k = true→T (before s u) (before_trans s t u (T→true (before s t) h) (T→true (before t u) k))

level : (s t : Tag) → ¬ T (before s t) → ¬ T (before t s) → s ≡ t
level s t h k = before_level s t (not_T (before s t) h) (not_T (before t s) k)

pub least_unique : (P : Tag → Type 0) {a b : Tag} → Least P a → Least P b → a ≡ b
least_unique P {a} {b} l k = level a b (λ x. k.1 a x l.0) (λ x. l.1 b x k.0)

-- ---- the least tag of a list

T? : (b : Bool) → Dec (T b)
T? true = yes tt
T? false = no (λ h. h)

module _ (P : Tag → Type 0) (P? : (a : Tag) → Dec (P a)) where
  -- a has the property, and none that has it in the list is ahead of a
  abbrev Chosen : List Tag → Tag → Type 0
  Chosen l a = P a × ((b : Tag) → Memᴰ b l → P b → ¬ T (before b a))

  -- the head of the list does not count
  without : {a c : Tag} {l : List Tag} → ¬ (P a × T (before a c)) → Chosen l c → Chosen (a ∷ l) c
  without {a} {c} {l} n h = (h.0, λ b i p x. go (Memᴰ.cases_cons i) p x)
    where
      go : {b : Tag} → (b ≡ a) ⊎ Memᴰ b l → P b → ¬ T (before b c)
      go (inl e) p x = n (subst P e p, subst (λ (d : Tag). T (before d c)) e x)
      go {b} (inr i) p x = h.1 b i p x

  -- the head of the list is the least
  ahead : {a : Tag} {l : List Tag} → P a → ((b : Tag) → Memᴰ b l → P b → ¬ T (before b a)) → Chosen (a ∷ l) a
  ahead {a} {l} p h = (p, λ b i q x. go (Memᴰ.cases_cons i) q x)
    where
      go : {b : Tag} → (b ≡ a) ⊎ Memᴰ b l → P b → ¬ T (before b a)
      go (inl e) q x = irreflexive a (subst (λ (d : Tag). T (before d a)) e x)
      go {b} (inr i) q x = h b i q x

  choose : (l : List Tag) → ((a : Tag) × Chosen l a) ⊎ ((b : Tag) → Memᴰ b l → ¬ P b)
  choose [] = inr (λ b i. elim i [ ])
  choose (a ∷ l) = go (P? a) (choose l)
    where
      smaller : P a → (c : Tag) → Chosen l c → Dec (T (before a c)) → (d : Tag) × Chosen (a ∷ l) d
      smaller p c h (yes x) = (a, ahead p (λ b i q y. h.1 b i q (ahead_trans b a c y x)))
      smaller p c h (no n) = (c, without (λ x. n x.1) h)

      nowhere : ¬ P a → ((b : Tag) → Memᴰ b l → ¬ P b) → {b : Tag} → (b ≡ a) ⊎ Memᴰ b l → ¬ P b
      nowhere n h (inl e) p = n (subst P e p)
      nowhere n h {b} (inr i) p = h b i p

      go : Dec (P a) → ((c : Tag) × Chosen l c) ⊎ ((b : Tag) → Memᴰ b l → ¬ P b)
          → ((d : Tag) × Chosen (a ∷ l) d) ⊎ ((b : Tag) → Memᴰ b (a ∷ l) → ¬ P b)
      go (yes p) (inl (c, h)) = inl (smaller p c h (T? (before a c)))
      go (yes p) (inr h) = inl (a, ahead p (λ b i q x. h b i q))
      go (no n) (inl (c, h)) = inl (c, without (λ x. n x.0) h)
      go (no n) (inr h) = inr (λ b i. nowhere n h (Memᴰ.cases_cons i))

  -- of a property that only tags of the list have, there is a least tag or none
  pub least_or_none : (l : List Tag) → ((a : Tag) → P a → Memᴰ a l) → ((a : Tag) × Least P a) ⊎ ((a : Tag) → ¬ P a)
  least_or_none l inside = go (choose l)
    where
      go : ((a : Tag) × Chosen l a) ⊎ ((b : Tag) → Memᴰ b l → ¬ P b) → ((a : Tag) × Least P a) ⊎ ((a : Tag) → ¬ P a)
      go (inl (a, h)) = inl (a, (h.0, λ b x p. h.1 b (inside b p) p x))
      go (inr h) = inr (λ a p. h a (inside a p) p)
