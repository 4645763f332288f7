-- The tags that join the line of the wiring walk: each once, and none that has been in it. Assumes nothing.
use mathlib.Core.Path.{◌≡◌, refl, sym, ◌∙◌, ap, subst}
use mathlib.Core.Logic.{◌⊎◌, inl, inr, ⊎_elim}
use mathlib.Core.Bool.{Bool, true, false, cond, ◌||◌}
use mathlib.Core.List.Memᴰ
use mathlib.Core.List.{List, [], ◌∷◌, ◌++◌, Memᴰ}
use Rattle.tag.specs.Tags.{Tag, is}
use Rattle.tag.proofs.Laws.Is.{is_refl, is_true}
use Rattle.model.specs.Table.{any}
use Rattle.model.specs.Walk.{fresh}
use Rattle.model.proofs.Laws.Bool.{true→T}
use Rattle.model.proofs.Laws.Once.{Once, no_tag, one_more}

-- ---- a test of membership

pub any_yes : (a : Tag) (l : List Tag) → any (is a) l ≡ true → Memᴰ a l
any_yes a [] e = absurd (true→T false e)
any_yes a (b ∷ l) e = go (any_yes a l) (is a b) refl e
  where
    go : (any (is a) l ≡ true → Memᴰ a l) → (x : Bool) → is a b ≡ x → x || any (is a) l ≡ true → Memᴰ a (b ∷ l)
    go ih true q e = Memᴰ.head (is_true a b q)
    go ih false q e = Memᴰ.tail (ih e)

pub any_no : (a : Tag) (l : List Tag) → any (is a) l ≡ false → ¬ Memᴰ a l
any_no a [] e i = elim i [ ]
any_no a (b ∷ l) e i = go (any_no a l) (is a b) refl e i
  where
    go : (any (is a) l ≡ false → ¬ Memᴰ a l) → (x : Bool) → is a b ≡ x → x || any (is a) l ≡ false → Memᴰ a (b ∷ l) → ⊥
    go ih true q e i = true→T false (sym e)
    go ih false q e (Memᴰ.head p) = true→T false (sym q ∙ (ap (is a) (sym p) ∙ is_refl a))
    go ih false q e (Memᴰ.tail i) = ih e i

-- ---- the tags that join

abbrev Joins : List Tag → List Tag → Tag → Bool → List Tag
Joins seen ts t b = cond b (fresh seen ts) (t ∷ fresh (t ∷ seen) ts)

pub fresh_new : {a : Tag} (seen ts : List Tag) → Memᴰ a (fresh seen ts) → ¬ Memᴰ a seen
unfolding fresh
fresh_new seen [] i = elim i [ ]
fresh_new {a} seen (t ∷ ts) i = go (fresh_new seen ts) (fresh_new (t ∷ seen) ts) (any (is t) seen) refl i
  where
    go : (Memᴰ a (fresh seen ts) → ¬ Memᴰ a seen) → (Memᴰ a (fresh (t ∷ seen) ts) → ¬ Memᴰ a (t ∷ seen))
        → (b : Bool) → any (is t) seen ≡ b → Memᴰ a (Joins seen ts t b) → ¬ Memᴰ a seen
    go ih jh true q i = ih i
    go ih jh false q (Memᴰ.head e) = λ j. any_no t seen q (subst (λ (x : Tag). Memᴰ x seen) e j)
    go ih jh false q (Memᴰ.tail i) = λ j. jh i (Memᴰ.tail j)

pub fresh_of : {a : Tag} (seen ts : List Tag) → Memᴰ a (fresh seen ts) → Memᴰ a ts
unfolding fresh
fresh_of seen [] i = i
fresh_of {a} seen (t ∷ ts) i = go (fresh_of seen ts) (fresh_of (t ∷ seen) ts) (any (is t) seen) i
  where
    go : (Memᴰ a (fresh seen ts) → Memᴰ a ts) → (Memᴰ a (fresh (t ∷ seen) ts) → Memᴰ a ts)
        → (b : Bool) → Memᴰ a (Joins seen ts t b) → Memᴰ a (t ∷ ts)
    go ih jh true i = Memᴰ.tail (ih i)
    go ih jh false (Memᴰ.head e) = Memᴰ.head e
    go ih jh false (Memᴰ.tail i) = Memᴰ.tail (jh i)

pub fresh-once : (seen ts : List Tag) → Once (fresh seen ts)
unfolding fresh
fresh-once seen [] = no_tag
fresh-once seen (t ∷ ts) = go (fresh-once seen ts) (fresh-once (t ∷ seen) ts) (any (is t) seen)
  where
    go : Once (fresh seen ts) → Once (fresh (t ∷ seen) ts) → (b : Bool) → Once (Joins seen ts t b)
    go o p true = o
    go o p false = one_more (λ i. fresh_new (t ∷ seen) ts i (Memᴰ.head refl)) p

-- each of the tags has been in the line, or joins it
pub fresh-all : {a : Tag} (seen ts : List Tag) → Memᴰ a ts → Memᴰ a seen ⊎ Memᴰ a (fresh seen ts)
unfolding fresh
fresh-all seen [] i = elim i [ ]
fresh-all {a} seen (t ∷ ts) i = go (fresh-all seen ts) (fresh-all (t ∷ seen) ts) (any (is t) seen) refl i
  where
    go : (Memᴰ a ts → Memᴰ a seen ⊎ Memᴰ a (fresh seen ts)) → (Memᴰ a ts → Memᴰ a (t ∷ seen) ⊎ Memᴰ a (fresh (t ∷ seen) ts))
        → (b : Bool) → any (is t) seen ≡ b → Memᴰ a (t ∷ ts) → Memᴰ a seen ⊎ Memᴰ a (Joins seen ts t b)
    go ih jh true q (Memᴰ.head e) = inl (subst (λ (x : Tag). Memᴰ x seen) (sym e) (any_yes t seen q))
    go ih jh true q (Memᴰ.tail i) = ih i
    go ih jh false q (Memᴰ.head e) = inr (Memᴰ.head e)
    go ih jh false q (Memᴰ.tail i) = turn (jh i)
      where
        turn : Memᴰ a (t ∷ seen) ⊎ Memᴰ a (fresh (t ∷ seen) ts) → Memᴰ a seen ⊎ Memᴰ a (t ∷ fresh (t ∷ seen) ts)
        turn (inl (Memᴰ.head e)) = inr (Memᴰ.head e)
        turn (inl (Memᴰ.tail j)) = inl j
        turn (inr j) = inr (Memᴰ.tail j)

-- two lists without repetition that share no tag
pub once-both : {k l : List Tag} → Once k → Once l → ((a : Tag) → Memᴰ a k → ¬ Memᴰ a l) → Once (k ++ l)
once-both no_tag o h = o
once-both {l = l} (one_more {a = a} {l = k} n p) o h =
    one_more (λ i. ⊎_elim n (h a (Memᴰ.head refl)) (Memᴰ.append_cases k i)) (once-both p o (λ b i. h b (Memᴰ.tail i)))
