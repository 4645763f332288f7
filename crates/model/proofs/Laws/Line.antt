-- The line of the wiring walk grows by no more tags than there are places left, so that its turns suffice. Assumes nothing.
use mathlib.Core.Path.{◌≡◌, refl, sym, ◌∙◌, ap, ap₂, subst}
use mathlib.Core.Bool.{Bool, true, false, cond, ◌||◌}
use mathlib.Core.List.{List, [], ◌∷◌, ◌++◌}
use mathlib.Core.Option.{Option, none, some, get_or}
use Prim.Native.Nat.{ℕ, zero, suc, ◌+◌, ◌≤◌}
use native.Mathlib.Omega.{arith}
use lib.Dec.{T}
use lib.ListN.{length, length-append}
use Rattle.tag.specs.Tags.{Tag, is}
use Rattle.tag.proofs.Laws.Is.{is_refl, is_true}
use Rattle.model.specs.Table.{any, Table, find}
use Rattle.model.specs.Model.{Place, Model, list, inputs}
use Rattle.model.specs.Walk.{gap, tags, fresh, Walked, met, gapped, walk, total}
use Rattle.model.proofs.Laws.Bool.{true→T}
use Rattle.model.proofs.Laws.Valid.{none_some}

abbrev pend : Bool → ℕ
pend true = 0
pend false = 1

-- a place counts while its tag has not been in the line
left : List Tag → List Place → ℕ
left seen [] = 0
left seen (none ∷ l) = left seen l
left seen (some t ∷ l) = pend (any (is t) seen) + left seen l

pub lefts : List Tag → Table (List Place) → ℕ
lefts seen [] = 0
lefts seen (e ∷ r) = left seen e.1 + lefts seen r

-- one more tag seen
step_le : (t s : Tag) (seen : List Tag) → pend (any (is t) (s ∷ seen)) ≤ pend (any (is t) seen)
step_le t s seen = go (is t s) (any (is t) seen)
  where
    go : (a b : Bool) → pend (a || b) ≤ pend b
    go true true = omega arith
    go true false = omega arith
    go false true = omega arith
    go false false = omega arith

left_le : (s : Tag) (seen : List Tag) (l : List Place) → left (s ∷ seen) l ≤ left seen l
unfolding left
left_le s seen [] = omega arith
left_le s seen (none ∷ l) = left_le s seen l
left_le s seen (some t ∷ l) = omega (arith, step_le t s seen, left_le s seen l)

lefts_le : (s : Tag) (seen : List Tag) (r : Table (List Place)) → lefts (s ∷ seen) r ≤ lefts seen r
unfolding lefts
lefts_le s seen [] = omega arith
lefts_le s seen (e ∷ r) = omega (arith, left_le s seen e.1, lefts_le s seen r)

-- s stands in the list, and had not been seen
left_lt : (s : Tag) (seen : List Tag) (l : List Place) → T (any (is s) (tags l)) → any (is s) seen ≡ false → suc (left (s ∷ seen) l) ≤ left seen l
unfolding left tags
left_lt s seen [] h n = absurd h
left_lt s seen (none ∷ l) h n = left_lt s seen l h n
left_lt s seen (some t ∷ l) h n = go (left_lt s seen l) (is s t) refl h
  where
    go : (T (any (is s) (tags l)) → any (is s) seen ≡ false → suc (left (s ∷ seen) l) ≤ left seen l) → (b : Bool) → is s t ≡ b → T (b || any (is s) (tags l))
        → suc (pend (any (is t) (s ∷ seen)) + left (s ∷ seen) l) ≤ pend (any (is t) seen) + left seen l
    go ih true q h =
        let e = is_true s t q in
        let a : pend (any (is t) (s ∷ seen)) ≡ 0 = ap (λ (x : Tag). pend (any (is x) (s ∷ seen))) (sym e) ∙ ap (λ (b : Bool). pend (b || any (is s) seen)) (is_refl s) in
        let c : pend (any (is t) seen) ≡ 1 = ap (λ (x : Tag). pend (any (is x) seen)) (sym e) ∙ ap (λ (b : Bool). pend b) n in
        omega (arith, left_le s seen l)
    go ih false q h = omega (arith, ih h n, step_le t s seen)

lefts_lt : (s : Tag) (seen : List Tag) (r : Table (List Place)) (t : Tag) (l : List Place) → find t r ≡ some l → T (any (is s) (tags l)) → any (is s) seen ≡ false
    → suc (lefts (s ∷ seen) r) ≤ lefts seen r
unfolding lefts find
lefts_lt s seen [] t l f h n = none_some f
lefts_lt s seen (e ∷ r) t l f h n = go (lefts_lt s seen r t l) (is e.0 t) f
  where
    go : (find t r ≡ some l → T (any (is s) (tags l)) → any (is s) seen ≡ false → suc (lefts (s ∷ seen) r) ≤ lefts seen r) → (b : Bool)
        → cond b (some e.1) (find t r) ≡ some l → suc (left (s ∷ seen) e.1 + lefts (s ∷ seen) r) ≤ left seen e.1 + lefts seen r
    go ih true f = let k : e.1 ≡ l = cc in
        omega (arith, left_lt s seen e.1 (subst (λ (x : List Place). T (any (is s) (tags x))) (sym k) h) n, lefts_le s seen r)
    go ih false f = omega (arith, ih f h n, left_le s seen e.1)

-- the order in which tags were seen does not matter
any_mid : (p : Tag → Bool) (f : List Tag) (s : Tag) (g : List Tag) → any p (f ++ s ∷ g) ≡ any p (s ∷ (f ++ g))
any_mid p [] s g = refl
any_mid p (x ∷ f) s g = ap (λ (b : Bool). p x || b) (any_mid p f s g) ∙ turn (p x) (p s) (any p (f ++ g))
  where
    turn : (a b c : Bool) → a || (b || c) ≡ b || (a || c)
    turn true true c = refl
    turn true false c = refl
    turn false b c = refl

left-same : (a b : List Tag) → ((t : Tag) → any (is t) a ≡ any (is t) b) → (l : List Place) → left a l ≡ left b l
unfolding left
left-same a b h [] = refl
left-same a b h (none ∷ l) = left-same a b h l
left-same a b h (some t ∷ l) = ap₂ (λ (x y : ℕ). x + y) (ap pend (h t)) (left-same a b h l)

lefts_same : (a b : List Tag) → ((t : Tag) → any (is t) a ≡ any (is t) b) → (r : Table (List Place)) → lefts a r ≡ lefts b r
unfolding lefts
lefts_same a b h [] = refl
lefts_same a b h (e ∷ r) = ap₂ (λ (x y : ℕ). x + y) (left-same a b h e.1) (lefts_same a b h r)

or_T₂ : (a b : Bool) → T b → T (a || b)
or_T₂ true b h = tt
or_T₂ false b h = h

or_T₁ : (a b : Bool) → a ≡ true → T (a || b)
or_T₁ true b h = tt
or_T₁ false b h = absurd (true→T false h)

-- the tags that join were places left
fresh_le : (r : Table (List Place)) (t : Tag) (l : List Place) → find t r ≡ some l → (ts seen : List Tag) → ((s : Tag) → T (any (is s) ts) → T (any (is s) (tags l)))
    → lefts (fresh seen ts ++ seen) r + length (fresh seen ts) ≤ lefts seen r
unfolding fresh
fresh_le r t l f [] seen h = omega arith
fresh_le r t l f (s ∷ ts) seen h =
    go (fresh_le r t l f ts seen (λ x k. h x (or_T₂ (is x s) (any (is x) ts) k))) (fresh_le r t l f ts (s ∷ seen) (λ x k. h x (or_T₂ (is x s) (any (is x) ts) k)))
    (any (is s) seen) refl
  where
    go : lefts (fresh seen ts ++ seen) r + length (fresh seen ts) ≤ lefts seen r
        → lefts (fresh (s ∷ seen) ts ++ s ∷ seen) r + length (fresh (s ∷ seen) ts) ≤ lefts (s ∷ seen) r
        → (b : Bool) → any (is s) seen ≡ b
        → lefts (cond b (fresh seen ts) (s ∷ fresh (s ∷ seen) ts) ++ seen) r + length (cond b (fresh seen ts) (s ∷ fresh (s ∷ seen) ts)) ≤ lefts seen r
    go i j true q = i
    go i j false q =
        omega (
          arith,
          j,
          lefts_lt s seen r t l f (h s (or_T₁ (is s s) (any (is s) ts) (is_refl s))) q,
          lefts_same (fresh (s ∷ seen) ts ++ s ∷ seen) (s ∷ (fresh (s ∷ seen) ts ++ seen)) (λ x. any_mid (is x) (fresh (s ∷ seen) ts) s seen) r,
        )

pub fresh-inputs : (m : Model) (t : Tag) (seen : List Tag)
    → lefts (fresh seen (tags (inputs m t)) ++ seen) m.lists + length (fresh seen (tags (inputs m t))) ≤ lefts seen m.lists
unfolding fresh tags
fresh-inputs m t seen = go (list m t) refl
  where
    go : (o : Option (List Place)) → list m t ≡ o
        → lefts (fresh seen (tags (get_or o [])) ++ seen) m.lists + length (fresh seen (tags (get_or o []))) ≤ lefts seen m.lists
    go none e = omega arith
    go (some l) e = fresh_le m.lists t l e (tags l) seen (λ s k. k)

-- as many turns as there are places left and tags waiting are enough: one more changes nothing
pub enough : (k : ℕ) (m : Model) (target : Tag) (seen line : List Tag) → lefts seen m.lists + length line ≤ k → walk k m target seen line ≡ walk (suc k) m target seen line
unfolding walk
enough zero m target seen [] h = refl
enough zero m target seen (t ∷ line) h = absurd (omega arith)
enough (suc k) m target seen [] h = refl
enough (suc k) m target seen (t ∷ line) h =
    ap (λ (w : Walked). elim (is t target) as (λ _. Walked) [ true ↦ met | false ↦ elim (gap 0 (inputs m t)) as (λ _. Walked) [ some i ↦ gapped t i | none ↦ w ] ])
    (enough k m target (fresh seen (tags (inputs m t)) ++ seen) (line ++ fresh seen (tags (inputs m t)))
    (omega (arith, fresh-inputs m t seen, length-append line (fresh seen (tags (inputs m t))))))

left-length : (seen : List Tag) (l : List Place) → left seen l ≤ length l
unfolding left
left-length seen [] = omega arith
left-length seen (none ∷ l) = omega (arith, left-length seen l)
left-length seen (some t ∷ l) = go (any (is t) seen) (left-length seen l)
  where
    go : (b : Bool) → left seen l ≤ length l → pend b + left seen l ≤ suc (length l)
    go true h = omega arith
    go false h = omega arith

-- never more than all places
pub lefts_total : (seen : List Tag) (r : Table (List Place)) → lefts seen r ≤ total r
unfolding lefts total
lefts_total seen [] = omega arith
lefts_total seen (e ∷ r) = omega (arith, left-length seen e.1, lefts_total seen r)
