-- Any wires: a closed set holds the reach, stuck means cyclic, what is laid has no cycle, and the target is last. Assumes nothing.
use Prim.Native.Nat.{ℕ, zero, suc, ◌≤◌}
use native.Mathlib.Omega.{arith}
use mathlib.Core.Path.{◌≡◌, refl, sym, ap, subst, ◌∙◌}
use mathlib.Core.Logic.{◌⊎◌, inl, inr, ⊎_elim}
use mathlib.Core.List.Memᴰ
use mathlib.Core.List.{List, [], ◌∷◌, ◌++◌, cons≢nil, append_assoc, append-nil}
use lib.ListN.{length, length-append}
use Rattle.nodes.specs.Nodes.{◌∈◌, Reaches, itself, wired, Circular, Laid, IsOrder}

-- ---- members: taking one out of a list

record Without {N : Type 0} (x : N) (l : List N) : Type 0 where
  pub rest : List N
  pub shorter : length l ≡ suc (length rest)
  pub others : (y : N) → y ∈ l → (y ≡ x) ⊎ (y ∈ rest)

without : {N : Type 0} {x : N} {l : List N} → x ∈ l → Without x l
without (Memᴰ.head {x = z} {xs = xs} e) = record { rest = xs; shorter = refl; others = λ y m. ⊎_elim (λ f. inl (f ∙ sym e)) (λ m'. inr m') (Memᴰ.cases_cons m) }
without {x = x} (Memᴰ.tail {x = z} {xs = xs} m) = more (without m)
  where
    more : Without x xs → Without x (z ∷ xs)
    more w = record {
      rest = z ∷ w.rest;
      shorter = ap suc w.shorter;
      others = λ y m'. ⊎_elim (λ f. inr (Memᴰ.head f)) (λ m''. ⊎_elim (λ f. inl f) (λ k. inr (Memᴰ.tail k)) (w.others y m'')) (Memᴰ.cases_cons m');
    }

module _ {N : Type 0} (ins : N → List N) where
  -- a set that holds t and is closed under inputs holds the whole reach
  pub reach_in : (P : N → Type 0) {t : N} → P t → ((a b : N) → P a → b ∈ ins a → P b) → (a : N) → Reaches ins t a → P a
  reach_in P p close a itself = p
  reach_in P p close b (wired {a} r m) = close a b (reach_in P p close a r) m

  -- Where each unplaced reached member has an unplaced input, an unplaced reached member shows a cycle.
  -- `left` holds the unplaced reached ones that do not reach a; n bounds its length.
  module _ (t : N) (P : N → Type 0) (stuck : (a : N) → Reaches ins t a → ¬ P a → (b : N) × (b ∈ ins a) × (¬ P b)) where
    abbrev Cover : List N → N → Type 0
    Cover left a = (x : N) → Reaches ins t x → ¬ P x → Reaches ins x a ⊎ (x ∈ left)

    -- one step down an unplaced input b of a: b reaches a, which closes a cycle, or b is in `left` and is taken out
    turn : (left : List N) (a : N) → Reaches ins t a → ¬ P a → Cover left a
        → ((left' : List N) → length left ≡ suc (length left') → (b : N) → Reaches ins t b → ¬ P b → Cover left' b → Circular ins t) → Circular ins t
    turn left a ra na cover again = pick (stuck a ra na)
      where
        pick : (b : N) × (b ∈ ins a) × (¬ P b) → Circular ins t
        pick (b, m, nb) = ⊎_elim closes opens (cover b (wired ra m) nb)
          where
            closes : Reaches ins b a → Circular ins t
            closes r = record { tag = b; user = a; reached = wired ra m; on = r; back = m }

            opens : b ∈ left → Circular ins t
            opens k = let w = without k in again w.rest w.shorter b (wired ra m) nb (λ x rx nx.
                ⊎_elim (λ r. inl (wired r m)) (λ q. ⊎_elim (λ e. inl (subst (λ (z : N). Reaches ins x z) e itself)) (λ q'. inr q') (w.others x q)) (cover x rx nx))

    walk : (n : ℕ) (left : List N) → length left ≤ n → (a : N) → Reaches ins t a → ¬ P a → Cover left a → Circular ins t
    walk zero left h a ra na cover = turn left a ra na cover (λ l e b rb nb c. absurd (let z : ⊥ = omega arith in z))
    walk (suc n) left h a ra na cover = turn left a ra na cover (λ l e b rb nb c. walk n l (omega arith) b rb nb c)

    pub stuck_cyclic : (rs : List N) → ((x : N) → Reaches ins t x → ¬ P x → x ∈ rs) → (a : N) → Reaches ins t a → ¬ P a → Circular ins t
    stuck_cyclic rs all a ra na = walk (length rs) rs (omega arith) a ra na (λ x rx nx. inr (all x rx nx))

  -- ---- all chains of wires from a end
  data Safe : N → Type 0 where
    safe : (a : N) → ((b : N) → b ∈ ins a → Safe b) → Safe a

  -- the first wire of a loop
  pub first-wire : {a b c : N} → Reaches ins a b → c ∈ ins b → (d : N) × (d ∈ ins a) × Reaches ins d c
  first-wire {c} itself m = (c, m, itself)
  first-wire (wired r k) m = let (d, j, s) = first-wire r k in (d, j, wired s m)

  safe_no_loop : {a u : N} → Safe a → Reaches ins a u → ¬ (a ∈ ins u)
  safe_no_loop (safe a f) r m = let (d, j, s) = first-wire r m in safe_no_loop (f d j) s j

  safe_down : {a b : N} → Safe a → b ∈ ins a → Safe b
  safe_down {b} (safe a f) m = f b m

  safe_acyclic : {t : N} → Safe t → ¬ Circular ins t
  safe_acyclic {t} s c = safe_no_loop (reach_in Safe s (λ a b p m. safe_down p m) c.tag c.reached) c.on c.back

-- ---- lists laid one at a time

-- a cut of a list with one more at its end: the cut is in front of the last, or it is a cut of the list
pub snoc_cut : {N : Type 0} (xs : List N) (z : N) (ahead : List N) (a : N) (rest : List N) → xs ++ (z ∷ []) ≡ ahead ++ (a ∷ rest)
    → ((ahead ≡ xs) × (a ≡ z)) ⊎ ((r : List N) × (xs ≡ ahead ++ (a ∷ r)))
snoc_cut [] z [] a rest e = inl (refl, cc)
snoc_cut [] z (y ∷ []) a rest e = let q : (a ∷ rest) ≡ [] = cc in absurd (cons≢nil q)
snoc_cut [] z (y ∷ (y' ∷ ahead)) a rest e = let q : (y' ∷ (ahead ++ (a ∷ rest))) ≡ [] = cc in absurd (cons≢nil q)
snoc_cut (x ∷ xs) z [] a rest e = inr (xs, cc)
snoc_cut (x ∷ xs) z (y ∷ ahead) a rest e = ⊎_elim (λ q. let f : ahead ≡ xs = q.0 in inl (cc, q.1)) (λ q. let f : xs ≡ ahead ++ (a ∷ q.0) = q.1 in inr (q.0, cc)) (snoc_cut xs z ahead a rest (cc))

pub no_cut : {N : Type 0} (ahead : List N) (a : N) (rest : List N) → ◌≡◌ {A = List N} [] (ahead ++ (a ∷ rest)) → ⊥
no_cut [] a rest e = cons≢nil (sym e)
no_cut (x ∷ ahead) a rest e = cons≢nil (sym e)

cut_of : {N : Type 0} {a : N} (xs : List N) → a ∈ xs → (ahead : List N) × (rest : List N) × (xs ≡ ahead ++ (a ∷ rest))
cut_of xs (Memᴰ.head {xs = ys} e) = ([], ys, cc)
cut_of xs (Memᴰ.tail {x = x} {xs = ys} m) = let (ahead, rest, e) = cut_of ys m in (x ∷ ahead, rest, cc)

module _ {N : Type 0} (ins : N → List N) where
  pub laid_none : Laid ins []
  laid_none = record { once = λ ahead a rest e. absurd (no_cut ahead a rest e); inputs = λ ahead a rest e. absurd (no_cut ahead a rest e) }

  -- placing one more, whose inputs are all placed
  pub laid_more : {xs : List N} → Laid ins xs → (z : N) → ¬ (z ∈ xs) → ((b : N) → b ∈ ins z → b ∈ xs) → Laid ins (xs ++ (z ∷ []))
  laid_more {xs} l z new ready = record {
    once = λ ahead a rest e. ⊎_elim (λ q m. new (subst (λ (w : N). w ∈ xs) q.1 (subst (λ (w : List N). a ∈ w) q.0 m))) (λ q. l.once ahead a q.0 q.1) (snoc_cut xs z ahead a rest e);
    inputs = λ ahead a rest e b m. ⊎_elim
        (λ q. subst (λ (w : List N). b ∈ w) (sym q.0) (ready b (subst (λ (w : N). b ∈ ins w) q.1 m)))
        (λ q. l.inputs ahead a q.0 q.1 b m)
        (snoc_cut xs z ahead a rest e);
  }

  -- what holds of nothing and is kept by each placing holds of every laid list
  pub by_placing : (Q : List N → Type 0) → Q [] → ((xs : List N) (z : N) → Q xs → ¬ (z ∈ xs) → ((b : N) → b ∈ ins z → b ∈ xs) → Q (xs ++ (z ∷ []))) → (xs : List N) → Laid ins xs → Q xs
  by_placing Q q0 step xs l = go [] xs refl q0
    where
      go : (ahead rest : List N) → xs ≡ ahead ++ rest → Q ahead → Q xs
      go ahead [] e q = subst Q (sym (e ∙ append-nil ahead)) q
      go ahead (a ∷ rest) e q = go (ahead ++ (a ∷ [])) rest (e ∙ sym (append_assoc ahead (a ∷ []) rest)) (step ahead a q (l.once ahead a rest e) (l.inputs ahead a rest e))

  laid-closed : {xs : List N} → Laid ins xs → (a b : N) → a ∈ xs → b ∈ ins a → b ∈ xs
  laid-closed {xs} l a b m k = let (ahead, rest, e) = cut_of xs m in subst (λ (w : List N). b ∈ w) (sym e) (Memᴰ.append_left (a ∷ rest) (l.inputs ahead a rest e b k))

  laid_safe : (xs : List N) → Laid ins xs → (a : N) → a ∈ xs → Safe ins a
  laid_safe = by_placing (λ xs. (a : N) → a ∈ xs → Safe ins a) (λ a m. absurd (Memᴰ.not-nil m)) (λ xs z q new ready a m.
      ⊎_elim (q a) (λ k. subst (λ (w : N). Safe ins w) (sym (Memᴰ.eq_of_singleton k)) (safe z (λ b j. q b (ready b j)))) (Memᴰ.append_cases xs m))

  -- a laid list within rs is no longer than rs
  pub laid-length : (xs : List N) → Laid ins xs → (rs : List N) → ((a : N) → a ∈ xs → a ∈ rs) → length xs ≤ length rs
  laid-length = by_placing (λ xs. (rs : List N) → ((a : N) → a ∈ xs → a ∈ rs) → length xs ≤ length rs) (λ rs h. omega arith) (λ xs z q new ready rs h.
      let w = without (h z (Memᴰ.append_right xs (Memᴰ.head refl))) in
      let k : length xs ≤ length w.rest = q w.rest (λ a m. ⊎_elim (λ e. absurd (new (subst (λ (v : N). v ∈ xs) e m))) (λ j. j) (w.others a (h a (Memᴰ.append_left (z ∷ []) m)))) in
      omega (arith, length-append xs (z ∷ []), w.shorter))

  -- in a laid list of what t reaches that holds t, t is last
  laid-last : (t : N) (xs : List N) → Laid ins xs → ((a : N) → a ∈ xs → Reaches ins t a) → t ∈ xs → (ahead : List N) × (xs ≡ ahead ++ (t ∷ []))
  laid-last t xs l = (by_placing Q ((λ a b m k. absurd (Memᴰ.not-nil m)), (λ only m. absurd (Memᴰ.not-nil m))) step xs l).1
    where
      Q : List N → Type 0
      Q xs = ((a b : N) → a ∈ xs → b ∈ ins a → b ∈ xs) × (((a : N) → a ∈ xs → Reaches ins t a) → t ∈ xs → (ahead : List N) × (xs ≡ ahead ++ (t ∷ [])))

      step : (xs : List N) (z : N) → Q xs → ¬ (z ∈ xs) → ((b : N) → b ∈ ins z → b ∈ xs) → Q (xs ++ (z ∷ []))
      step xs z q new ready = (
        (λ a b m k. Memᴰ.append_left (z ∷ []) (⊎_elim (λ m'. q.0 a b m' k) (λ m'. ready b (subst (λ (w : N). b ∈ ins w) (Memᴰ.eq_of_singleton m') k)) (Memᴰ.append_cases xs m))),
        (λ only m. ⊎_elim
            (λ m'. absurd (new (reach_in ins (λ (w : N). w ∈ xs) m' q.0 z (only z (Memᴰ.append_right xs (Memᴰ.head refl))))))
            (λ m'. (xs, ap (λ (w : N). xs ++ (w ∷ [])) (sym (Memᴰ.eq_of_singleton m'))))
            (Memᴰ.append_cases xs m)),
      )

  pub laid-order : (t : N) (xs : List N) → Laid ins xs → ((a : N) → a ∈ xs → Reaches ins t a) → t ∈ xs → IsOrder ins t xs
  laid-order t xs l only m = record { laid = l; all = reach_in ins (λ (w : N). w ∈ xs) m (laid-closed l); only = only; last = laid-last t xs l only m }

  -- where there is an order there is no cycle
  pub order-acyclic : (t : N) (xs : List N) → IsOrder ins t xs → ¬ Circular ins t
  order-acyclic t xs o = safe_acyclic ins (laid_safe xs o.laid t (o.all t itself))
