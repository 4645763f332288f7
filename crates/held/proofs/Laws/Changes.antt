-- Tables changed in place. `Becomes w r`: the table r, at whatever positions, holds what w holds, and no tag twice. Assumes nothing.
use mathlib.Core.Path.{◌≡◌, refl, sym, ◌∙◌, ap, subst}
use mathlib.Core.Logic.{◌⊎◌, inl, inr, ◌≢◌}
use mathlib.Core.Bool.{Bool, true, false}
use mathlib.Core.List.{[], ◌∷◌, ◌++◌}
use mathlib.Core.Option.{Option, none, some, map}
use Prim.Native.Nat.{ℕ, zero, suc, ◌<◌}
use native.Mathlib.Nat.{not-suc-le-zero, le_of_suc-le-suc}
use native.Mathlib.Omega.{arith}
use lib.Dec.{T, eqb}
use lib.ListN.{take, length, get_or, set, length-set, length-take}
use lib.Seq.{get_or-set_same, get_or-set_other, get_or-take}
use borrow.Author.Tests.{eqb-true, eqb-false}
use Rattle.tag.specs.Tags.{Tag}
use Rattle.tag.proofs.Laws.Is.{same?}
use Rattle.model.specs.Table.{Table, find, cut, put, each, distinct, moved, move}
use Rattle.model.proofs.Laws.Table.{find-cut-same, find_cut_other, find-put-same, find_put_other, find-each}
use Rattle.model.proofs.Laws.Valid.{some_some, none_some, find_head, find-tail, distinct_head, distinct_tail, distinct_cons, each-distinct}

pub record Becomes {A : Type 0} (w r : Table A) : Type 0 where
  pub same : (t : Tag) → find t w ≡ find t r
  pub once : T (distinct r)

pub becomes_refl : {A : Type 0} {r : Table A} → T (distinct r) → Becomes r r
becomes_refl d = record { same = λ t. refl; once = d }

pub becomes_each : {A : Type 0} (f : A → A) {w r : Table A} → Becomes w r → Becomes (each f w) (each f r)
becomes_each f {w} {r} b = record {
  same = λ t. find-each f t w ∙ (ap (map f) (b.same t) ∙ sym (find-each f t r));
  once = each-distinct f r b.once;
}

find-nil : {A : Type 0} (t : Tag) → find {A = A} t [] ≡ none
unfolding find
find-nil t = refl

distinct_nil : (A : Type 0) → T (distinct {A = A} [])
unfolding distinct
distinct_nil A = tt

same_number : (i j : ℕ) → (i ≡ j) ⊎ (i ≢ j)
same_number i j = go (eqb i j) refl
  where
    go : (b : Bool) → eqb i j ≡ b → (i ≡ j) ⊎ (i ≢ j)
    go true e = inl (eqb-true i j e)
    go false e = inr (eqb-false i j e)

module _ {A : Type 0} (d : Tag × A) where
  -- the row at an index is found by its tag
  pub find_at : (r : Table A) (i : ℕ) → T (distinct r) → i < length r → find (get_or r i d).0 r ≡ some (get_or r i d).1
  find_at [] i h k = absurd (not-suc-le-zero k)
  find_at (e ∷ r) zero h k = find_head e r
  find_at (e ∷ r) (suc i) h k =
      let q = find_at r i (distinct_tail e r h) (le_of_suc-le-suc k) in
      find-tail e r (get_or r i d).0 (λ p. none_some (sym (distinct_head e r h) ∙ (ap (λ (x : Tag). find x r) (sym p) ∙ q))) ∙ q

  -- a tag that no row has is not found
  pub find_nowhere : (r : Table A) (t : Tag) → ((i : ℕ) → i < length r → (get_or r i d).0 ≢ t) → find t r ≡ none
  find_nowhere [] t h = find-nil t
  find_nowhere (e ∷ r) t h = find-tail e r t (λ p. h 0 (omega arith) (sym p)) ∙ find_nowhere r t (λ i k. h (suc i) (omega arith))

  -- what is found stands at an index
  pub find_where : (r : Table A) (t : Tag) {a : A} → find t r ≡ some a → (i : ℕ) × (i < length r) × ((get_or r i d).0 ≡ t) × ((get_or r i d).1 ≡ a)
  find_where [] t e = none_some (sym (find-nil t) ∙ e)
  find_where (x ∷ r) t {a} e = go (λ f. find_where r t f) (same? t x.0)
    where
      go : (find t r ≡ some a → (i : ℕ) × (i < length r) × ((get_or r i d).0 ≡ t) × ((get_or r i d).1 ≡ a)) → Dec (t ≡ x.0) → (i : ℕ) × (i < length (x ∷ r)) × ((get_or (x ∷ r) i d).0 ≡ t) × ((get_or (x ∷ r) i d).1 ≡ a)
      go ih (yes p) = (0, omega arith, sym p, some_some (sym (find_head x r) ∙ (ap (λ (y : Tag). find y (x ∷ r)) (sym p) ∙ e)))
      go ih (no n) = let w = ih (sym (find-tail x r t n) ∙ e) in (suc w.0, omega (arith, w.1), w.2, w.3)

  -- two rows of one tag are one row
  pub rows_apart : (r : Table A) (i j : ℕ) → T (distinct r) → i < length r → j < length r → (get_or r i d).0 ≡ (get_or r j d).0 → i ≡ j
  rows_apart [] i j h k l e = absurd (not-suc-le-zero k)
  rows_apart (x ∷ r) zero zero h k l e = refl
  rows_apart (x ∷ r) zero (suc j) h k l e = none_some (sym (distinct_head x r h) ∙ (ap (λ (y : Tag). find y r) e ∙ find_at r j (distinct_tail x r h) (le_of_suc-le-suc l)))
  rows_apart (x ∷ r) (suc i) zero h k l e = none_some (sym (distinct_head x r h) ∙ (ap (λ (y : Tag). find y r) (sym e) ∙ find_at r i (distinct_tail x r h) (le_of_suc-le-suc k)))
  rows_apart (x ∷ r) (suc i) (suc j) h k l e = ap suc (rows_apart r i j (distinct_tail x r h) (le_of_suc-le-suc k) (le_of_suc-le-suc l) e)

  pub apart_distinct : (r : Table A) → ((i j : ℕ) → i < length r → j < length r → (get_or r i d).0 ≡ (get_or r j d).0 → i ≡ j) → T (distinct r)
  apart_distinct [] h = distinct_nil A
  apart_distinct (x ∷ r) h =
      distinct_cons x r (find_nowhere r x.0 (λ i k p. let z = h (suc i) 0 (omega arith) (omega arith) p in absurd (let y : ⊥ = omega arith in y)))
      (apart_distinct r (λ i j k l e. let z = h (suc i) (suc j) (omega arith) (omega arith) e in omega arith))

  -- each row of r is what w holds, and what w holds is a row of r
  pub becomes_by : (w r : Table A) → T (distinct r)
      → ((i : ℕ) → i < length r → find (get_or r i d).0 w ≡ some (get_or r i d).1)
      → ((t : Tag) (a : A) → find t w ≡ some a → (i : ℕ) × (i < length r) × ((get_or r i d).0 ≡ t) × ((get_or r i d).1 ≡ a))
      → Becomes w r
  becomes_by w r h f g = record { same = λ t. go t (find t w) refl; once = h }
    where
      go : (t : Tag) (o : Option A) → find t w ≡ o → find t w ≡ find t r
      go t none e = e ∙ sym (find_nowhere r t (λ i k p. none_some (sym e ∙ (ap (λ (x : Tag). find x w) (sym p) ∙ f i k))))
      go t (some a) e =
          let q = g t a e in
          e ∙ sym (ap (λ (x : Tag). find x r) (sym q.2) ∙ (find_at r q.0 h q.1 ∙ ap some q.3))

  -- a row stored at i, under its own tag or under a free one
  module _ (r : Table A) (i : ℕ) (t u : Tag) (a : A) (h : T (distinct r)) (k : i < length r) (at : (get_or r i d).0 ≡ t) (free : (u ≡ t) ⊎ (find u r ≡ none)) where
    new : get_or (set r i (u, a)) i d ≡ (u, a)
    new = get_or-set_same r i (u, a) d k

    old : (j : ℕ) → j ≢ i → get_or (set r i (u, a)) j d ≡ get_or r j d
    old j n = get_or-set_other r i j (u, a) d n

    -- no other row has u
    alone : (j : ℕ) → j < length r → j ≢ i → (get_or r j d).0 ≢ u
    alone j l n p = go free
      where
        go : (u ≡ t) ⊎ (find u r ≡ none) → ⊥
        go (inl q) = n (rows_apart r j i h l k (p ∙ (q ∙ sym at)))
        go (inr q) = none_some (sym q ∙ (ap (λ (x : Tag). find x r) (sym p) ∙ find_at r j h l))

    -- nor t
    gone : (j : ℕ) → j < length r → j ≢ i → (get_or r j d).0 ≢ t
    gone j l n p = n (rows_apart r j i h l k (p ∙ sym at))

    pub stored : Becomes (put u a (cut t r)) (set r i (u, a))
    stored = becomes_by (put u a (cut t r)) (set r i (u, a)) (apart_distinct (set r i (u, a)) apart) in_w in_r
      where
        apart : (p q : ℕ) → p < length (set r i (u, a)) → q < length (set r i (u, a)) → (get_or (set r i (u, a)) p d).0 ≡ (get_or (set r i (u, a)) q d).0 → p ≡ q
        apart p q l m e = go (same_number p i) (same_number q i)
          where
            lp : p < length r
            lp = omega (arith, length-set r i (u, a))

            lq : q < length r
            lq = omega (arith, length-set r i (u, a))

            key : (j : ℕ) → j ≡ i → (get_or (set r i (u, a)) j d).0 ≡ u
            key j z = ap (λ (x : ℕ). (get_or (set r i (u, a)) x d).0) z ∙ ap (λ (x : Tag × A). x.0) new

            kept : (j : ℕ) → j ≢ i → (get_or (set r i (u, a)) j d).0 ≡ (get_or r j d).0
            kept j z = ap (λ (x : Tag × A). x.0) (old j z)

            go : (p ≡ i) ⊎ (p ≢ i) → (q ≡ i) ⊎ (q ≢ i) → p ≡ q
            go (inl x) (inl y) = x ∙ sym y
            go (inl x) (inr y) = absurd (alone q lq y (sym (kept q y) ∙ (sym e ∙ key p x)))
            go (inr x) (inl y) = absurd (alone p lp x (sym (kept p x) ∙ (e ∙ key q y)))
            go (inr x) (inr y) = rows_apart r p q h lp lq (sym (kept p x) ∙ (e ∙ kept q y))

        in_w : (j : ℕ) → j < length (set r i (u, a)) → find (get_or (set r i (u, a)) j d).0 (put u a (cut t r)) ≡ some (get_or (set r i (u, a)) j d).1
        in_w j l = go (same_number j i)
          where
            lj : j < length r
            lj = omega (arith, length-set r i (u, a))

            go : (j ≡ i) ⊎ (j ≢ i) → find (get_or (set r i (u, a)) j d).0 (put u a (cut t r)) ≡ some (get_or (set r i (u, a)) j d).1
            go (inl x) = subst (λ (y : Tag × A). find y.0 (put u a (cut t r)) ≡ some y.1) (sym (ap (λ (z : ℕ). get_or (set r i (u, a)) z d) x ∙ new)) (find-put-same u a (cut t r))
            go (inr x) = subst (λ (y : Tag × A). find y.0 (put u a (cut t r)) ≡ some y.1) (sym (old j x))
                (find_put_other (get_or r j d).0 u a (cut t r) (alone j lj x) ∙ (find_cut_other (get_or r j d).0 t r (gone j lj x) ∙ find_at r j h lj))

        in_r : (s : Tag) (b : A) → find s (put u a (cut t r)) ≡ some b → (j : ℕ) × (j < length (set r i (u, a))) × ((get_or (set r i (u, a)) j d).0 ≡ s) × ((get_or (set r i (u, a)) j d).1 ≡ b)
        in_r s b e = go (same? s u)
          where
            other : s ≢ u → Dec (s ≡ t) → (j : ℕ) × (j < length (set r i (u, a))) × ((get_or (set r i (u, a)) j d).0 ≡ s) × ((get_or (set r i (u, a)) j d).1 ≡ b)
            other n (yes p) = none_some (sym (find_put_other s u a (cut t r) n ∙ (ap (λ (x : Tag). find x (cut t r)) p ∙ find-cut-same t r)) ∙ e)
            other n (no m) =
                let w = find_where r s (sym (find_put_other s u a (cut t r) n ∙ find_cut_other s t r m) ∙ e) in
                let x : w.0 ≢ i = λ z. m (sym w.2 ∙ (ap (λ (y : ℕ). (get_or r y d).0) z ∙ at)) in
                (w.0, omega (arith, length-set r i (u, a), w.1), ap (λ (y : Tag × A). y.0) (old w.0 x) ∙ w.2, ap (λ (y : Tag × A). y.1) (old w.0 x) ∙ w.3)

            go : Dec (s ≡ u) → (j : ℕ) × (j < length (set r i (u, a))) × ((get_or (set r i (u, a)) j d).0 ≡ s) × ((get_or (set r i (u, a)) j d).1 ≡ b)
            go (yes p) = (
              i,
              omega (arith, length-set r i (u, a)),
              ap (λ (y : Tag × A). y.0) new ∙ sym p,
              ap (λ (y : Tag × A). y.1) new ∙ some_some (sym (find-put-same u a (cut t r)) ∙ (ap (λ (x : Tag). find x (put u a (cut t r))) (sym p) ∙ e)),
            )
            go (no n) = other n (same? s t)

  -- the row at i overwritten by the last one, and the last one taken off
  module _ (r : Table A) (i k : ℕ) (t : Tag) (h : T (distinct r)) (l : i < length r) (at : (get_or r i d).0 ≡ t) (size : length r ≡ suc k) where
    short : Table A
    short = take k (set r i (get_or r k d))

    short-length : length (take k (set r i (get_or r k d))) ≡ k
    short-length = omega (arith, length-take k (set r i (get_or r k d)), length-set r i (get_or r k d))

    -- where a row of the shorter table stood
    came : (j : ℕ) → j < k → (p : ℕ) × (p < length r) × (p ≢ i) × (get_or (take k (set r i (get_or r k d))) j d ≡ get_or r p d) × (((j ≡ i) × (p ≡ k)) ⊎ ((j ≢ i) × (p ≡ j)))
    came j m = go (same_number j i)
      where
        taken : get_or (take k (set r i (get_or r k d))) j d ≡ get_or (set r i (get_or r k d)) j d
        taken = get_or-take k (set r i (get_or r k d)) j d m

        go : (j ≡ i) ⊎ (j ≢ i) → (p : ℕ) × (p < length r) × (p ≢ i) × (get_or (take k (set r i (get_or r k d))) j d ≡ get_or r p d) × (((j ≡ i) × (p ≡ k)) ⊎ ((j ≢ i) × (p ≡ j)))
        go (inl x) = (k, omega arith, (λ z. let y : ⊥ = omega arith in y), taken ∙ (ap (λ (y : ℕ). get_or (set r i (get_or r k d)) y d) x ∙ get_or-set_same r i (get_or r k d) d l), inl (x, refl))
        go (inr x) = (j, omega arith, x, taken ∙ get_or-set_other r i j (get_or r k d) d x, inr (x, refl))

    pub removed : Becomes (cut t r) (take k (set r i (get_or r k d)))
    removed = becomes_by (cut t r) (take k (set r i (get_or r k d))) (apart_distinct (take k (set r i (get_or r k d))) apart) in_w in_r
      where
        apart : (p q : ℕ) → p < length (take k (set r i (get_or r k d))) → q < length (take k (set r i (get_or r k d)))
            → (get_or (take k (set r i (get_or r k d))) p d).0 ≡ (get_or (take k (set r i (get_or r k d))) q d).0 → p ≡ q
        apart p q lp lq e =
            let x = came p (omega (arith, short-length)) in
            let y = came q (omega (arith, short-length)) in
            let z = rows_apart r x.0 y.0 h x.1 y.1 (ap (λ (w : Tag × A). w.0) (sym x.3) ∙ (e ∙ ap (λ (w : Tag × A). w.0) y.3)) in
            go x.0 y.0 z x.4 y.4
          where
            go : (a b : ℕ) → a ≡ b → ((p ≡ i) × (a ≡ k)) ⊎ ((p ≢ i) × (a ≡ p)) → ((q ≡ i) × (b ≡ k)) ⊎ ((q ≢ i) × (b ≡ q)) → p ≡ q
            go a b z (inl x) (inl y) = x.0 ∙ sym y.0
            go a b z (inl x) (inr y) = absurd (let w : ⊥ = omega (arith, short-length, x.1, y.1) in w)
            go a b z (inr x) (inl y) = absurd (let w : ⊥ = omega (arith, short-length, x.1, y.1) in w)
            go a b z (inr x) (inr y) = sym x.1 ∙ (z ∙ y.1)

        in_w : (j : ℕ) → j < length (take k (set r i (get_or r k d))) → find (get_or (take k (set r i (get_or r k d))) j d).0 (cut t r) ≡ some (get_or (take k (set r i (get_or r k d))) j d).1
        in_w j lj =
            let x = came j (omega (arith, short-length)) in
            subst (λ (y : Tag × A). find y.0 (cut t r) ≡ some y.1) (sym x.3)
            (find_cut_other (get_or r x.0 d).0 t r (λ p. x.2 (rows_apart r x.0 i h x.1 l (p ∙ sym at))) ∙ find_at r x.0 h x.1)

        in_r : (s : Tag) (b : A) → find s (cut t r) ≡ some b → (j : ℕ) × (j < length (take k (set r i (get_or r k d)))) × ((get_or (take k (set r i (get_or r k d))) j d).0 ≡ s) × ((get_or (take k (set r i (get_or r k d))) j d).1 ≡ b)
        in_r s b e = go (same? s t)
          where
            go : Dec (s ≡ t) → (j : ℕ) × (j < length (take k (set r i (get_or r k d)))) × ((get_or (take k (set r i (get_or r k d))) j d).0 ≡ s) × ((get_or (take k (set r i (get_or r k d))) j d).1 ≡ b)
            go (yes p) = none_some (sym (find-cut-same t r) ∙ (ap (λ (x : Tag). find x (cut t r)) (sym p) ∙ e))
            go (no n) =
                let w = find_where r s (sym (find_cut_other s t r n) ∙ e) in
                let x : w.0 ≢ i = λ z. n (sym w.2 ∙ (ap (λ (y : ℕ). (get_or r y d).0) z ∙ at)) in
                here w.0 w.1 x w.2 w.3 (same_number w.0 k)
              where
                here : (p : ℕ) → p < length r → p ≢ i → (get_or r p d).0 ≡ s → (get_or r p d).1 ≡ b → (p ≡ k) ⊎ (p ≢ k)
                    → (j : ℕ) × (j < length (take k (set r i (get_or r k d)))) × ((get_or (take k (set r i (get_or r k d))) j d).0 ≡ s) × ((get_or (take k (set r i (get_or r k d))) j d).1 ≡ b)
                here p lp x e0 e1 (inl z) =
                    let y : get_or (take k (set r i (get_or r k d))) i d ≡ get_or r p d =
                    get_or-take k (set r i (get_or r k d)) i d (omega (arith, x, z)) ∙ (get_or-set_same r i (get_or r k d) d l ∙ ap (λ (v : ℕ). get_or r v d) (sym z)) in
                    (i, omega (arith, short-length, x, z), ap (λ (v : Tag × A). v.0) y ∙ e0, ap (λ (v : Tag × A). v.1) y ∙ e1)
                here p lp x e0 e1 (inr z) =
                    let y : get_or (take k (set r i (get_or r k d))) p d ≡ get_or r p d =
                    get_or-take k (set r i (get_or r k d)) p d (omega (arith, z)) ∙ get_or-set_other r i p (get_or r k d) d x in
                    (p, omega (arith, short-length, z), ap (λ (v : Tag × A). v.0) y ∙ e0, ap (λ (v : Tag × A). v.1) y ∙ e1)

module _ {A : Type 0} where
  find-append : (s t : Tag) (a : A) (r : Table A) → s ≢ t → find s (r ++ ((t, a) ∷ [])) ≡ find s r
  find-append s t a [] n = find-tail (t, a) [] s n
  find-append s t a (e ∷ r) n = go (find-append s t a r n) (same? s e.0)
    where
      go : find s (r ++ ((t, a) ∷ [])) ≡ find s r → Dec (s ≡ e.0) → find s (e ∷ (r ++ ((t, a) ∷ []))) ≡ find s (e ∷ r)
      go ih (yes p) = ap (λ (x : Tag). find x (e ∷ (r ++ ((t, a) ∷ [])))) p ∙ (find_head e (r ++ ((t, a) ∷ [])) ∙ sym (ap (λ (x : Tag). find x (e ∷ r)) p ∙ find_head e r))
      go ih (no q) = find-tail e (r ++ ((t, a) ∷ [])) s q ∙ (ih ∙ sym (find-tail e r s q))

  find_appended : (t : Tag) (a : A) (r : Table A) → find t r ≡ none → find t (r ++ ((t, a) ∷ [])) ≡ some a
  find_appended t a [] n = find_head (t, a) []
  find_appended t a (e ∷ r) n = find-tail e (r ++ ((t, a) ∷ [])) t differ ∙ find_appended t a r (sym (find-tail e r t differ) ∙ n)
    where
      differ : t ≢ e.0
      differ p = none_some (sym n ∙ (ap (λ (x : Tag). find x (e ∷ r)) p ∙ find_head e r))

  distinct_append : (t : Tag) (a : A) (r : Table A) → find t r ≡ none → T (distinct r) → T (distinct (r ++ ((t, a) ∷ [])))
  distinct_append t a [] n h = distinct_cons (t, a) [] (find-nil t) h
  distinct_append t a (e ∷ r) n h =
      distinct_cons e (r ++ ((t, a) ∷ [])) (find-append e.0 t a r (λ p. differ (sym p)) ∙ distinct_head e r h)
      (distinct_append t a r (sym (find-tail e r t differ) ∙ n) (distinct_tail e r h))
    where
      differ : t ≢ e.0
      differ p = none_some (sym n ∙ (ap (λ (x : Tag). find x (e ∷ r)) p ∙ find_head e r))

  -- a row more, under a free tag
  pub appended : (t : Tag) (a : A) (r : Table A) → find t r ≡ none → T (distinct r) → Becomes (put t a r) (r ++ ((t, a) ∷ []))
  appended t a r n h = record { same = λ s. go s (same? s t); once = distinct_append t a r n h }
    where
      go : (s : Tag) → Dec (s ≡ t) → find s (put t a r) ≡ find s (r ++ ((t, a) ∷ []))
      go s (yes p) = ap (λ (x : Tag). find x (put t a r)) p ∙ (find-put-same t a r ∙ sym (ap (λ (x : Tag). find x (r ++ ((t, a) ∷ []))) p ∙ find_appended t a r n))
      go s (no q) = find_put_other s t a r q ∙ sym (find-append s t a r q)

  -- under the row's own tag
  pub overwritten : (d : Tag × A) (r : Table A) (i : ℕ) (t : Tag) (a : A) → T (distinct r) → i < length r → (get_or r i d).0 ≡ t → Becomes (put t a r) (set r i (t, a))
  overwritten d r i t a h k at =
      let b = stored d r i t t a h k at (inl refl) in
      record { same = λ s. go s (same? s t) ∙ b.same s; once = b.once }
    where
      go : (s : Tag) → Dec (s ≡ t) → find s (put t a r) ≡ find s (put t a (cut t r))
      go s (yes p) = ap (λ (x : Tag). find x (put t a r)) p ∙ (find-put-same t a r ∙ sym (ap (λ (x : Tag). find x (put t a (cut t r))) p ∙ find-put-same t a (cut t r)))
      go s (no q) = find_put_other s t a r q ∙ sym (find_put_other s t a (cut t r) q ∙ find_cut_other s t r q)

  -- ---- a move

  move_some : (t u : Tag) (r : Table A) {a : A} → find t r ≡ some a → move t u r ≡ put u a (cut t r)
  unfolding move
  move_some t u r {a} e = ap (λ (o : Option A). moved t u r o) e

  pub move-nothing : (t u : Tag) (r : Table A) → find t r ≡ none → T (distinct r) → Becomes (move t u r) r
  unfolding move
  move-nothing t u r e h = subst (λ (o : Option A). Becomes (moved t u r o) r) (sym e) (becomes_refl h)

  -- the row of t at i, to the free tag u
  pub move-free : (d : Tag × A) (r : Table A) (i : ℕ) (t u : Tag) → T (distinct r) → i < length r → (get_or r i d).0 ≡ t → find u r ≡ none → Becomes (move t u r) (set r i (u, (get_or r i d).1))
  move-free d r i t u h k at n =
      subst (λ (w : Table A). Becomes w (set r i (u, (get_or r i d).1))) (sym (move_some t u r (ap (λ (x : Tag). find x r) (sym at) ∙ find_at d r i h k)))
      (stored d r i t u (get_or r i d).1 h k at (inr n))

  -- the row of t at i, over the row of u at j; the last row then takes the place of i
  pub move-over : (d : Tag × A) (r : Table A) (i j k : ℕ) (t u : Tag) → T (distinct r) → i < length r → j < length r → (get_or r i d).0 ≡ t → (get_or r j d).0 ≡ u → t ≢ u → length r ≡ suc k
      → Becomes (move t u r) (take k (set (set r j (u, (get_or r i d).1)) i (get_or (set r j (u, (get_or r i d).1)) k d)))
  move-over d r i j k t u h li lj ai aj n size =
      let a = (get_or r i d).1 in
      let b = overwritten d r j u a h lj aj in
      let ij : i ≢ j = λ p. n (sym ai ∙ (ap (λ (x : ℕ). (get_or r x d).0) p ∙ aj)) in
      let c = removed d (set r j (u, a)) i k t b.once (omega (arith, length-set r j (u, a))) (ap (λ (x : Tag × A). x.0) (get_or-set_other r j i (u, a) d ij) ∙ ai) (length-set r j (u, a) ∙ size) in
      subst (λ (w : Table A). Becomes w (take k (set (set r j (u, a)) i (get_or (set r j (u, a)) k d)))) (sym (move_some t u r (ap (λ (x : Tag). find x r) (sym ai) ∙ find_at d r i h li)))
      (record { same = λ s. go a s (b.same s) (same? s t) (same? s u) ∙ c.same s; once = c.once })
    where
      go : (a : A) (s : Tag) → find s (put u a r) ≡ find s (set r j (u, a)) → Dec (s ≡ t) → Dec (s ≡ u) → find s (put u a (cut t r)) ≡ find s (cut t (set r j (u, a)))
      go a s b (yes p) q =
          let v : s ≢ u = λ z. n (sym p ∙ z) in
          find_put_other s u a (cut t r) v ∙ (ap (λ (x : Tag). find x (cut t r)) p ∙ (find-cut-same t r ∙ sym (ap (λ (x : Tag). find x (cut t (set r j (u, a)))) p ∙ find-cut-same t (set r j (u, a)))))
      go a s b (no p) (yes q) =
          ap (λ (x : Tag). find x (put u a (cut t r))) q ∙ (find-put-same u a (cut t r)
          ∙ sym (find_cut_other s t (set r j (u, a)) p ∙ (sym b ∙ (ap (λ (x : Tag). find x (put u a r)) q ∙ find-put-same u a r))))
      go a s b (no p) (no q) =
          find_put_other s u a (cut t r) q ∙ (find_cut_other s t r p ∙ sym (find_cut_other s t (set r j (u, a)) p ∙ (sym b ∙ find_put_other s u a r q)))
