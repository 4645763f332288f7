-- The least of what the lists show, from the least of a list of tags. Assumes nothing.
use Prim.Native.Nat.{ℕ, zero, suc, ◌<◌}
use native.Mathlib.Omega.{arith}
use mathlib.Core.Path.{◌≡◌, refl, sym, ap, ap₂, subst, ◌∙◌}
use mathlib.Core.Logic.{◌⊎◌, inl, inr, ⊎_elim}
use mathlib.Core.Bool.{Bool, true, false, cond, true≢false}
use mathlib.Core.List.Memᴰ
use mathlib.Core.List.{List, [], ◌∷◌, Memᴰ}
use lib.ListN.{length, get_or}
use denote.Param.Members.{Mut}
use denote.Ref.{Bor}
use Rattle.std.specs.Prelude.{Option as Maybe, Some, None}
use Rattle.std.specs.Fn.{CalledAt}
use Rattle.std.specs.Iterator.Runs.{Run, WholeRun, AnyItem, CallKeepsClosure, NoKeyBeyond, YieldsRun}
use Rattle.std.specs.Iterator.{DrainsIf}
use Rattle.std.specs.Option.{IfSome, IsSomeAnd, MatchOption}
use Rattle.std.specs.List.{filter, filter_map, cons_option, zip, fold, slice_get}
use Rattle.std.proofs.Common.{Less, Equal, Greater, Ordering, map-id}
use Rattle.std.specs.Ordering.{nat_cmp, min_by_ordering, ordering_reverse, is_lt, on}
use Rattle.std.specs.Cmp.Lexicographic.{slice_cmp}
use Rattle.std.proofs.lemmas.Cmp.{nat_list_cmp_total}
use Rattle.std.proofs.lemmas.Slice.Zip.{length-zip, get_or-zip}
use Rattle.std.proofs.lemmas.Iterator.{YieldsList, items_from_drains}
use Rattle.tag.specs.Tags.{Tag, before}
use Rattle.tag.specs.View.{bytes_of}
use Rattle.tag.specs.declared.Tag.{Tag as Label}
use Rattle.tag.proofs.Laws.Order.{before_irrefl, before_trans, before_not, less_before}
use Rattle.nodes.specs.Nodes.{◌∈◌}
use Rattle.nodes.proofs.Laws.Wires.{place_of, member_at}
use Rattle.lacking.specs.Least.{LeastIs, LeastOf, least}

-- ---- not ahead

ahead : (s t : Tag) → (before s t ≡ true → ⊥) → before s t ≡ false
ahead s t n = go (before s t) n
  where
    go : (x : Bool) → (x ≡ true → ⊥) → x ≡ false
    go true n = absurd (n refl)
    go false n = refl

pub not_ahead : (s t u : Tag) → before s t ≡ false → before t u ≡ false → before s u ≡ false
not_ahead s t u p q = ahead s u (λ r. ⊎_elim (λ e. true≢false (sym r ∙ ap (λ (z : Tag). before z u) e ∙ q)) (λ b. true≢false (sym (before_trans t s u b r) ∙ q)) (before_not s t p))

-- ---- the least of a list

same-least : {A : Type 0} {tag : A → Tag} {S : A → Type 0} (R : A → Type 0) {b : A} → LeastIs tag S b → ((a : A) → S a → R a) → ((a : A) → R a → S a) → LeastIs tag R b
same-least R g to from = record { found = to _ g.found; least = λ a h. g.least a (from a h) }

abbrev lesser : Label → Label → Label
lesser s t = min_by_ordering (slice_cmp nat_cmp (bytes_of s) (bytes_of t)) s t

-- from the least of S to the least of S and t
take-least : {S : Label → Type 0} (b t : Label) → LeastIs bytes_of S b → LeastIs bytes_of (λ a. S a ⊎ (a ≡ t)) (lesser b t)
take-least {S} b t g = go (slice_cmp nat_cmp (bytes_of t) (bytes_of b)) refl
  where
    turned : (o : Ordering) → slice_cmp nat_cmp (bytes_of t) (bytes_of b) ≡ o → LeastIs bytes_of (λ a. S a ⊎ (a ≡ t)) (min_by_ordering (ordering_reverse o) b t) → LeastIs bytes_of (λ a. S a ⊎ (a ≡ t)) (lesser b t)
    turned o e = subst (λ (x : Ordering). LeastIs bytes_of (λ a. S a ⊎ (a ≡ t)) (min_by_ordering x b t)) (sym (nat_list_cmp_total.antisymm (bytes_of b) (bytes_of t) ∙ ap ordering_reverse e))

    stays : before (bytes_of t) (bytes_of b) ≡ false → LeastIs bytes_of (λ a. S a ⊎ (a ≡ t)) b
    stays e = record { found = inl g.found; least = λ a h. ⊎_elim (g.least a) (λ q. ap (λ (z : Label). before (bytes_of z) (bytes_of b)) q ∙ e) h }

    go : (o : Ordering) → slice_cmp nat_cmp (bytes_of t) (bytes_of b) ≡ o → LeastIs bytes_of (λ a. S a ⊎ (a ≡ t)) (lesser b t)
    go Less e = turned Less e (record {
      found = inr refl;
      least = λ a h.
          ⊎_elim
          (λ s. ahead (bytes_of a) (bytes_of t) (λ q. true≢false (sym (before_trans (bytes_of a) (bytes_of t) (bytes_of b) q (sym (less_before _ _) ∙ ap is_lt e)) ∙ g.least a s)))
          (λ q. ap (λ (z : Label). before (bytes_of z) (bytes_of t)) q ∙ before_irrefl (bytes_of t))
          h;
    })
    go Equal e = turned Equal e (stays (sym (less_before _ _) ∙ ap is_lt e))
    go Greater e = turned Greater e (stays (sym (less_before _ _) ∙ ap is_lt e))

fold-least : {S : Label → Type 0} (b : Label) (ts : List Label) → LeastIs bytes_of S b → LeastIs bytes_of (λ a. S a ⊎ (a ∈ ts)) (fold lesser b ts)
fold-least {S} b [] g = same-least (λ a. S a ⊎ (a ∈ [])) g (λ a s. inl s) (λ a h. ⊎_elim (λ s. s) (λ m. absurd (Memᴰ.not-nil m)) h)
fold-least {S} b (t ∷ ts) g =
    same-least (λ a. S a ⊎ (a ∈ t ∷ ts)) (fold-least (lesser b t) ts (take-least b t g))
    (λ a h. ⊎_elim (λ k. ⊎_elim (λ s. inl s) (λ e. inr (Memᴰ.head e)) k) (λ m. inr (Memᴰ.tail m)) h)
    (λ a h. ⊎_elim (λ s. inl (inl s)) (λ m. ⊎_elim (λ e. inl (inr e)) (λ k. inr k) (Memᴰ.cases_cons m)) h)

pub least_of : (ts : List Label) → LeastOf bytes_of (λ a. a ∈ ts) (least ts)
least_of [] = λ a m. Memᴰ.not-nil m
least_of (t ∷ ts) =
    same-least (λ a. a ∈ t ∷ ts) (fold-least {S = λ a. a ≡ t} t ts (record { found = refl; least = λ a e. ap (λ (z : Label). before (bytes_of z) (bytes_of t)) e ∙ before_irrefl (bytes_of t) }))
    (λ a h. ⊎_elim (λ e. Memᴰ.head e) (λ m. Memᴰ.tail m) h)
    (λ a m. Memᴰ.cases_cons m)

-- ---- the least of what a run gave, by a key

at_mem : {A : Type 0} {a : A} (xs : List A) (k : ℕ) → slice_get xs k ≡ Some a → a ∈ xs
at_mem [] k e = absurd (let z : ◌≡◌ {A = ℕ} 0 1 = cc in let w : ⊥ = omega arith in w)
at_mem {a = a} (x ∷ xs) zero e = Memᴰ.head (let q : a ≡ x = cc in q)
at_mem (x ∷ xs) (suc k) e = Memᴰ.tail (at_mem xs k e)

mem_at : {A : Type 0} (xs : List A) {a : A} → a ∈ xs → (k : ℕ) × (slice_get xs k ≡ Some a)
mem_at [] m = absurd (Memᴰ.not-nil m)
mem_at (x ∷ xs) m = ⊎_elim (λ e. (0, ap Some (sym e))) (λ k. let (i, e) = mem_at xs k in (suc i, e)) (Memᴰ.cases_cons m)

module _ {S A F : Type 0} {steps : S → Maybe A → S → Type 0} {s : S} {all : List A} (tag : A → Label) (g : Mut F (Bor A × Unit {0}) Label) (f : F) (calls : (x : A) (k : Label) (q : F) → CalledAt g f x k q → (q ≡ f) × (k ≡ tag x)) (road : YieldsList steps (λ y. y) s all) where
  items : (p : Run steps) → p.from ≡ s → p.whole ≡ true → (p.items ≡ all) × ((k : ℕ) → p.at k ≡ slice_get p.items k)
  unfolding YieldsRun
  items p from whole =
      let ((t, yields, ends), at) = p.gave in
      (sym (map-id p.items) ∙ items_from_drains p.items (subst (λ (u : S). DrainsIf steps (Unit {0}) u p.items) from (t, yields, λ x. ends whole)) road, at)

  keeps : CallKeepsClosure g f
  keeps a k q c = (calls a.0.now k q (record { shown = a.0; shows = refl; called = c })).0

  pub least_by_key : (r : Maybe A) → WholeRun steps s (λ p. MatchOption r (p.len ≡ 0) (λ m. AnyItem p (λ x. x ≡ m) × NoKeyBeyond p g f is_lt (on bytes_of (slice_cmp nat_cmp)) m)) → LeastOf (λ a. bytes_of (tag a)) (λ a. a ∈ all) r
  least_by_key None (p, from, whole, empty) =
      let (same, at) = items p from whole in
      λ a m. let (k, h, e) = place_of a all a m in let z : ⊥ = omega (arith, ap length same, p.long, empty, h) in z
  least_by_key (Some m) (p, from, whole, ((i, below, any), beyond)) =
      let (same, at) = items p from whole in
      let (k, here, each) = beyond keeps in
      record {
        found = subst (λ (l : List A). m ∈ l) same (member (p.at i) any (at i));
        least = λ a h. let (j, e) = mem_at all h in behind k here a (subst (λ (o : Maybe A). IfSome o (Behind k)) (at j ∙ ap (λ (l : List A). slice_get l j) same ∙ e) (each j));
      }
    where
      Behind : Label → A → Type 0
      Behind k x = (j : Label) × CalledAt g f x j f × (is_lt (on bytes_of (slice_cmp nat_cmp) j k) ≡ false)

      member : (o : Maybe A) → IsSomeAnd o (λ x. x ≡ m) → o ≡ slice_get p.items i → m ∈ p.items
      member None h e = absurd h
      member (Some x) h e = at_mem p.items i (sym e ∙ ap Some h)

      behind : (k : Label) → CalledAt g f m k f → (a : A) → Behind k a → before (bytes_of (tag a)) (bytes_of (tag m)) ≡ false
      behind k here a (j, c, e) = ap₂ (λ (u v : Label). before (bytes_of u) (bytes_of v)) (sym (calls a j f c).1) (sym (calls m k f here).1) ∙ sym (less_before _ _) ∙ e

-- ---- what is kept and made of two lists, side by side

module _ {X Y Z : Type 0} (t : X × Y → Bool) (h : X × Y → Maybe Z) (d : X × Y) where
  pub record Chosen (xs : List X) (ys : List Y) (z : Z) : Type 0 where
    pub place : ℕ
    pub first : place < length xs
    pub second : place < length ys
    pub kept : t (get_or xs place d.0, get_or ys place d.1) ≡ true
    pub gives : h (get_or xs place d.0, get_or ys place d.1) ≡ Some z

  made : (xs : List (X × Y)) (z : Z) → z ∈ filter_map h xs → (x : X × Y) × (x ∈ xs) × (h x ≡ Some z)
  made [] z m = absurd (Memᴰ.not-nil m)
  made (x ∷ xs) z m = go (λ k. let (y, i, e) = made xs z k in (y, Memᴰ.tail i, e)) (h x) refl m
    where
      go : (z ∈ filter_map h xs → (y : X × Y) × (y ∈ x ∷ xs) × (h y ≡ Some z)) → (o : Maybe Z) → h x ≡ o → z ∈ cons_option o (filter_map h xs) → (y : X × Y) × (y ∈ x ∷ xs) × (h y ≡ Some z)
      go later None e k = later k
      go later (Some w) e k = ⊎_elim (λ q. (x, Memᴰ.head refl, e ∙ ap Some (sym q))) later (Memᴰ.cases_cons k)

  of_made : (xs : List (X × Y)) {x : X × Y} {z : Z} → x ∈ xs → h x ≡ Some z → z ∈ filter_map h xs
  of_made [] m e = absurd (Memᴰ.not-nil m)
  of_made (y ∷ xs) {x} {z} m e = ⊎_elim (λ q. subst (λ (o : Maybe Z). z ∈ cons_option o (filter_map h xs)) (sym (ap h (sym q) ∙ e)) (Memᴰ.head refl)) (λ k. go (h y) (of_made xs k e)) (Memᴰ.cases_cons m)
    where
      go : (o : Maybe Z) → z ∈ filter_map h xs → z ∈ cons_option o (filter_map h xs)
      go None k = k
      go (Some w) k = Memᴰ.tail k

  left : (xs : List (X × Y)) {x : X × Y} → x ∈ filter t xs → (x ∈ xs) × (t x ≡ true)
  left [] m = absurd (Memᴰ.not-nil m)
  left (y ∷ xs) {x} m = go (λ k. let (i, e) = left xs k in (Memᴰ.tail i, e)) (t y) refl m
    where
      go : (x ∈ filter t xs → (x ∈ y ∷ xs) × (t x ≡ true)) → (b : Bool) → t y ≡ b → x ∈ cond b (y ∷ filter t xs) (filter t xs) → (x ∈ y ∷ xs) × (t x ≡ true)
      go later false e k = later k
      go later true e k = ⊎_elim (λ q. (Memᴰ.head q, ap t q ∙ e)) later (Memᴰ.cases_cons k)

  of_left : (xs : List (X × Y)) {x : X × Y} → x ∈ xs → t x ≡ true → x ∈ filter t xs
  of_left [] m e = absurd (Memᴰ.not-nil m)
  of_left (y ∷ xs) {x} m e = ⊎_elim (λ q. subst (λ (b : Bool). x ∈ cond b (y ∷ filter t xs) (filter t xs)) (sym (ap t (sym q) ∙ e)) (Memᴰ.head q)) (λ k. go (t y) (of_left xs k e)) (Memᴰ.cases_cons m)
    where
      go : (b : Bool) → x ∈ filter t xs → x ∈ cond b (y ∷ filter t xs) (filter t xs)
      go false k = k
      go true k = Memᴰ.tail k

  module _ (xs : List X) (ys : List Y) (z : Z) where
    pub chosen : z ∈ filter_map h (filter t (zip xs ys)) → Chosen xs ys z
    chosen m =
        let (x, i, e) = made (filter t (zip xs ys)) z m in
        let (k, n) = left (zip xs ys) i in
        let (p, l, q) = place_of d (zip xs ys) x k in
        let f : p < length xs = omega (arith, length-zip xs ys) in
        let g : p < length ys = omega (arith, length-zip xs ys) in
        let r : x ≡ (get_or xs p d.0, get_or ys p d.1) = q ∙ get_or-zip xs ys p d f g in
        record { place = p; first = f; second = g; kept = sym (ap t r) ∙ n; gives = sym (ap h r) ∙ e }

    pub of_chosen : Chosen xs ys z → z ∈ filter_map h (filter t (zip xs ys))
    of_chosen c =
        let r : get_or (zip xs ys) c.place d ≡ (get_or xs c.place d.0, get_or ys c.place d.1) = get_or-zip xs ys c.place d c.first c.second in
        of_made (filter t (zip xs ys)) (of_left (zip xs ys) (member_at d (zip xs ys) c.place (omega (arith, length-zip xs ys, c.first, c.second))) (ap t r ∙ c.kept)) (ap h r ∙ c.gives)
