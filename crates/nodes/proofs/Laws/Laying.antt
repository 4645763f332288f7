-- Laying the reach of a node, and finding it: what the two loops keep, and what they end with. Assumes nothing.
use Prim.Native.Nat.{ℕ, ◌+◌, ◌≤◌, ◌<◌}
use native.Mathlib.Numerals.{add-one}
use native.Mathlib.Omega.{arith}
use native.Mathlib.Decide.{dec_lt}
use mathlib.Core.Path.{◌≡◌, refl, sym, ap, subst, ◌∙◌}
use mathlib.Core.Logic.{inl, inr, ⊎_elim}
use mathlib.Core.List.Memᴰ
use mathlib.Core.List.{List, [], ◌∷◌, ◌++◌, append_assoc}
use lib.ListN.{length, get_or, take, length-append, get_or-append}
use lib.Seq.{take-suc}
use Rattle.std.specs.Prelude.{Some, None}
use Rattle.nodes.specs.declared.Wire.{Wire}
use Rattle.nodes.specs.declared.Wire.TheVariants.{Past}
use Rattle.nodes.specs.Nodes.{◌∈◌, Reaches, itself, wired, Circular, Laid, IsOrder, target, wires_of, inputs_of, Grown, AreDistinct, Next, NotNext, Pushed, stayed, joined, IsReach}
use Rattle.nodes.proofs.Laws.Order.{laid_none, laid_more, laid-length, laid-order, stuck_cyclic, reach_in}
use Rattle.nodes.proofs.Laws.Wires.{up_to, length_up_to, mem_up_to, reach-small, target_small, target_is, target_none, place_of, member_at, wire_input, input_wire}
use Rattle.nodes.proofs.Laws.Lists.{distinct_none, distinct_more, pushed_new, At}

-- ---- laying

-- what holds while the nodes of t's reach are laid
pub record Going (w : List (List Wire)) (t : ℕ) (xs : List ℕ) : Type 0 where
  pub laid : Laid (inputs_of w) xs
  pub only : (a : ℕ) → a ∈ xs → Reaches (inputs_of w) t a

module _ (w : List (List Wire)) (t : ℕ) where
  pub going_start : Going w t []
  going_start = record { laid = laid_none (inputs_of w); only = λ a m. absurd (Memᴰ.not-nil m) }

  pub going_done : {xs : List ℕ} → Going w t xs → t ∈ xs → IsOrder (inputs_of w) t xs
  going_done {xs} g m = laid-order (inputs_of w) t xs g.laid g.only m

  pub going_few : t < 192 → {xs : List ℕ} → Going w t xs → length xs ≤ 192
  going_few small {xs} g = omega (arith, laid-length (inputs_of w) xs g.laid (up_to 192) (λ a m. mem_up_to 192 a (reach-small w t small a (g.only a m))), length_up_to 192)

  module _ {line : List ℕ} (reach : IsReach w t line) {xs : List ℕ} (g : Going w t xs) where
    pub going_more : {i : ℕ} → i ∈ line → Next w xs i → Going w t (xs ++ (i ∷ []))
    going_more {i} k n = record {
      laid = laid_more (inputs_of w) g.laid i n.0 n.1;
      only = λ a m. ⊎_elim (g.only a) (λ j. subst (λ (z : ℕ). Reaches (inputs_of w) t z) (sym (Memᴰ.eq_of_singleton j)) (reach.only i k)) (Memᴰ.append_cases xs m);
    }

    pub going_stuck : t < 192 → ((a : ℕ) → a ∈ line → NotNext w xs a) → ¬ (t ∈ xs) → Circular (inputs_of w) t
    going_stuck small none new = stuck_cyclic (inputs_of w) t (λ (a : ℕ). a ∈ xs) (λ a ra na. ⊎_elim (λ k. absurd (na k)) (λ q. q) (none a (reach.all a ra)))
        (up_to 192) (λ x rx nx. mem_up_to 192 x (reach-small w t small x rx)) t itself new

-- ---- the reach

-- a wire whose node, if it has one, is there
grown_still : {xs : List ℕ} {es : List Wire} {ys : List ℕ} → Grown xs es ys → (d : Wire) → ((x : ℕ) → target d ≡ Some x → x ∈ ys) → Grown xs (es ++ (d ∷ [])) ys
grown_still {xs} {es} {ys} g d old = record {
  nodes = g.nodes;
  more = g.more;
  is = g.is;
  has = λ e m b q. ⊎_elim (λ k. g.has e k b q) (λ k. old b (ap target (sym (Memᴰ.eq_of_singleton k)) ∙ q)) (Memᴰ.append_cases es m);
  only = λ a m. ⊎_elim (λ k. inl k) (λ q. inr (q.0, Memᴰ.append_left (d ∷ []) q.1, q.2)) (g.only a m);
}

-- a wire to a node, which was pushed
grown_more : {xs : List ℕ} {es : List Wire} {ys : List ℕ} → Grown xs es ys → (d : Wire) {x : ℕ} → target d ≡ Some x → (zs : List ℕ) → Pushed 192 ys x zs → Grown xs (es ++ (d ∷ [])) zs
grown_more {xs} {es} {ys} g d {x} to _ (stayed old) = grown_still g d (target_is (λ z. z ∈ ys) d to (⊎_elim (λ h. absurd (let z : ⊥ = omega (arith, h, target_small d to) in z)) (λ m. m) old))
grown_more {xs} {es} {ys} g d {x} to _ (joined small new) = record {
  nodes = λ k. distinct_more (g.nodes k) x small new;
  more = g.more ++ (x ∷ []);
  is = ap (λ (l : List ℕ). l ++ (x ∷ [])) g.is ∙ append_assoc xs g.more (x ∷ []);
  has = λ e m b q. ⊎_elim (λ k. Memᴰ.append_left (x ∷ []) (g.has e k b q)) (λ k. Memᴰ.append_right ys (Memᴰ.head (same (sym q ∙ ap target (Memᴰ.eq_of_singleton k) ∙ to)))) (Memᴰ.append_cases es m);
  only = λ a m. ⊎_elim (λ k. ⊎_elim (λ j. inl j) (λ q. inr (q.0, Memᴰ.append_left (d ∷ []) q.1, q.2)) (g.only a k))
      (λ k. inr (d, Memᴰ.append_right es (Memᴰ.head refl), to ∙ ap Some (sym (Memᴰ.eq_of_singleton k)))) (Memᴰ.append_cases ys m);
}
  where
    same : {a b : ℕ} → Some a ≡ Some b → a ≡ b
    same e = cc

module _ {xs : List ℕ} (es : List Wire) {ys : List ℕ} (k : ℕ) (h : k < length es) (g : Grown xs (take k es) ys) where
  pub grown_at : {x : ℕ} → target (get_or es k Past) ≡ Some x → (zs : List ℕ) → Pushed 192 ys x zs → Grown xs (take (k + 1) es) zs
  grown_at to zs p = rw (add-one, take-suc es k Past h) (grown_more g (get_or es k Past) to zs p)

  pub grown_past : target (get_or es k Past) ≡ None → Grown xs (take (k + 1) es) ys
  grown_past e = rw (add-one, take-suc es k Past h) (grown_still g (get_or es k Past) (target_none (λ z. z ∈ ys) (get_or es k Past) e))

-- what holds while the reach of t is found: what is met is reached, t is met, and so are the inputs of the first i
pub record Walking (w : List (List Wire)) (t : ℕ) (xs : List ℕ) (i : ℕ) : Type 0 where
  pub nodes : AreDistinct 192 xs
  pub i_le : i ≤ length xs
  pub has : t ∈ xs
  pub only : (a : ℕ) → a ∈ xs → Reaches (inputs_of w) t a
  pub done : (k : ℕ) → k < i → (b : ℕ) → b ∈ inputs_of w (get_or xs k 0) → b ∈ xs

module _ (w : List (List Wire)) (t : ℕ) where
  pub walking_first : t < 192 → {xs : List ℕ} → Pushed 192 [] t xs → Walking w t xs 0
  walking_first h p = rw (pushed_new p h Memᴰ.not-nil) (record {
    nodes = distinct_more distinct_none t h Memᴰ.not-nil;
    i_le = omega arith;
    has = Memᴰ.head refl;
    only = λ a m. subst (λ (z : ℕ). Reaches (inputs_of w) t z) (sym (Memᴰ.eq_of_singleton m)) itself;
    done = λ k hk. absurd (let z : ⊥ = omega arith in z);
  })

  module _ {xs : List ℕ} {i : ℕ} (g : Walking w t xs i) where
    pub walking_end : length xs ≤ i → IsReach w t xs
    walking_end h = record {
      nodes = g.nodes;
      only = g.only;
      all = reach_in (inputs_of w) (λ (z : ℕ). z ∈ xs) g.has (λ a b p k. let (j, hj, e) = place_of 0 xs a p in g.done j (omega arith) b (subst (λ (z : ℕ). b ∈ inputs_of w z) e k));
    }

    -- a turn: the inputs of the node at i are met
    pub walking_turn : {x : ℕ} → At 192 xs i x → {ys : List ℕ} → Grown xs (wires_of w x) ys → Walking w t ys (i + 1)
    walking_turn {x} v {ys} p = record {
      nodes = p.nodes g.nodes;
      i_le = omega (arith, v.within, length-append xs p.more, ap length p.is);
      has = kept t g.has;
      only = λ a m. ⊎_elim (g.only a) (λ q. wired (g.only x (rw v.is (member_at 0 xs i v.within))) (wire_input w x q.0 q.1 q.2)) (p.only a m);
      done = λ k hk b j. turn k hk b j (dec_lt k i);
    }
      where
        kept : (a : ℕ) → a ∈ xs → a ∈ ys
        kept a m = subst (λ (l : List ℕ). a ∈ l) (sym p.is) (Memᴰ.append_left p.more m)

        same : (k : ℕ) → k < length xs → get_or ys k 0 ≡ get_or xs k 0
        same k h = ap (λ (l : List ℕ). get_or l k 0) p.is ∙ get_or-append xs p.more 0 k h

        turn : (k : ℕ) → k < i + 1 → (b : ℕ) → b ∈ inputs_of w (get_or ys k 0) → Dec (k < i) → b ∈ ys
        turn k hk b j (yes lt) = kept b (g.done k lt b (subst (λ (z : ℕ). b ∈ inputs_of w z) (same k (omega (arith, lt, v.within))) j))
        turn k hk b j (no nlt) =
            let e : k ≡ i = omega arith in
            let (d, m, q) = input_wire w x (subst (λ (z : ℕ). b ∈ inputs_of w z) (same k (omega (arith, hk, v.within)) ∙ ap (λ (z : ℕ). get_or xs z 0) e ∙ sym v.is) j) in
            p.has d m b q
