-- The wires made of those of the lists, and what they say of the record. Assumes nothing.
use Prim.Native.Nat.{ℕ, zero, suc, ◌+◌, ◌<◌, ◌≤◌, min}
use native.Mathlib.Omega.{arith}
use native.Mathlib.Decide.{ℕ_discrete}
use mathlib.Core.Path.{◌≡◌, refl, sym, ap, ◌∙◌}
use mathlib.Core.Logic.{◌≢◌}
use mathlib.Core.Bool.{true}
use mathlib.Core.List.{List, [], ◌∷◌}
use mathlib.Core.Option
use mathlib.Core.Option.{Option}
use lib.ListN.{length, get_or, take, length-take, set, replicate, length-set, length-replicate, get_or-replicate}
use lib.Seq.{get_or-set_same, get_or-set_other, ext_get_or, get_or-take}
use Rattle.std.specs.Prelude.{Option as Maybe, Some, None}
use Rattle.tag.specs.Tags.{Tag}
use Rattle.model.specs.declared.implicit_model.Model.{Model as Record}
use Rattle.model.specs.Model.{Place, inputs}
use Rattle.model.specs.View.{list_of, lists_of, view, passes}
use Rattle.held.specs.Search.{position}
use Rattle.held.proofs.Laws.Rows.{no_list}
use Rattle.held.proofs.Laws.Standing.{Standing, standing}
use Rattle.held.proofs.Laws.Changes.{rows_apart}
use Rattle.nodes.specs.declared.Wire.{Wire}
use Rattle.nodes.specs.declared.Wire.TheVariants.{Past}
use Rattle.nodes.specs.Nodes.{target, wires_of}
use Rattle.nodes.proofs.Laws.Wires.{some_is, target_small}
use Rattle.resolving.specs.declared.slots.ListWires.{ListWires}
use Rattle.resolving.specs.Slots.{place_want, node_of, settled, no_wires, Resolved, owner_of}
use Rattle.resolving.proofs.Laws.Node.{name_of, name-node, listed-node, list_row, unlisted}
use Rattle.resolving.proofs.Laws.Places.{want_past}
use Rattle.resolving.proofs.Laws.Slots.{inputs_short, tag_of, owned_by, live, row_tag, listed_at, small, inputs_at}
use Rattle.graph.specs.Wiring.{places_in, Owned, Wired}
use Rattle.graph.proofs.Laws.Names.{settled_row, settled_at, Node, Drawn}

-- ---- the wires

pub wired-start : (found : List ListWires) → Wired found 0 (replicate 192 (Past ∷ Past ∷ Past ∷ []))
wired-start found = record {
  w_length = length-replicate 192 (Past ∷ Past ∷ Past ∷ []);
  own = λ l x h. absurd (let z : ⊥ = omega arith in z);
  free = λ x h f. get_or-replicate 192 x (Past ∷ Past ∷ Past ∷ []) [] h;
}

module _ (found : List ListWires) (w : List (List Wire)) (n l : ℕ) (o : Owned found n) (g : Wired found l w) (h : l < n) (x : ℕ) (at : owner_of found l ≡ Some x) where
  low : x < 192
  low = target_small (get_or found l no_wires).own at

  pub wired-more : Wired found (l + 1) (set w x (places_in found l))
  wired-more = record {
    w_length = length-set w x (places_in found l) ∙ g.w_length;
    own = λ k y lt e. by k y lt e (ℕ_discrete k l);
    free = λ y hy f. get_or-set_other w x y (places_in found l) [] (λ e. f l (omega arith) (at ∙ ap Some (sym e))) ∙ g.free y hy (λ k lt. f k (omega arith));
  }
    where
      by : (k y : ℕ) → k < l + 1 → owner_of found k ≡ Some y → Dec (k ≡ l) → wires_of (set w x (places_in found l)) y ≡ places_in found k
      by k y lt e (yes q) =
          let f : y ≡ x = some_is (sym e ∙ ap (owner_of found) q ∙ at) in
          ap (wires_of (set w x (places_in found l))) f ∙ get_or-set_same w x (places_in found l) [] (omega (arith, low, g.w_length)) ∙ ap (places_in found) (sym q)
      by k y lt e (no ne) = get_or-set_other w x y (places_in found l) [] (λ f. ne (o.apart k l (omega arith) h (e ∙ ap Some f ∙ sym at))) ∙ g.own k y (omega arith) e

-- of the first n lists alone
module _ (found : List ListWires) (n : ℕ) where
  front : (l : ℕ) → l < n → owner_of (take n found) l ≡ owner_of found l
  front l h = ap (λ (z : ListWires). target z.own) (get_or-take n found l no_wires h)

  within : (l : ℕ) → l < length (take n found) → l < n
  within l h = omega (arith, length-take n found)

  pub owned_front : Owned found n → Owned (take n found) (length (take n found))
  owned_front o = record {
    n_le = omega (arith, length-take n found, o.n_le);
    small = λ l h. ((o.small l (within l h)).0, front l (within l h) ∙ (o.small l (within l h)).1);
    apart = λ l k h j q. o.apart l k (within l h) (within k j) (sym (front l (within l h)) ∙ q ∙ front k (within k j));
  }

  pub wired_front : n ≤ length found → (w : List (List Wire)) → Wired (take n found) (length (take n found)) w → Wired found n w
  wired_front size w g = record {
    w_length = g.w_length;
    own = λ l x h e. g.own l x (omega (arith, length-take n found)) (front l h ∙ e) ∙ ap (λ (z : ListWires). z.places) (get_or-take n found l no_wires h);
    free = λ x h f. g.free x h (λ l lt e. f l (within l lt) (sym (front l (within l lt)) ∙ e));
  }

-- ---- what the wires say of the record

module _ (m : Record) (pass : passes m ≡ true) (long : min m.list_count (length m.lists) ≡ min m.list_count 128) (found : List ListWires) (r : Resolved no_list m found) where
  s : Standing m
  s = standing m pass

  abbrev count : ℕ
  count = min m.list_count 128

  pub owned : (n : ℕ) → n ≡ count → Owned found n
  owned n e = record {
    n_le = omega arith;
    small = λ l h. (node_of m (tag_of m pass long found r l), owned_by m pass long found r l (omega arith));
    apart = λ l k h j q. same l k (omega arith) (omega arith) (some_is (sym (owned_by m pass long found r l (omega arith)) ∙ q ∙ owned_by m pass long found r k (omega arith)));
  }
    where
      named : (l : ℕ) → l < count → name_of m (node_of m (tag_of m pass long found r l)) ≡ tag_of m pass long found r l
      named l h = name-node m s (tag_of m pass long found r l) (listed-node m s (tag_of m pass long found r l) l (listed_at m pass long found r l h))

      same : (l k : ℕ) → l < count → k < count → node_of m (tag_of m pass long found r l) ≡ node_of m (tag_of m pass long found r k) → l ≡ k
      same l k h j q = rows_apart (list_of no_list) (lists_of m) l k s.once-lists (live m pass long found r l h) (live m pass long found r k j) (row_tag m pass long found r l h ∙ sym (named l h) ∙ ap (name_of m) q ∙ named k j ∙ sym (row_tag m pass long found r k j))

  pub drawn : (n : ℕ) → n ≡ count → (w : List (List Wire)) → Wired found n w → Drawn m w
  drawn n e w g = record { standing = s; short = inputs_short m pass; wires = λ x nx. go x nx (position (name_of m x) 0 (lists_of m)) refl }
    where
      is_row : (ps : List Place) (es : List Wire) → length es ≡ 3 → ((p : ℕ) → p < 3 → get_or es p Past ≡ settled m (place_want ps p)) → es ≡ settled_row m ps
      is_row ps es size each = ext_get_or Past es (settled_row m ps) size (λ p h. each p (omega arith) ∙ sym (settled_at m ps p (omega arith)))

      go : (x : ℕ) → Node m x → (f : Maybe ℕ) → position (name_of m x) 0 (lists_of m) ≡ f → wires_of w x ≡ settled_row m (inputs (view m) (name_of m x))
      go x nx (Some l) q =
          let a = list_row m (name_of m x) l q in
          let h : l < count = omega (arith, a.below, s.few_lists) in
          let own : owner_of found l ≡ Some x = owned_by m pass long found r l h ∙ ap Some (ap (node_of m) a.tag ∙ nx.1) in
          g.own l x (omega arith) own
          ∙ is_row _ (places_in found l) (r.each l h).size (r.each l h).each
          ∙ ap (settled_row m) (sym (inputs_at m pass long found r (name_of m x) l q))
      go x nx None q =
          g.free x nx.0 none_owns
          ∙ is_row [] _ refl (λ p h. past p h ∙ ap (settled m) (sym (want_past [] p (omega arith))))
          ∙ ap (settled_row m) (sym (ap (λ (o : Option (List Place)). Option.get_or o []) (unlisted m (name_of m x) q)))
        where
          past : (p : ℕ) → p < 3 → get_or (Past ∷ Past ∷ Past ∷ []) p Past ≡ Past
          past zero h = refl
          past (suc zero) h = refl
          past (suc (suc zero)) h = refl
          past (suc (suc (suc p))) h = absurd (let z : ⊥ = omega arith in z)

          none_owns : (l : ℕ) → l < n → owner_of found l ≢ Some x
          none_owns l h k =
              let j : l < count = omega arith in
              let t : tag_of m pass long found r l ≡ name_of m x = sym (name-node m s (tag_of m pass long found r l) (small m pass long found r l j)) ∙ ap (name_of m) (some_is (sym (owned_by m pass long found r l j) ∙ k)) in
              let f : position (name_of m x) 0 (lists_of m) ≡ Some l = ap (λ (z : Tag). position z 0 (lists_of m)) (sym t) ∙ listed_at m pass long found r l j in
              let z : ◌≡◌ {A = ℕ} 0 1 = cc in
              let y : ⊥ = omega arith in
              y
