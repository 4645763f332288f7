-- What nodes show of the tags that they stand for: reach, cycles and orders. A tag without a node has no list. Assumes nothing.
use Prim.Native.Nat.{ℕ, zero, suc, ◌≤◌, ◌<◌}
use native.Mathlib.Omega.{arith}
use native.Mathlib.Decide.{dec_lt}
use mathlib.Core.Path.{◌≡◌, refl, sym, ap, subst, ◌∙◌}
use mathlib.Core.Logic.{⊎_elim}
use mathlib.Core.List.Memᴰ
use mathlib.Core.List.{List, [], ◌∷◌, ◌++◌, map, Memᴰ}
use mathlib.Core.Option.{some}
use lib.ListN.{length, get_or}
use Rattle.tag.specs.Tags.{Tag}
use Rattle.model.specs.declared.implicit_model.Model.{Model as Record}
use Rattle.model.specs.Model.{Place, inputs}
use Rattle.model.specs.Form.{Wire, Reach, here, along, Cyclic, Placed, start, then, Order}
use Rattle.model.specs.View.{view}
use Rattle.model.proofs.Laws.Reach.{reach_on}
use Rattle.held.proofs.Laws.Standing.{Standing}
use Rattle.std.specs.Prelude.{Some}
use Rattle.nodes.specs.declared.Wire.{Wire as Edge}
use Rattle.nodes.specs.declared.Wire.TheVariants.{Past}
use Rattle.nodes.specs.Nodes.{◌∈◌, Reaches, itself, wired, Circular, IsOrder, target, wire_to, wires_of, inputs_of}
use Rattle.resolving.specs.Slots.{Want, look, unassigned, no_place, place_want, node_of, settled}
use Rattle.nodes.proofs.Laws.Order.{by_placing}
use Rattle.nodes.proofs.Laws.Wires.{none_some, target_small, target_to, target_of, input_wire, wire_input, place_of, member_at}
use Rattle.resolving.proofs.Laws.Node.{name_of, name-node, node-none}
use Rattle.resolving.proofs.Laws.Places.{want_names, names_want}

-- ---- a mapped list

pub map_mem : {I N : Type 0} (f : I → N) {i : I} {l : List I} → i ∈ l → f i ∈ map f l
map_mem f (Memᴰ.head e) = Memᴰ.head (ap f e)
map_mem f (Memᴰ.tail m) = Memᴰ.tail (map_mem f m)

pub map_mem_inv : {I N : Type 0} (f : I → N) {a : N} (l : List I) → a ∈ map f l → (i : I) × (i ∈ l) × (f i ≡ a)
map_mem_inv f [] m = absurd (Memᴰ.not-nil m)
map_mem_inv f (x ∷ l) m = ⊎_elim (λ e. (x, Memᴰ.head refl, sym e)) (λ m'. let (i, k, e) = map_mem_inv f l m' in (i, Memᴰ.tail k, e)) (Memᴰ.cases_cons m)

map_snoc : {I N : Type 0} (f : I → N) (xs : List I) (t : I) → map f (xs ++ (t ∷ [])) ≡ map f xs ++ (f t ∷ [])
map_snoc f [] t = refl
map_snoc f (x ∷ xs) t = ap (λ (l : List _). f x ∷ l) (map_snoc f xs t)

-- ---- nodes and their tags

-- x is the node of its tag
abbrev pub Node : Record → ℕ → Type 0
Node m x = (x < 192) × (node_of m (name_of m x) ≡ x)

-- what the three places of a list come to
abbrev pub settled_row : Record → List Place → List Edge
settled_row m l = settled m (place_want l 0) ∷ settled m (place_want l 1) ∷ settled m (place_want l 2) ∷ []

module _ (m : Record) (l : List Place) where
  pub settled_at : (p : ℕ) → p < 3 → get_or (settled_row m l) p Past ≡ settled m (place_want l p)
  settled_at zero h = refl
  settled_at (suc zero) h = refl
  settled_at (suc (suc zero)) h = refl
  settled_at (suc (suc (suc p))) h = absurd (let z : ⊥ = omega arith in z)

  pub in_settled : (p : ℕ) → p < 3 → settled m (place_want l p) ∈ settled_row m l
  in_settled p h = subst (λ (e : Edge). e ∈ settled_row m l) (settled_at p h) (member_at Past (settled_row m l) p (omega arith))

  settled_in : (e : Edge) → e ∈ settled_row m l → (p : ℕ) × (p < 3) × (e ≡ settled m (place_want l p))
  settled_in e k = let (p, h, q) = place_of Past (settled_row m l) e k in let hp : p < 3 = omega arith in (p, hp, q ∙ settled_at p hp)

-- what w has of a node is what its tag's list says
abbrev pub WiresOf : Record → List (List Edge) → Type 0
WiresOf m w = (x : ℕ) → Node m x → wires_of w x ≡ settled_row m (inputs (view m) (name_of m x))

-- everything that the laws below rest on
pub record Drawn (m : Record) (w : List (List Edge)) : Type 0 where
  pub standing : Standing m
  pub short : (a : Tag) → length (inputs (view m) a) ≤ 3
  pub wires : WiresOf m w

module _ {m : Record} {w : List (List Edge)} (d : Drawn m w) where
  pub node-of : (a : Tag) → node_of m a < 192 → Node m (node_of m a)
  node-of a h = (h, ap (node_of m) (name-node m d.standing a h))

  -- an input is the node of a tag in the list
  down : (i j : ℕ) → Node m i → j ∈ inputs_of w i → Node m j × Wire (view m) (name_of m i) (name_of m j)
  down i j ni k = go (place_want (inputs (view m) (name_of m i)) p) refl
    where
      wire : (e : Edge) × (e ∈ wires_of w i) × (target e ≡ Some j)
      wire = input_wire w i k

      at : (p : ℕ) × (p < 3) × (wire.0 ≡ settled m (place_want (inputs (view m) (name_of m i)) p))
      at = settled_in m (inputs (view m) (name_of m i)) wire.0 (subst (λ (l : List Edge). wire.0 ∈ l) (d.wires i ni) wire.1)

      p : ℕ
      p = at.0

      go : (v : Want) → place_want (inputs (view m) (name_of m i)) p ≡ v → Node m j × Wire (view m) (name_of m i) (name_of m j)
      go (look a) f =
          let q : target (wire_to (node_of m a)) ≡ Some j = ap target (sym (at.2 ∙ ap (settled m) f)) ∙ wire.2 in
          let r : j ≡ node_of m a = sym (target_of (node_of m a) q) in
          let hj : j < 192 = target_small wire.0 wire.2 in
          let h : node_of m a < 192 = subst (λ (z : ℕ). z < 192) r hj in
          let n : name_of m j ≡ a = ap (name_of m) r ∙ name-node m d.standing a h in
          ((hj, ap (node_of m) n ∙ sym r), subst (λ (z : Tag). Wire (view m) (name_of m i) z) (sym n) (want_names (inputs (view m) (name_of m i)) p f))
      go unassigned f = absurd (none_some (ap target (sym (at.2 ∙ ap (settled m) f)) ∙ wire.2))
      go no_place f = absurd (none_some (ap target (sym (at.2 ∙ ap (settled m) f)) ∙ wire.2))

  -- a tag in the list of a node's tag has its node among the inputs, if it has one
  up : (i : ℕ) (b : Tag) → Node m i → Wire (view m) (name_of m i) b → node_of m b < 192 → node_of m b ∈ inputs_of w i
  up i b ni k h =
      let l = inputs (view m) (name_of m i) in
      let (p, lt, e) = names_want l k in
      let hp : p < 3 = omega (arith, d.short (name_of m i)) in
      wire_input w i (settled m (place_want l p)) (subst (λ (r : List Edge). settled m (place_want l p) ∈ r) (sym (d.wires i ni)) (in_settled m l p hp)) (ap target (ap (settled m) e) ∙ target_to (node_of m b) h)

  -- a tag with a wire has a node
  pub wired-node : (a b : Tag) → Wire (view m) a b → node_of m a < 192
  wired-node a b k = go (dec_lt (node_of m a) 192)
    where
      go : Dec (node_of m a < 192) → node_of m a < 192
      go (yes h) = h
      go (no n) = absurd (Memᴰ.not-nil (subst (λ (l : List Place). Memᴰ (some b) l) (node-none m d.standing a (omega arith)) k))

  module _ (t : Tag) (small : node_of m t < 192) where
    pub reach_down : (i : ℕ) → Reaches (inputs_of w) (node_of m t) i → Node m i × Reach (view m) t (name_of m i)
    reach_down i itself = (node-of t small, subst (λ (z : Tag). Reach (view m) t z) (sym (name-node m d.standing t small)) here)
    reach_down j (wired {a = i} r k) = let (ni, ri) = reach_down i r in let (nj, v) = down i j ni k in (nj, along ri v)

    pub reach_up : (a : Tag) → Reach (view m) t a → node_of m a < 192 → Reaches (inputs_of w) (node_of m t) (node_of m a)
    reach_up a here h = itself
    reach_up b (along {a = a} r k) h =
        let ha : node_of m a < 192 = wired-node a b k in
        wired (reach_up a r ha) (up (node_of m a) b (node-of a ha) (subst (λ (z : Tag). Wire (view m) z b) (sym (name-node m d.standing a ha)) k) h)

  module _ (t : Tag) (small : node_of m t < 192) where
    pub cyclic_down : Circular (inputs_of w) (node_of m t) → Cyclic (view m) t
    cyclic_down c =
        let (n, r) = reach_down t small c.tag c.reached in
        let e : node_of m (name_of m c.tag) ≡ c.tag = n.1 in
        let (nu, ru) = reach_down (name_of m c.tag) (subst (λ (z : ℕ). z < 192) (sym e) n.0) c.user (subst (λ (z : ℕ). Reaches (inputs_of w) z c.user) (sym e) c.on) in
        let (nt, k) = down c.user c.tag nu c.back in
        record { tag = name_of m c.user; next = name_of m c.tag; reached = reach_on r ru; wire = k; back = ru }

    pub cyclic_up : Cyclic (view m) t → Circular (inputs_of w) (node_of m t)
    cyclic_up c = record { tag = node_of m c.next; user = node_of m c.tag; reached = wired to in_place; on = reach_up c.next next_small c.tag c.back tag_small; back = in_place }
      where
        tag_small : node_of m c.tag < 192
        tag_small = wired-node c.tag c.next c.wire

        on_small : (a b : Tag) → Reach (view m) a b → node_of m b < 192 → node_of m a < 192
        on_small a b here h = h
        on_small a b (along {a = e} r k) h = on_small a e r (wired-node e b k)

        next_small : node_of m c.next < 192
        next_small = on_small c.next c.tag c.back tag_small

        to : Reaches (inputs_of w) (node_of m t) (node_of m c.tag)
        to = reach_up t small c.tag c.reached tag_small

        in_place : node_of m c.next ∈ inputs_of w (node_of m c.tag)
        in_place = up (node_of m c.tag) c.next (node-of c.tag tag_small) (subst (λ (z : Tag). Wire (view m) z c.next) (sym (name-node m d.standing c.tag tag_small)) c.wire) next_small

    -- where every reached tag has a node, an order of nodes is an order of their tags
    module _ (has : (a : Tag) → Reach (view m) t a → node_of m a < 192) (xs : List ℕ) (o : IsOrder (inputs_of w) (node_of m t) xs) where
      reached : (i : ℕ) → i ∈ xs → Node m i × Reach (view m) t (name_of m i)
      reached i k = reach_down t small i (o.only i k)

      step : (ys : List ℕ) (z : ℕ) → (((a : ℕ) → a ∈ ys → a ∈ xs) → Placed (view m) (map (name_of m) ys)) → ¬ (z ∈ ys) → ((b : ℕ) → b ∈ inputs_of w z → b ∈ ys)
          → ((a : ℕ) → a ∈ ys ++ (z ∷ []) → a ∈ xs) → Placed (view m) (map (name_of m) (ys ++ (z ∷ [])))
      step ys z q new fed sub = subst (Placed (view m)) (sym (map_snoc (name_of m) ys z)) (then (q (λ a k. sub a (Memᴰ.append_left (z ∷ []) k))) once inputs-ahead)
        where
          z_in : z ∈ xs
          z_in = sub z (Memᴰ.append_right ys (Memᴰ.head refl))

          once : ¬ Memᴰ (name_of m z) (map (name_of m) ys)
          once k =
              let (j, i, e) = map_mem_inv (name_of m) ys k in
              let nj : Node m j = (reached j (sub j (Memᴰ.append_left (z ∷ []) i))).0 in
              let nz : Node m z = (reached z z_in).0 in
              new (subst (λ (y : ℕ). y ∈ ys) (sym nj.1 ∙ ap (node_of m) e ∙ nz.1) i)

          inputs-ahead : (b : Tag) → Wire (view m) (name_of m z) b → Memᴰ b (map (name_of m) ys)
          inputs-ahead b k =
              let (nz, rz) = reached z z_in in
              let h : node_of m b < 192 = has b (along rz k) in
              subst (λ (y : Tag). Memᴰ y (map (name_of m) ys)) (name-node m d.standing b h) (map_mem (name_of m) (fed (node_of m b) (up z b nz k h)))

      pub order_up : Order (view m) t (map (name_of m) xs)
      order_up = record {
        placed = by_placing (inputs_of w) (λ ys. ((a : ℕ) → a ∈ ys → a ∈ xs) → Placed (view m) (map (name_of m) ys)) (λ sub. start) step xs o.laid (λ a k. k);
        reached = λ a k. let (i, j, e) = map_mem_inv (name_of m) xs k in subst (λ (z : Tag). Reach (view m) t z) e (reached i j).1;
        all = λ a r. subst (λ (z : Tag). Memᴰ z (map (name_of m) xs)) (name-node m d.standing a (has a r)) (map_mem (name_of m) (o.all (node_of m a) (reach_up t small a r (has a r))));
        last = (map (name_of m) o.last.0, ap (map (name_of m)) o.last.1 ∙ map_snoc (name_of m) o.last.0 (node_of m t) ∙ ap (λ (z : Tag). map (name_of m) o.last.0 ++ (z ∷ [])) (name-node m d.standing t small));
      }
