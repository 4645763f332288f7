-- Document 01's order: a target closes a cycle or has an order, and not both; every order of a target is as long as its reach is large. Assumes nothing.
use mathlib.Core.Path.{◌≡◌, refl, sym, subst}
use mathlib.Core.Logic.{◌⊎◌, inl, inr, ◌↔◌}
use mathlib.Core.List.Memᴰ
use mathlib.Core.List.{List, [], ◌∷◌, ◌++◌, Memᴰ}
use mathlib.Core.Option.{Option, none, some, get_or}
use Prim.Native.Nat.{ℕ, zero, suc, ◌+◌, ◌<◌}
use native.Mathlib.Omega.{arith}
use native.Mathlib.Nat.{le_antisymm}
use lib.ListN.{length}
use Rattle.tag.specs.Tags.{Tag}
use Rattle.model.specs.Model.{Place, Model, component, inputs}
use Rattle.model.specs.Walk.{tags}
use Rattle.model.specs.Form.{Wire, Reach, here, along, Cyclic, Compiles, Placed, start, then, Order}
use Rattle.model.proofs.Laws.Once.{Once, no_tag, one_more, mem?, once_le, keys, keys_length, find_key}
use Rattle.model.proofs.Laws.Reach.{wire-named, named-wire, reach_on, Over, over-next, placed-once, placed-closed, placed-acyclic}

-- ---- the count is the size of the reach

-- The list holds every reached tag once and no other, so that its length is the size of the reach.
pub record Holds (m : Model) (t : Tag) (l : List Tag) : Type 0 where
  pub once : Once l
  pub exactly : (a : Tag) → Memᴰ a l ↔ Reach m t a

-- the size of the reach is one number
pub one_size : {m : Model} {t : Tag} {l k : List Tag} → Holds m t l → Holds m t k → length l ≡ length k
one_size h g = le_antisymm (once_le h.once (λ a i. (g.exactly a).1 ((h.exactly a).0 i))) (once_le g.once (λ a i. (h.exactly a).1 ((g.exactly a).0 i)))

-- an order's length is the size of the reach
pub order-holds : {m : Model} {t : Tag} {o : List Tag} → Order m t o → Holds m t o
order-holds o = record { once = placed-once o.placed; exactly = λ a. (o.reached a, o.all a) }

-- any two orders of one target are as long
pub order-count : {m : Model} {t : Tag} {o k : List Tag} → Order m t o → Order m t k → length o ≡ length k
order-count o k = one_size (order-holds o) (order-holds k)

-- ---- an order has no cycle

pub order-acyclic : {m : Model} {t : Tag} {o : List Tag} → Order m t o → ¬ Cyclic m t
order-acyclic o c = placed-acyclic o.placed (o.all c.tag c.reached) c.wire c.back

-- what an order covers compiles, if each tag has a component and no gap
pub order_compiles : {m : Model} {t : Tag} {o : List Tag} → Placed m o → Memᴰ t o → ((a : Tag) → Memᴰ a o → ¬ (component m a ≡ none))
    → ((a : Tag) → Memᴰ a o → ¬ Memᴰ none (inputs m a)) → Compiles m t
order_compiles p i there full = record {
  acyclic = λ c. placed-acyclic p (placed-closed p i c.reached) c.wire c.back;
  present = λ a x. there a (placed-closed p i x.0) x.1;
  assigned = λ a x. full a (placed-closed p i x.0) x.1;
}

-- ---- without a cycle there is an order: tags are placed depth first, each after its inputs

-- The tags `ts` and what they reach are placed, after `o`.
record Followed (m : Model) (ts o : List Tag) : Type 0 where
  order : List Tag
  placed : Placed m order
  kept : (b : Tag) → Memᴰ b o → Memᴰ b order
  named : (b : Tag) → Memᴰ b ts → Memᴰ b order
  only : (b : Tag) → Memᴰ b order → Memᴰ b o ⊎ ((c : Tag) × Memᴰ c ts × Reach m c b)

module _ {m : Model} where
  -- one tag more
  both : {b : Tag} {ts o : List Tag} (f : Followed m (b ∷ []) o) → Followed m ts f.order → Followed m (b ∷ ts) o
  both {b} {ts} {o} f g = record {
    order = g.order;
    placed = g.placed;
    kept = λ d i. g.kept d (f.kept d i);
    named = λ d i. name (Memᴰ.cases_cons i);
    only = λ d i. first (g.only d i);
  }
    where
      name : {d : Tag} → (d ≡ b) ⊎ Memᴰ d ts → Memᴰ d g.order
      name {d} (inl e) = g.kept d (f.named d (Memᴰ.head e))
      name {d} (inr i) = g.named d i

      second : {d : Tag} → Memᴰ d o ⊎ ((c : Tag) × Memᴰ c (b ∷ []) × Reach m c d) → Memᴰ d o ⊎ ((c : Tag) × Memᴰ c (b ∷ ts) × Reach m c d)
      second (inl i) = inl i
      second (inr x) = inr (x.0, Memᴰ.head (Memᴰ.eq_of_singleton x.1), x.2)

      first : {d : Tag} → Memᴰ d f.order ⊎ ((c : Tag) × Memᴰ c ts × Reach m c d) → Memᴰ d o ⊎ ((c : Tag) × Memᴰ c (b ∷ ts) × Reach m c d)
      first {d} (inl i) = second (f.only d i)
      first (inr x) = inr (x.0, Memᴰ.tail x.1, x.2)

  -- the tags in turn, unless one ends it with an X
  each : {X : Type 0} (ts : List Tag) → ((b : Tag) → Memᴰ b ts → (o : List Tag) → Placed m o → X ⊎ Followed m (b ∷ []) o)
      → (o : List Tag) → Placed m o → X ⊎ Followed m ts o
  each [] f o p = inr (record { order = o; placed = p; kept = λ b i. i; named = λ b i. elim i [ ]; only = λ b i. inl i })
  each {X} (b ∷ ts) f o p = go (λ o q. each ts (λ d i. f d (Memᴰ.tail i)) o q) (f b (Memᴰ.head refl) o p)
    where
      then_rest : (g : Followed m (b ∷ []) o) → X ⊎ Followed m ts g.order → X ⊎ Followed m (b ∷ ts) o
      then_rest g (inl x) = inl x
      then_rest g (inr h) = inr (both g h)

      go : ((o : List Tag) → Placed m o → X ⊎ Followed m ts o) → X ⊎ Followed m (b ∷ []) o → X ⊎ Followed m (b ∷ ts) o
      go rest (inl x) = inl x
      go rest (inr g) = then_rest g (rest g.order g.placed)

  -- a after its inputs
  after : (a : Tag) {o : List Tag} → Followed m (tags (inputs m a)) o → Followed m (a ∷ []) o
  after a {o} f = go (mem? a f.order)
    where
      above : {b : Tag} → Memᴰ b o ⊎ ((c : Tag) × Memᴰ c (tags (inputs m a)) × Reach m c b) → Memᴰ b o ⊎ ((c : Tag) × Memᴰ c (a ∷ []) × Reach m c b)
      above (inl i) = inl i
      above (inr x) = inr (a, Memᴰ.head refl, reach_on (along here (named-wire (inputs m a) x.1)) x.2)

      last : {b : Tag} → Memᴰ b f.order ⊎ Memᴰ b (a ∷ []) → Memᴰ b o ⊎ ((c : Tag) × Memᴰ c (a ∷ []) × Reach m c b)
      last {b} (inl i) = above (f.only b i)
      last {b} (inr i) = inr (b, i, here)

      go : Dec (Memᴰ a f.order) → Followed m (a ∷ []) o
      go (yes i) = record {
        order = f.order;
        placed = f.placed;
        kept = f.kept;
        named = λ b j. Memᴰ.cast (Memᴰ.eq_of_singleton j) i;
        only = λ b j. above (f.only b j);
      }
      go (no n) = record {
        order = f.order ++ a ∷ [];
        placed = then f.placed n (λ b w. f.named b (wire-named (inputs m a) w));
        kept = λ b i. Memᴰ.append_left (a ∷ []) (f.kept b i);
        named = λ b j. Memᴰ.append_right f.order j;
        only = λ b j. last (Memᴰ.append_cases f.order j);
      }

module _ (m : Model) (t : Tag) where
  -- a tag with an input has a list
  wire_key : {a b : Tag} → Wire m a b → Memᴰ a (keys m.lists)
  wire_key {a} {b} w = find_key a m.lists (λ e. Memᴰ.not-nil (subst (λ (o : Option (List Place)). Memᴰ (some b) (get_or o [])) e w))

  -- one input of a: it is above, which closes a cycle, or is followed in its turn
  enter : {b : Tag} {above : List Tag} → Reach m t b → ((d : Tag) → Memᴰ d above → Over m d b) → Dec (Memᴰ b above)
      → {o : List Tag} → (¬ Memᴰ b above → Cyclic m t ⊎ Followed m (tags (inputs m b)) o) → Cyclic m t ⊎ Followed m (b ∷ []) o
  enter {b} r over (yes i) f = let v = over b i in inl (record { tag = b; next = v.next; reached = r; wire = v.wire; back = v.on })
  enter {b} r over (no n) {o} f = placed-after (f n)
    where
      placed-after : Cyclic m t ⊎ Followed m (tags (inputs m b)) o → Cyclic m t ⊎ Followed m (b ∷ []) o
      placed-after (inl c) = inl c
      placed-after (inr g) = inr (after b g)

  -- The inputs of a, where `above` is the way from t to a. Each tag above has a list, so that there are fewer than k more of them.
  below : (k : ℕ) (a : Tag) (above : List Tag) → length m.lists < k + length above → Reach m t a → ¬ Memᴰ a above → Once above
      → ((d : Tag) → Memᴰ d above → Memᴰ d (keys m.lists)) → ((d : Tag) → Memᴰ d above → Over m d a)
      → (o : List Tag) → Placed m o → Cyclic m t ⊎ Followed m (tags (inputs m a)) o
  below zero a above lt r new once listed over o p = absurd (omega (arith, once_le once listed, keys_length m.lists))
  below (suc k) a above lt r new once listed over o p =
      each (tags (inputs m a)) (λ b i o p.
      let w = named-wire (inputs m a) i in
      enter (along r w) (over-next w over) (mem? b (a ∷ above)) (λ n.
      below k b (a ∷ above) (omega arith) (along r w) n (one_more new once) (with_key w) (over-next w over) o p)) o p
    where
      with_key : {b : Tag} → Wire m a b → (d : Tag) → Memᴰ d (a ∷ above) → Memᴰ d (keys m.lists)
      with_key w d (Memᴰ.head e) = Memᴰ.cast e (wire_key w)
      with_key w d (Memᴰ.tail i) = listed d i

  -- a target closes a cycle or has an order
  pub cycle_or_order : Cyclic m t ⊎ ((o : List Tag) × Order m t o)
  cycle_or_order = go (below (suc (length m.lists)) t [] (omega arith) here (λ i. elim i [ ]) no_tag (λ d i. elim i [ ]) (λ d i. elim i [ ]) [] start)
    where
      from : {b : Tag} → Memᴰ b [] ⊎ ((c : Tag) × Memᴰ c (tags (inputs m t)) × Reach m c b) → (c : Tag) × Wire m t c × Reach m c b
      from (inl i) = absurd (Memᴰ.not-nil i)
      from (inr x) = (x.0, named-wire (inputs m t) x.1, x.2)

      ending : Followed m (tags (inputs m t)) [] → Cyclic m t ⊎ ((o : List Tag) × Order m t o)
      ending f = at (mem? t f.order)
        where
          reached : {b : Tag} → Memᴰ b f.order ⊎ Memᴰ b (t ∷ []) → Reach m t b
          reached {b} (inl i) = let x = from (f.only b i) in reach_on (along here x.1) x.2
          reached (inr i) = subst (Reach m t) (sym (Memᴰ.eq_of_singleton i)) here

          at : Dec (Memᴰ t f.order) → Cyclic m t ⊎ ((o : List Tag) × Order m t o)
          at (yes i) = let x = from (f.only t i) in inl (record { tag = t; next = x.0; reached = here; wire = x.1; back = x.2 })
          at (no n) =
              let p = then f.placed n (λ b w. f.named b (wire-named (inputs m t) w)) in
              inr (
                f.order ++ t ∷ [],
                record {
                  placed = p;
                  reached = λ b i. reached (Memᴰ.append_cases f.order i);
                  all = λ b r. placed-closed p (Memᴰ.append_right f.order (Memᴰ.head refl)) r;
                  last = (f.order, refl);
                },
              )

      go : Cyclic m t ⊎ Followed m (tags (inputs m t)) [] → Cyclic m t ⊎ ((o : List Tag) × Order m t o)
      go (inl c) = inl c
      go (inr f) = ending f

-- ---- a sort that stops early stops at a cycle

module _ {m : Model} (l : List Tag) (more : (a : Tag) → Memᴰ a l → (b : Tag) × Memᴰ b l × Wire m a b) where
  -- the first of them that is placed has an input among them, placed ahead of it
  never_placed : {o : List Tag} {a : Tag} → Placed m o → Memᴰ a o → ¬ Memᴰ a l
  never_placed start i j = elim i [ ]
  never_placed {a = a} (then {o = o} {a = d} p n k) i j = go (λ b x y. never_placed {a = b} p x y) (Memᴰ.append_cases o i)
    where
      go : ((b : Tag) → Memᴰ b o → ¬ Memᴰ b l) → Memᴰ a o ⊎ Memᴰ a (d ∷ []) → ⊥
      go ih (inl x) = ih a x j
      go ih (inr x) =
          let b = more a j in
          ih b.0 (k b.0 (subst (λ (y : Tag). Wire m y b.0) (Memᴰ.eq_of_singleton x) b.2)) b.1

  -- reached tags each of which has an input among them close a cycle
  pub stuck_cyclic : {t a : Tag} → Reach m t a → Memᴰ a l → Cyclic m t
  stuck_cyclic {t} {a} r i = go (cycle_or_order m a)
    where
      go : Cyclic m a ⊎ ((o : List Tag) × Order m a o) → Cyclic m t
      go (inl c) = record { tag = c.tag; next = c.next; reached = reach_on r c.reached; wire = c.wire; back = c.back }
      go (inr (o, k)) = absurd (never_placed k.placed (k.all a here) i)
