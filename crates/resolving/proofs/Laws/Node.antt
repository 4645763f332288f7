-- The node of a tag, in a record that 7 lets pass. Assumes nothing.
use Prim.Native.Nat.{ℕ, ◌+◌, ◌-◌, ◌≤◌, ◌<◌}
use native.Mathlib.Omega.{arith}
use mathlib.Core.Path.{◌≡◌, refl, sym, ap, ap₂, subst, ◌∙◌}
use mathlib.Core.Bool.{cond}
use mathlib.Core.List.{List, []}
use mathlib.Core.Option
use mathlib.Core.Option.{Option, none, some}
use lib.Dec.{T, ltb}
use lib.ListN.{length, get_or}
use borrow.Author.Tests.{lt-ltb, le-ltb}
use Rattle.std.specs.Prelude.{Option as Maybe, Some, None}
use Rattle.std.specs.Option.{MatchOption}
use Rattle.tag.specs.Tags.{Tag}
use Rattle.tag.specs.View.{bytes_of}
use Rattle.model.specs.declared.implicit_model.Model.{Model as Record}
use Rattle.model.specs.Table.{Table, find, distinct}
use Rattle.model.specs.Model.{Place, component, list, inputs}
use Rattle.model.specs.View.{component_of, list_of, components_of, lists_of, view}
use Rattle.held.specs.Search.{position, Sought}
use Rattle.held.proofs.Laws.Rows.{no_entry, no_list}
use Rattle.model.proofs.Laws.Table.{held-false}
use Rattle.held.proofs.Laws.Search.{RowAt, row_at, row, position-free}
use Rattle.held.proofs.Laws.Standing.{Standing}
use Rattle.model.proofs.Laws.Valid.{none_some}
use Rattle.held.proofs.Laws.Changes.{find_at, rows_apart}
use Rattle.resolving.specs.Slots.{node_at, node_of, NodeOf}

-- ---- a search of a table in which no tag stands twice finds the row that has the tag

found_is : (f : Maybe ℕ) → (f ≡ None → ⊥) → (i : ℕ) × (f ≡ Some i)
found_is (Some i) n = (i, refl)
found_is None n = absurd (n refl)

pub position_at : {A : Type 0} (d : Tag × A) (r : Table A) (i : ℕ) (t : Tag) → T (distinct r) → i < length r → (get_or r i d).0 ≡ t → position t 0 r ≡ Some i
position_at {A} d r i t once h e =
    let f = found_is (position t 0 r) (λ q. none_some (sym (held-false t r (position-free t 0 r q)) ∙ here)) in
    let w = row d r f.1 in
    f.1 ∙ ap Some (rows_apart d r f.0 i once w.within h (w.tag ∙ sym e))
  where
    here : find t r ≡ some (get_or r i d).1
    here = subst (λ (a : Tag). find a r ≡ some (get_or r i d).1) e (find_at d r i once h)

-- the tag of a node
abbrev pub name_of : Record → ℕ → Tag
name_of m x = cond (ltb x 64) (bytes_of (get_or m.components x no_entry).tag) (bytes_of (get_or m.lists (x - 64) no_list).tag)

module _ (m : Record) where
  pub node_hit : (a : Tag) (i : ℕ) → position a 0 (components_of m) ≡ Some i → i ≡ node_of m a
  unfolding node_of
  node_hit a i e = sym (ap (λ (z : Maybe ℕ). node_at z (position a 0 (lists_of m))) e)

  pub node-list : (a : Tag) (l : ℕ) → position a 0 (components_of m) ≡ None → position a 0 (lists_of m) ≡ Some l → 64 + l ≡ node_of m a
  unfolding node_of
  node-list a l e q = sym (ap₂ node_at e q)

  pub node_neither : (a : Tag) → position a 0 (components_of m) ≡ None → position a 0 (lists_of m) ≡ None → 192 ≡ node_of m a
  unfolding node_of
  node_neither a e q = sym (ap₂ node_at e q)

  -- the components are searched, then the lists
  pub either_node : (a : Tag) (f r : Maybe ℕ) {P : Type 0} → Sought (components_of m) 64 a f → MatchOption f P (λ i. r ≡ Some i)
      → (P → (g : Maybe ℕ) × Sought (lists_of m) 128 a g × MatchOption g (r ≡ None) (λ l. r ≡ Some (64 + l))) → NodeOf m a r
  either_node a (Some i) r s e lists = subst (NodeOf m a) (sym e) (omega (arith, s.within i refl), node_hit a i (sym s.at))
  either_node a None r s e lists = go (lists e)
    where
      go : (g : Maybe ℕ) × Sought (lists_of m) 128 a g × MatchOption g (r ≡ None) (λ l. r ≡ Some (64 + l)) → NodeOf m a r
      go (Some l, t, h) = subst (NodeOf m a) (sym h) (omega (arith, t.within l refl), node-list a l (sym s.at) (sym t.at))
      go (None, t, h) = subst (NodeOf m a) (sym h) (node_neither a (sym s.at) (sym t.at))

  -- where a tag stands, and which node that makes it
  pub data Seat (a : Tag) : Type 0 where
    component_at : (i : ℕ) → position a 0 (components_of m) ≡ Some i → node_of m a ≡ i → Seat a
    list_at : (l : ℕ) → position a 0 (components_of m) ≡ None → position a 0 (lists_of m) ≡ Some l → node_of m a ≡ 64 + l → Seat a
    nowhere : position a 0 (components_of m) ≡ None → position a 0 (lists_of m) ≡ None → node_of m a ≡ 192 → Seat a

  pub seat : (a : Tag) → Seat a
  seat a = go (position a 0 (components_of m)) refl (position a 0 (lists_of m)) refl
    where
      go : (f : Maybe ℕ) → position a 0 (components_of m) ≡ f → (g : Maybe ℕ) → position a 0 (lists_of m) ≡ g → Seat a
      go (Some i) e g q = component_at i e (sym (node_hit a i e))
      go None e (Some l) q = list_at l e q (sym (node-list a l e q))
      go None e None q = nowhere e q (sym (node_neither a e q))

  pub missing : (a : Tag) → position a 0 (components_of m) ≡ None → component (view m) a ≡ none
  unfolding view
  missing a e = held-false a (components_of m) (position-free a 0 (components_of m) e)

  pub unlisted : (a : Tag) → position a 0 (lists_of m) ≡ None → list (view m) a ≡ none
  unfolding view
  unlisted a e = held-false a (lists_of m) (position-free a 0 (lists_of m) e)

  pub entry_row : (a : Tag) (i : ℕ) → position a 0 (components_of m) ≡ Some i → RowAt component_of m.components m.component_count i a no_entry
  entry_row a i e = row_at component_of m.components m.component_count i no_entry e

  pub list_row : (a : Tag) (l : ℕ) → position a 0 (lists_of m) ≡ Some l → RowAt list_of m.lists m.list_count l a no_list
  list_row a l e = row_at list_of m.lists m.list_count l no_list e

  module _ (s : Standing m) where
    pub name-node : (a : Tag) → node_of m a < 192 → name_of m (node_of m a) ≡ a
    name-node a h = go (seat a)
      where
        go : Seat a → name_of m (node_of m a) ≡ a
        go (component_at i e q) = let r = entry_row a i e in simp (q, lt-ltb i 64 (omega (arith, r.below, s.few))) r.tag
        go (list_at l n e q) = let r = list_row a l e in let z : 64 + l - 64 ≡ l = omega arith in simp (q, le-ltb (64 + l) 64 (omega arith), z) r.tag
        go (nowhere n o q) = absurd (let z : ⊥ = omega (arith, q) in z)

    -- a tag with no node has no list
    pub node-none : (a : Tag) → 192 ≤ node_of m a → inputs (view m) a ≡ []
    node-none a h = go (seat a)
      where
        go : Seat a → inputs (view m) a ≡ []
        go (component_at i e q) = absurd (let z : ⊥ = omega (arith, q, (entry_row a i e).below, s.few) in z)
        go (list_at l n e q) = absurd (let z : ⊥ = omega (arith, q, (list_row a l e).below, s.few_lists) in z)
        go (nowhere n e q) = ap (λ (o : Option (List Place)). Option.get_or o []) (unlisted a e)

    -- a component's node is its position
    pub node-component : (a : Tag) → node_of m a < 64 → position a 0 (components_of m) ≡ Some (node_of m a)
    node-component a h = go (seat a)
      where
        go : Seat a → position a 0 (components_of m) ≡ Some (node_of m a)
        go (component_at i e q) = e ∙ ap Some (sym q)
        go (list_at l n e q) = absurd (let z : ⊥ = omega (arith, q) in z)
        go (nowhere n e q) = absurd (let z : ⊥ = omega (arith, q) in z)

    pub absent-node : (a : Tag) → component (view m) a ≡ none → 64 ≤ node_of m a
    unfolding view
    absent-node a n = go (seat a)
      where
        go : Seat a → 64 ≤ node_of m a
        go (component_at i e q) = none_some (sym n ∙ (entry_row a i e).entry)
        go (list_at l n e q) = omega (arith, q)
        go (nowhere n e q) = omega (arith, q)

    pub node-absent : (a : Tag) → 64 ≤ node_of m a → component (view m) a ≡ none
    node-absent a h = go (seat a)
      where
        go : Seat a → component (view m) a ≡ none
        go (component_at i e q) = absurd (let z : ⊥ = omega (arith, q, (entry_row a i e).below, s.few) in z)
        go (list_at l n e q) = missing a n
        go (nowhere n e q) = missing a n

    -- the node of any tag is one of the 192, or 192
    pub node-within : (a : Tag) → node_of m a ≤ 192
    node-within a = go (seat a)
      where
        go : Seat a → node_of m a ≤ 192
        go (component_at i e q) = omega (arith, q, (entry_row a i e).below, s.few)
        go (list_at l n e q) = omega (arith, q, (list_row a l e).below, s.few_lists)
        go (nowhere n e q) = omega (arith, q)

    -- a tag that has a list has a node
    pub listed-node : (a : Tag) (l : ℕ) → position a 0 (lists_of m) ≡ Some l → node_of m a < 192
    listed-node a l e = go (seat a)
      where
        go : Seat a → node_of m a < 192
        go (component_at i f q) = omega (arith, q, (entry_row a i f).below, s.few)
        go (list_at k n f q) = omega (arith, q, (list_row a k f).below, s.few_lists)
        go (nowhere n f q) = absurd (let z : ◌≡◌ {A = ℕ} 0 1 = cc in let w : ⊥ = omega arith in w)
