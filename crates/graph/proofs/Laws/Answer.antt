-- What compile answers, from what its helpers found. Assumes nothing.
use Prim.Native.Nat.{ℕ, suc, ◌-◌, ◌≤◌, ◌<◌, min}
use native.Mathlib.Omega.{arith}
use native.Mathlib.Decide.{dec_lt}
use mathlib.Core.Path.{◌≡◌, refl, sym, ap, ap₂, subst, ◌∙◌}
use mathlib.Core.Bool.{Bool, true, false, cond, not, true≢false, false≢true}
use mathlib.Core.List.Memᴰ
use mathlib.Core.List.{List, [], ◌∷◌, ◌++◌, map, Memᴰ, append-nil}
use native.Mathlib.Nat.{min-eq_left, min-eq_right}
use mathlib.Core.Option
use mathlib.Core.Option.{Option, none, some}
use lib.Dec.{T, ltb}
use lib.ListN.{length, get_or, take, drop, replicate, get_or-map, length-append, length-drop, length-replicate}
use lib.Seq.{get_or-take, length-take-le, take_all, take_at}
use borrow.Author.Tests.{lt-ltb, ltb-true}
use Rattle.std.specs.Option.{option_map, ok_or}
use Rattle.std.specs.Prelude.{Option as Maybe, Some, None, Result, Ok, Err, IsErrAnd}
use Rattle.tag.specs.Tags.{Tag, before, overlong, empty}
use Rattle.tag.specs.View.{bytes_of}
use Rattle.tag.proofs.Laws.Order.{before_irrefl}
use Rattle.model.specs.declared.implicit_model.InputList.{InputList}
use Rattle.model.specs.declared.implicit_model.Model.{Model as Record}
use Rattle.model.specs.declared.model_error.Refusal.{Refusal}
use Rattle.model.specs.Answer.{refusal_of}
use Rattle.model.specs.Edit.{Answer, done, made, refused}
use Rattle.model.specs.Model.{Place, inputs, valid}
use Rattle.model.specs.Walk.{gap}
use Rattle.model.specs.Form.{Wire, Reach, here, along, Cyclic, Absent, Gapped, Compiles, Refuses, long, cyclic, absent, gapped, Order, Compiling, stopped, ordered, Compiled, order, refusal}
use Rattle.model.specs.View.{place_of, rows, component_of, components_of, lists_of, view, passes}
use Rattle.held.specs.Search.{position}
use Rattle.model.proofs.Laws.Bool.{T→true, true→T}
use Rattle.held.proofs.Laws.Rows.{no_entry, no_list, rows_at}
use Rattle.held.proofs.Laws.Standing.{Standing, standing, passes-valid}
use Rattle.tag.specs.declared.Tag.{Tag as Label}
use Rattle.lacking.specs.declared.least.Gap.{Gap}
use Rattle.graph.specs.declared.computation_graph.Graph.{Graph}
use Rattle.nodes.specs.declared.Wire.{Wire as Edge}
use Rattle.nodes.specs.declared.Wire.TheVariants.{Past}
use Rattle.nodes.specs.Nodes.{LaysOut, Ordered, ◌∈◌, Circular, IsOrder, inputs_of, IsReach, Marks, wires_of, filled_of, all_filled, whole_of}
use Rattle.resolving.specs.declared.slots.ListWires.{ListWires}
use Rattle.resolving.specs.Slots.{place_want, node_of, NodeOf, settled, Resolved, owner_of}
use Rattle.graph.specs.Wiring.{Wired}
use Rattle.lacking.specs.Least.{marked_at, LeastIs, LeastOf, Shows, own, placed, AbsentShown, GapShown, gap_of}
use Rattle.graph.specs.Compile.{tag_at, positions_of, CompilesAs, Filled, Placing, Formed}
use Rattle.nodes.proofs.Laws.Order.{laid-length, order-acyclic}
use Rattle.nodes.proofs.Laws.Wires.{up_to, length_up_to, mem_up_to, to_none, each_filled}
use Rattle.resolving.proofs.Laws.Node.{name_of, Seat, component_at, list_at, nowhere, seat, name-node, node-none, node-component, absent-node, node-absent, listed-node, list_row, entry_row, unlisted}
use Rattle.resolving.proofs.Laws.Places.{want_names, names_want, gap_want}
use Rattle.graph.proofs.Laws.Names.{settled_row, settled_at, in_settled, Drawn, node-of, wired-node, reach_down, reach_up, cyclic_down, cyclic_up, order_up}
use Rattle.resolving.proofs.Laws.Slots.{owned_by, listed_at, inputs_short, inputs_at, tag_of, in_table}
use Rattle.graph.proofs.Laws.Drawing.{wired_front, drawn}

-- ---- what is copied

pub filled : (xs new : List ℕ) (n : ℕ) → n ≡ min (length xs) 64 → new ≡ take n xs → Filled xs (new ++ drop n (replicate 64 0))
filled xs new n e f = record { r_length = size; same = by (dec_lt 64 (length xs)) }
  where
    front : length new ≡ n
    front = ap length f ∙ length-take-le n xs (omega (arith, e))

    size : length (new ++ drop n (replicate 64 0)) ≡ 64
    size = omega (arith, length-append new (drop n (replicate 64 0)), length-drop n (replicate {A = ℕ} 64 0), length-replicate {A = ℕ} 64 0, front, e)

    by : Dec (64 < length xs) → take (length xs) (new ++ drop n (replicate 64 0)) ≡ take 64 xs
    by (yes h) = let k : n ≡ 64 = e ∙ min-eq_right (omega arith) in
        take_all (length xs) (new ++ drop n (replicate 64 0)) (omega (arith, size)) ∙ ap (λ (j : ℕ). new ++ drop j (replicate 64 0)) k ∙ append-nil new ∙ f ∙ ap (λ (j : ℕ). take j xs) k
    by (no h) = let k : n ≡ length xs = e ∙ min-eq_left (omega arith) in
        ap (λ (j : ℕ). take j (new ++ drop n (replicate 64 0))) (sym k) ∙ take_at new (drop n (replicate 64 0)) n front ∙ f ∙ ap (λ (j : ℕ). take j xs) k ∙ take_all (length xs) xs (omega arith) ∙ sym (take_all 64 xs (omega arith))

-- ---- the first gap of a list

gap_there : (l : List Place) (k : ℕ) {i : ℕ} → gap k l ≡ some i → Memᴰ none l
unfolding gap
gap_there [] k e = absurd (let z : ◌≡◌ {A = ℕ} 0 1 = cc in let w : ⊥ = omega arith in w)
gap_there (none ∷ l) k e = Memᴰ.head refl
gap_there (some a ∷ l) k e = Memᴰ.tail (gap_there l (suc k) e)

there_gap : (l : List Place) (k : ℕ) → Memᴰ none l → (i : ℕ) × (gap k l ≡ some i)
unfolding gap
there_gap [] k h = elim h [ ]
there_gap (none ∷ l) k h = (k, refl)
there_gap (some a ∷ l) k (Memᴰ.head e) = absurd (let z : ◌≡◌ {A = ℕ} 0 1 = cc in let w : ⊥ = omega arith in w)
there_gap (some a ∷ l) k (Memᴰ.tail h) = there_gap l (suc k) h

-- ---- a refusal

module _ (m : Record) (t : Tag) where
  pub stops : {n i : ℕ} {u : Tag} → passes m ≡ true → Refuses (view m) t n u i → (r : Refusal) → refusal_of r ≡ refused n u i → CompilesAs m t (Err r)
  stops p f r e = record {
    fitting = λ q. subst (λ (z : Compiling). Compiled (view m) t z []) (sym (ap ending e)) (refusal f);
    unfit = λ q. absurd (true≢false (sym p ∙ q));
  }
    where
      ending : Answer → Compiling
      ending (refused n u i) = stopped n u i
      ending done = ordered
      ending (made u) = ordered

  -- handed on by `?`
  pub too_long : (a : Result Graph Refusal) → IsErrAnd a (λ x. refusal_of x ≡ refused 1 empty 0) → passes m ≡ true → overlong t ≡ true → CompilesAs m t a
  too_long (Ok g) h p e = absurd h
  too_long (Err x) h p e = stops p (long (passes-valid m p) (true→T (overlong t) e)) x h

  -- handed on by `?`, where `ok_or` had nothing
  pub unmade : {n i : ℕ} {u : Tag} {A : Type 0} → passes m ≡ true → Refuses (view m) t n u i → (o : Maybe A) (d : Refusal) {e : Refusal} → Err e ≡ ok_or o d → refusal_of d ≡ refused n u i → (a : Result Graph Refusal) → IsErrAnd a (λ x. x ≡ e) → CompilesAs m t a
  unmade p f o d h q (Ok g) k = absurd k
  unmade p f None d {e} h q (Err x) k = let same : e ≡ d = grind arith in stops p f x (ap refusal_of (k ∙ same) ∙ q)
  unmade p f (Some y) d h q (Err x) k = absurd (grind arith)

-- ---- the target's form, where 7 and 1 let it pass

module _ (m : Record) (pass : passes m ≡ true) (t : Tag) (size : overlong t ≡ false) where
  fit : Standing m
  fit = standing m pass

  sound : T (valid (view m))
  sound = passes-valid m pass

  short : T (not (overlong t))
  short = subst (λ (b : Bool). T (not b)) (sym size) tt

  -- a target with neither a component nor a list
  module _ (nowhere-at : 192 ≤ node_of m t) where
    alone : (b : Tag) → Reach (view m) t b → b ≡ t
    alone b here = refl
    alone b (along {a = c} r k) = absurd (Memᴰ.not-nil (subst (λ (l : List Place). Memᴰ (some b) l) (node-none m fit t nowhere-at) (subst (λ (z : Tag). Wire (view m) z b) (alone c r) k)))

    pub says_unknown : Refuses (view m) t 12 t 0
    says_unknown = absent sound short
        (λ c. Memᴰ.not-nil (subst (λ (l : List Place). Memᴰ (some c.next) l) (node-none m fit t nowhere-at) (subst (λ (z : Tag). Wire (view m) z c.next) (alone c.tag c.reached) c.wire)))
        ((here, node-absent m fit t (omega arith)), λ b h a. true≢false (sym (T→true _ (subst (λ (z : Tag). T (before z t)) (alone b a.0) h)) ∙ before_irrefl t))

  module _ (longs : min m.list_count (length m.lists) ≡ min m.list_count 128) (found : List ListWires) (r : Resolved no_list m found) (n : ℕ) (live : n ≡ min m.list_count 128) (w : List (List Edge)) (g : Wired found n w) (small : node_of m t < 192) where
    d : Drawn m w
    d = drawn m pass longs found r n live w g

    pub says-cyclic : Circular (inputs_of w) (node_of m t) → Refuses (view m) t 14 t 0
    says-cyclic c = cyclic sound short (cyclic_down d t small c)

    -- ---- marks

    module _ (line : List ℕ) (seen : List Bool) (reach : IsReach w (node_of m t) line) (marks : Marks line seen) where
      mark : (a : Tag) → Reach (view m) t a → node_of m a < 192 → get_or seen (node_of m a) false ≡ true
      mark a q h = (marks.marks (node_of m a) h).1 (reach.all (node_of m a) (reach_up d t small a q h))

      unmark : (a : Tag) → node_of m a < 192 → get_or seen (node_of m a) false ≡ true → Reach (view m) t a
      unmark a h e = subst (Reach (view m) t) (name-node m fit a h) (reach_down d t small (node_of m a) (reach.only (node_of m a) ((marks.marks (node_of m a) h).0 e))).1

      -- a marked list's tag is reached, and a reached tag's list is marked
      list-reached : (l : ℕ) → l < min m.list_count 128 → marked_at seen (owner_of found l) ≡ true → Reach (view m) t (tag_of m pass longs found r l)
      list-reached l h e =
          let a = tag_of m pass longs found r l in
          unmark a (listed-node m fit a l (listed_at m pass longs found r l h)) (subst (λ (z : Maybe ℕ). marked_at seen z ≡ true) (owned_by m pass longs found r l h) e)

      record Kept (a : Tag) : Type 0 where
        pub at : ℕ
        pub within : at < min m.list_count 128
        pub stands : position a 0 (lists_of m) ≡ Some at
        pub tag : tag_of m pass longs found r at ≡ a
        pub marked : marked_at seen (owner_of found at) ≡ true

      kept_at : (a : Tag) → Reach (view m) t a → (l : ℕ) → position a 0 (lists_of m) ≡ Some l → Kept a
      kept_at a q l e =
          let row = list_row m a l e in
          let h : l < min m.list_count 128 = omega (arith, row.below, fit.few_lists) in
          let o : owner_of found l ≡ Some (node_of m a) = owned_by m pass longs found r l h ∙ ap Some (ap (node_of m) row.tag) in
          record { at = l; within = h; stands = e; tag = row.tag; marked = ap (marked_at seen) o ∙ mark a q (listed-node m fit a l e) }

      kept : (a : Tag) → Reach (view m) t a → (p : Place) → Memᴰ p (inputs (view m) a) → Kept a
      kept a q p k = go (position a 0 (lists_of m)) refl
        where
          go : (f : Maybe ℕ) → position a 0 (lists_of m) ≡ f → Kept a
          go (Some l) e = kept_at a q l e
          go None e = absurd (Memᴰ.not-nil (subst (λ (l : List Place). Memᴰ p l) (ap (λ (o : Option (List Place)). Option.get_or o []) (unlisted m a e)) k))

      -- ---- 12

      shown-absent : (a : Tag) → AbsentShown no_list m found seen a → Absent (view m) t a
      shown-absent a h = (go h.shows, node-absent m fit a h.absent)
        where
          to : Reach (view m) t (tag_of m pass longs found r h.list)
          to = list-reached h.list h.below h.marked

          go : Shows (get_or m.lists h.list no_list) a → Reach (view m) t a
          go (own e) = subst (Reach (view m) t) e to
          go (placed p hp e) = along to (subst (λ (z : List Place). Memᴰ (some a) z) (sym (inputs_at m pass longs found r (tag_of m pass longs found r h.list) h.list (listed_at m pass longs found r h.list h.below)))
              (want_names (rows place_of (get_or m.lists h.list no_list).count (get_or m.lists h.list no_list).places) p e))

      -- a marked list shows it
      show : (a b : Tag) (k : Kept b) → Shows (get_or m.lists k.at no_list) a → 64 ≤ node_of m a → AbsentShown no_list m found seen a
      show a b k s h = record { list = k.at; below = k.within; marked = k.marked; shows = s; absent = h }

      absent-shown : (a : Tag) → Absent (view m) t a → AbsentShown no_list m found seen a
      absent-shown a (q, n) = go q (absent-node m fit a n)
        where
          go : {b : Tag} → Reach (view m) t b → 64 ≤ node_of m b → AbsentShown no_list m found seen b
          go here h = mine (seat m t)
            where
              mine : Seat m t → AbsentShown no_list m found seen t
              mine (component_at i e f) = absurd (let z : ⊥ = omega (arith, f, (entry_row m t i e).below, fit.few) in z)
              mine (list_at l x e f) = let k = kept_at t here l e in show t t k (own k.tag) h
              mine (nowhere x e f) = absurd (let z : ⊥ = omega (arith, f) in z)
          go {b} (along {a = c} p v) h =
              let k = kept c p (some b) v in
              let (i, lt, e) = names_want (inputs (view m) c) v in
              show b c k (placed i (omega (arith, inputs_short m pass c)) (ap (λ (z : List Place). place_want z i) (sym (inputs_at m pass longs found r c k.at k.stands)) ∙ e)) h

      -- ---- 13

      shown_gap : (a : Tag) (i : ℕ) → GapShown no_list m found seen (a, i) → Gapped (view m) t a × (gap 0 (inputs (view m) a) ≡ some i)
      shown_gap a i h =
          let f : tag_of m pass longs found r h.list ≡ a = h.tag in
          let e : gap 0 (inputs (view m) a) ≡ some i = ap (gap 0) (inputs_at m pass longs found r a h.list (subst (λ (z : Tag). position z 0 (lists_of m) ≡ Some h.list) f (listed_at m pass longs found r h.list h.below))) ∙ h.gap in
          ((subst (Reach (view m) t) f (list-reached h.list h.below h.marked), gap_there (inputs (view m) a) 0 e), e)

      gap_shown : (a : Tag) → Gapped (view m) t a → (i : ℕ) × GapShown no_list m found seen (a, i)
      gap_shown a (q, h) =
          let k = kept a q none h in
          let (i, e) = there_gap (inputs (view m) a) 0 h in
          (i, record { list = k.at; below = k.within; marked = k.marked; tag = k.tag; gap = ap (gap 0) (sym (inputs_at m pass longs found r a k.at k.stands)) ∙ e })

      -- ---- where every reached node is whole, nothing is absent and nothing is gapped

      module _ (whole : (x : ℕ) → x ∈ line → whole_of w x ≡ true) where
        parts : (x : ℕ) → x ∈ line → (x < 64) × ((e : Edge) → e ∈ wires_of w x → filled_of e ≡ true)
        parts x k = go (ltb x 64) refl (whole x k)
          where
            go : (b : Bool) → ltb x 64 ≡ b → cond b (all_filled (wires_of w x)) false ≡ true → (x < 64) × ((e : Edge) → e ∈ wires_of w x → filled_of e ≡ true)
            go false e f = absurd (false≢true f)
            go true e f = (ltb-true x 64 e, each_filled (wires_of w x) f)

        -- the node of a reached tag that has one
        in_line : (a : Tag) → Reach (view m) t a → node_of m a < 192 → (node_of m a < 64) × ((p : ℕ) → p < 3 → filled_of (settled m (place_want (inputs (view m) a) p)) ≡ true)
        in_line a q h =
            let (s, f) = parts (node_of m a) (reach.all (node_of m a) (reach_up d t small a q h)) in
            let row : wires_of w (node_of m a) ≡ settled_row m (inputs (view m) a) = d.wires (node_of m a) (node-of d a h) ∙ ap (λ (z : Tag). settled_row m (inputs (view m) z)) (name-node m fit a h) in
            (s, λ p hp. f (settled m (place_want (inputs (view m) a) p)) (subst (λ (l : List Edge). settled m (place_want (inputs (view m) a) p) ∈ l) (sym row) (in_settled m (inputs (view m) a) p hp)))

        pub whole_present : (a : Tag) → ¬ Absent (view m) t a
        whole_present a (q, n) = go q (absent-node m fit a n)
          where
            go : {b : Tag} → Reach (view m) t b → 64 ≤ node_of m b → ⊥
            go here h = let s = (in_line t here small).0 in omega arith
            go {b} (along {a = c} r k) h = by (dec_lt (node_of m b) 192)
              where
                by : Dec (node_of m b < 192) → ⊥
                by (yes lt) = let s = (in_line b (along r k) lt).0 in omega arith
                by (no nlt) =
                    let (p, lt, e) = names_want (inputs (view m) c) k in
                    let f = (in_line c r (wired-node d c b k)).1 p (omega (arith, inputs_short m pass c)) in
                    false≢true (sym (ap filled_of (ap (settled m) e ∙ to_none (node_of m b) (omega arith))) ∙ f)

        pub whole_assigned : (a : Tag) → ¬ Gapped (view m) t a
        whole_assigned a (q, n) =
            let (p, lt, e) = gap_want (inputs (view m) a) n in
            let k = kept a q none n in
            let f = (in_line a q (listed-node m fit a k.at k.stands)).1 p (omega (arith, inputs_short m pass a)) in
            false≢true (sym (ap filled_of (ap (settled m) e)) ∙ f)

      -- ---- the answers

      module _ (xs : List ℕ) (o : IsOrder (inputs_of w) (node_of m t) xs) where
        acyclic : ¬ Cyclic (view m) t
        acyclic c = order-acyclic (inputs_of w) (node_of m t) xs o (cyclic_up d t small c)

        pub says-absent : (b : Label) → LeastIs (λ a. a) (AbsentShown no_list m found seen) (bytes_of b) → Refuses (view m) t 12 (bytes_of b) 0
        says-absent b l = absent sound short acyclic (shown-absent _ l.found, λ a h n. true≢false (sym (T→true _ h) ∙ l.least a (absent-shown a n)))

        module _ (none-absent : LeastOf (λ a. a) (AbsentShown no_list m found seen) None) where
          pub absents_none : (a : Tag) → ¬ Absent (view m) t a
          absents_none a n = none-absent a (absent-shown a n)

          pub says-gapped : (c : Gap) → LeastIs (λ g. g.0) (GapShown no_list m found seen) (gap_of c) → Refuses (view m) t 13 (bytes_of c.tag) c.index
          says-gapped c l =
              let (g, f) = shown_gap _ _ l.found in
              gapped sound short acyclic absents_none (g, λ a h n. let (i, s) = gap_shown a n in true≢false (sym (T→true _ h) ∙ l.least (a, i) s)) f

          pub gaps_none : LeastOf (λ g. g.0) (GapShown no_list m found seen) None → (a : Tag) → ¬ Gapped (view m) t a
          gaps_none e a n = let (i, s) = gap_shown a n in e (a, i) s

      -- ---- an order, where nothing is absent and nothing is gapped

      module _ (xs : List ℕ) (o : IsOrder (inputs_of w) (node_of m t) xs) (present : (a : Tag) → ¬ Absent (view m) t a) (assigned : (a : Tag) → ¬ Gapped (view m) t a) where
        -- a reached tag has a component
        component-node : (a : Tag) → Reach (view m) t a → node_of m a < 64
        component-node a q = go (dec_lt (node_of m a) 64)
          where
            go : Dec (node_of m a < 64) → node_of m a < 64
            go (yes h) = h
            go (no n) = absurd (present a (q, node-absent m fit a (omega arith)))

        -- so an entry of the order is a component's position, and its tag the one held there
        in_order : (x : ℕ) → x ∈ xs → (x < 64) × (position (name_of m x) 0 (components_of m) ≡ Some x)
        in_order x k =
            let (nx, q) = reach_down d t small x (o.only x k) in
            let h : node_of m (name_of m x) < 64 = component-node (name_of m x) q in
            (subst (λ (z : ℕ). z < 64) nx.1 h, node-component m fit (name_of m x) h ∙ ap Some nx.1)

        entry-held : (x : ℕ) → x ∈ xs → x < length (components_of m)
        entry-held x k = (entry_row m (name_of m x) x (in_order x k).1).within

        entry_tag : (x : ℕ) → x ∈ xs → tag_at m x ≡ name_of m x
        unfolding bytes_of
        entry_tag x k =
            get_or-map (λ e. e.0) (components_of m) x (component_of no_entry)
            ∙ ap (λ e. e.0) (rows_at component_of m.components m.component_count x no_entry (entry-held x k))
            ∙ ap (λ (v : Bool). cond v (bytes_of (get_or m.components x no_entry).tag) (bytes_of (get_or m.lists (x - 64) no_list).tag)) (sym (lt-ltb x 64 (in_order x k).0))

        map_same : (l : List ℕ) → ((x : ℕ) → x ∈ l → x ∈ xs) → map (tag_at m) l ≡ map (name_of m) l
        map_same [] h = refl
        map_same (x ∷ l) h = ap₂ (λ (u : Tag) (v : List Tag). u ∷ v) (entry_tag x (h x (Memᴰ.head refl))) (map_same l (λ y k. h y (Memᴰ.tail k)))

        few : length xs ≤ 64
        few = omega (arith, laid-length (inputs_of w) xs o.laid (up_to 64) (λ x k. mem_up_to 64 x (in_order x k).0), length_up_to 64)

        form : Compiles (view m) t
        form = record { acyclic = λ c. order-acyclic (inputs_of w) (node_of m t) xs o (cyclic_up d t small c); present = present; assigned = assigned }

        module _ (graph : Graph) (made : Placing xs w graph) where
          same : positions_of graph ≡ xs
          same = ap (λ (z : ℕ). take z graph.order) made.count ∙ made.order.same ∙ take_all 64 xs few

          entry : (x : ℕ) → x < 64 → get_or graph.inputs x [] ≡ wires_of w x
          entry x h = sym (get_or-take 64 graph.inputs x [] h) ∙ ap (λ (l : List (List Edge)). get_or l x []) made.inputs.same ∙ get_or-take 64 w x [] h

          pub says-ordered : CompilesAs m t (Ok graph)
          says-ordered = record {
            passing = pass;
            compiled = order sound short form (subst (λ (l : List ℕ). Order (view m) t (map (tag_at m) l)) (sym same) (subst (Order (view m) t) (sym (map_same xs (λ x i. i))) (order_up d t small (λ a q. omega (arith, component-node a q)) xs o)));
            counted = ap length same ∙ sym made.count;
            few = omega (arith, made.count, few);
            held = λ x i. entry-held x (subst (λ (l : List ℕ). x ∈ l) same i);
            wired = λ x p i hp. let j : x ∈ xs = subst (λ (l : List ℕ). x ∈ l) same i in
                ap (λ (l : List Edge). get_or l p Past) (entry x (in_order x j).0 ∙ d.wires x (reach_down d t small x (o.only x j)).0) ∙ settled_at m (inputs (view m) (name_of m x)) p hp ∙ ap (λ (z : Tag). settled m (place_want (inputs (view m) z) p)) (sym (entry_tag x j));
          }

-- ---- a target with a node, its lists resolved, its wires drawn and its reach laid out

module _ (m : Record) (t : Tag) (pass : passes m ≡ true) (size : overlong t ≡ false) {found : List ListWires} (r : Resolved no_list m found)
    {live : List InputList} (is_live : live ≡ take m.list_count m.lists) (bound : length live ≡ min m.list_count 128) {w : List (List Edge)} (cut : Wired (take (length live) found) (length (take (length live) found)) w)
    {o : Maybe ℕ} {x : ℕ} (at : o ≡ Some x) (node : NodeOf m t o) {reach : List ℕ} {order : Maybe (List ℕ)} {whole : Bool} (laid : x < 192 → LaysOut w x reach order whole) where
  longs : min m.list_count (length m.lists) ≡ min m.list_count 128
  longs = in_table m.lists m.list_count is_live bound

  g : Wired found (length live) w
  g = wired_front found (length live) (omega (arith, bound, r.found-length)) w cut

  its_node : NodeOf m t (Some x)
  its_node = subst (NodeOf m t) at node

  small-node : node_of m t < 192
  small-node = subst (λ (z : ℕ). z < 192) its_node.1 its_node.0

  laid_out : LaysOut w (node_of m t) reach order whole
  laid_out = subst (λ (z : ℕ). LaysOut w z reach order whole) its_node.1 (laid its_node.0)

  pub cyclic_of : order ≡ None → Refuses (view m) t 14 t 0
  cyclic_of e = says-cyclic m pass t size longs found r (length live) bound w g small-node (subst (Ordered w (node_of m t)) e laid_out.laid)

  pub form_of : {xs nodes : List ℕ} {seen : List Bool} → order ≡ Some xs → nodes ≡ xs → Marks reach seen → Formed no_list m t found w nodes whole seen
  form_of e q marked = record {
    fits = pass;
    short = size;
    live = longs;
    node = small-node;
    resolved = r;
    wires = subst (λ (z : ℕ). Wired found z w) bound g;
    reach = reach;
    laid = subst (λ (z : Maybe (List ℕ)). LaysOut w (node_of m t) reach z whole) (e ∙ ap (λ (k : List ℕ). Some k) (sym q)) laid_out;
    marked = marked;
  }

-- ---- the same of a form

module _ (m : Record) (t : Tag) (found : List ListWires) (w : List (List Edge)) (xs : List ℕ) (whole : Bool) (seen : List Bool) (f : Formed no_list m t found w xs whole seen) where
  placing : ((a : Tag) → ¬ Absent (view m) t a) → ((a : Tag) → ¬ Gapped (view m) t a) → (g : Graph) → Placing xs w g → CompilesAs m t (Ok g)
  placing present assigned = says-ordered m f.fits t f.short f.live found f.resolved (min m.list_count 128) refl w f.wires f.node f.reach seen f.laid.reached f.marked xs f.laid.laid present assigned

  pub formed_whole : whole ≡ true → (g : Graph) → Placing xs w g → CompilesAs m t (Ok g)
  formed_whole e = placing
      (whole_present m f.fits t f.short f.live found f.resolved (min m.list_count 128) refl w f.wires f.node f.reach seen f.laid.reached f.marked (f.laid.test e))
      (whole_assigned m f.fits t f.short f.live found f.resolved (min m.list_count 128) refl w f.wires f.node f.reach seen f.laid.reached f.marked (f.laid.test e))

  abbrev AbsentLeast : Maybe Label → Type 0
  AbsentLeast a = LeastOf (λ b. b) (AbsentShown no_list m found seen) (option_map bytes_of a)

  abbrev GapLeast : Maybe Gap → Type 0
  GapLeast g = LeastOf (λ b. b.0) (GapShown no_list m found seen) (option_map gap_of g)

  module _ {a : Maybe Label} (least : AbsentLeast a) where
    pub formed_absent : (b : Label) → a ≡ Some b → (r : Refusal) → refusal_of r ≡ refused 12 (bytes_of b) 0 → CompilesAs m t (Err r)
    formed_absent b e = stops m t f.fits
        (says-absent m f.fits t f.short f.live found f.resolved (min m.list_count 128) refl w f.wires f.node f.reach seen f.laid.reached f.marked xs f.laid.laid b (subst AbsentLeast e least))

    module _ (present : a ≡ None) where
      none-absent : AbsentLeast None
      none-absent = subst AbsentLeast present least

      module _ {g : Maybe Gap} (lowest : GapLeast g) where
        pub formed_gapped : (c : Gap) → g ≡ Some c → (r : Refusal) → refusal_of r ≡ refused 13 (bytes_of c.tag) c.index → CompilesAs m t (Err r)
        formed_gapped c e = stops m t f.fits
            (says-gapped m f.fits t f.short f.live found f.resolved (min m.list_count 128) refl w f.wires f.node f.reach seen f.laid.reached f.marked xs f.laid.laid none-absent c (subst GapLeast e lowest))

        pub formed_full : g ≡ None → (o : Graph) → Placing xs w o → CompilesAs m t (Ok o)
        formed_full e = placing
            (absents_none m f.fits t f.short f.live found f.resolved (min m.list_count 128) refl w f.wires f.node f.reach seen f.laid.reached f.marked xs f.laid.laid none-absent)
            (gaps_none m f.fits t f.short f.live found f.resolved (min m.list_count 128) refl w f.wires f.node f.reach seen f.laid.reached f.marked xs f.laid.laid none-absent (subst GapLeast e lowest))
