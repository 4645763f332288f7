-- What the marked lists show, list by list: tags without a component, and gaps. Assumes nothing.
use Prim.Native.Nat.{ℕ, suc, ◌+◌, ◌≤◌, ◌<◌, min}
use native.Mathlib.Numerals.{add-one}
use native.Mathlib.Omega.{arith}
use native.Mathlib.Decide.{dec_lt}
use mathlib.Core.Path.{◌≡◌, refl, sym, ap, subst, ◌∙◌}
use mathlib.Core.Logic.{⊎_elim}
use mathlib.Core.Bool.{Bool, true, false, cond, not}
use mathlib.Core.List.Memᴰ
use mathlib.Core.List.{List, [], ◌∷◌, Memᴰ}
use mathlib.Core.Option.{Option, some, none}
use lib.Dec.{ltb}
use lib.ListN.{length, get_or, take, length-map}
use lib.Seq.{get_or-take}
use borrow.Author.Tests.{ltb-false, lt-ltb, le-ltb}
use Rattle.std.specs.Prelude.{Option as Maybe, Some, None}
use Rattle.std.specs.Bool.{then_some}
use Rattle.std.specs.Option.{option_map, option_to_list}
use Rattle.std.specs.List.{filter, filter_map, zip, position, position_from}
use Rattle.std.proofs.lemmas.Iterator.Adapters.{position_from-zero}
use Rattle.tag.specs.Tags.{Tag, before}
use Rattle.tag.specs.View.{bytes_of}
use Rattle.tag.specs.declared.Tag.{Tag as Label}
use Rattle.tag.proofs.Laws.Order.{before_irrefl}
use Rattle.model.specs.declared.implicit_model.InputList.{InputList}
use Rattle.model.specs.declared.implicit_model.Model.{Model as Record}
use Rattle.model.specs.Model.{Place}
use Rattle.model.specs.View.{place_of, rows, passes}
use Rattle.model.specs.Walk.{gap}
use Rattle.model.proofs.Laws.Valid.{some_some, none_some}
use Rattle.held.proofs.Laws.Rows.{no_list}
use Rattle.lacking.specs.declared.least.Gap.{Gap as Found}
use Rattle.nodes.specs.declared.Wire.{Wire}
use Rattle.nodes.specs.declared.Wire.TheVariants.{To, Absent, Past}
use Rattle.nodes.specs.Nodes.{◌∈◌, target, wire_to}
use Rattle.resolving.specs.declared.slots.ListWires.{ListWires}
use Rattle.resolving.specs.Slots.{look, place_want, node_of, settled, Settled, no_wires, Resolved}
use Rattle.resolving.proofs.Laws.Places.{place-named, want-named}
use Rattle.resolving.proofs.Laws.Slots.{in_table, places-short}
use Rattle.lacking.specs.Least.{marked_at, component_at, gap_at, LeastOf, Shows, own, placed, AbsentShown, GapShown, gap_of, least, absents, gap_in}
use Rattle.lacking.proofs.Laws.Least.{not_ahead, least_of, chosen, of_chosen}

-- ---- from the least of a list to the least of what its members show

pub least_shown : {A B : Type 0} (view : A → B) (tag : B → Tag) (all : List A) (R : B → Type 0) (r : Maybe A) → LeastOf (λ a. tag (view a)) (λ a. a ∈ all) r → ((a : A) → a ∈ all → R (view a))
    → ((b : B) → R b → (a : A) × (a ∈ all) × (before (tag b) (tag (view a)) ≡ false)) → LeastOf tag R (option_map view r)
least_shown view tag all R None g shows back = λ b h. let (a, i, e) = back b h in g a i
least_shown view tag all R (Some m) g shows back = record { found = shows m g.found; least = λ b h. let (a, i, e) = back b h in not_ahead (tag b) (tag (view a)) (tag (view m)) e (g.least a i) }

-- ---- wires

component_to : (x : ℕ) → component_at (wire_to x) ≡ ltb x 64
component_to x = go (dec_lt x 192)
  where
    go : Dec (x < 192) → component_at (wire_to x) ≡ ltb x 64
    go (yes h) = simp (lt-ltb x 192 h)
    go (no n) = simp (le-ltb x 192 (omega arith), le-ltb x 64 (omega arith))

to_no_gap : (x : ℕ) → gap_at (wire_to x) ≡ false
to_no_gap x = go (ltb x 192)
  where
    go : (v : Bool) → gap_at (cond v (To x) Absent) ≡ false
    go true = refl
    go false = refl

no_component : (x : ℕ) → component_at (wire_to x) ≡ false → 64 ≤ x
no_component x e = ltb-false _ _ (sym (component_to x) ∙ e)

to_no_component : (x : ℕ) → 64 ≤ x → component_at (wire_to x) ≡ false
to_no_component x h = component_to x ∙ le-ltb x 64 h

not_true : (b : Bool) → not b ≡ true → b ≡ false
not_true true e = sym e
not_true false e = refl

-- ---- one list

module _ (m : Record) (l : InputList) (w : ListWires) (s : Settled m l w) (short : length (rows place_of l.count l.places) ≤ 3) where
  abbrev live : List (Maybe Label)
  live = take l.count l.places

  live_short : length live ≤ 3
  unfolding rows
  live_short = omega (arith, short, length-map live place_of)

  absents_show : (a : Label) → a ∈ absents l w → Shows l (bytes_of a) × (64 ≤ node_of m (bytes_of a))
  absents_show a i = ⊎_elim (λ k. mine (component_at w.own) refl k) theirs (Memᴰ.append_cases (option_to_list (then_some (not (component_at w.own)) l.tag)) i)
    where
      mine : (b : Bool) → component_at w.own ≡ b → a ∈ option_to_list (then_some (not b) l.tag) → Shows l (bytes_of a) × (64 ≤ node_of m (bytes_of a))
      mine true e k = absurd (Memᴰ.not-nil k)
      mine false e k = ⊎_elim (λ q. subst (λ (z : Label). Shows l (bytes_of z) × (64 ≤ node_of m (bytes_of z))) (sym q) (own refl, no_component _ (sym (ap component_at s.own) ∙ e))) (λ n. absurd (Memᴰ.not-nil n)) (Memᴰ.cases_cons k)

      theirs : a ∈ filter_map (λ x. x.0) (filter (λ x. not (component_at x.1)) (zip live w.places)) → Shows l (bytes_of a) × (64 ≤ node_of m (bytes_of a))
      theirs k =
          let c = chosen (λ (x : Maybe Label × Wire). not (component_at x.1)) (λ x. x.0) (None, Past) live w.places a k in
          let h : c.place < 3 = omega (arith, c.first, live_short) in
          let q : place_want (rows place_of l.count l.places) c.place ≡ look (bytes_of a) = place-named l c.place refl c.first a (sym c.gives) in
          (placed c.place h q, no_component _ (sym (ap component_at (s.each c.place h ∙ ap (settled m) q)) ∙ not_true _ c.kept))

  show_absents : (b : Tag) → Shows l b → 64 ≤ node_of m b → (a : Label) × (a ∈ absents l w) × (bytes_of a ≡ b)
  show_absents b (own e) h =
      let q : component_at w.own ≡ false = ap component_at s.own ∙ to_no_component _ (subst (λ (z : Tag). 64 ≤ node_of m z) (sym e) h) in
      (l.tag, Memᴰ.append_left _ (subst (λ (c : Bool). l.tag ∈ option_to_list (then_some (not c) l.tag)) (sym q) (Memᴰ.head refl)), e)
  show_absents b (placed p hp e) h =
      let (a, f, q, g) = want-named l p refl e in
      let n : component_at (get_or w.places p Past) ≡ false = ap component_at (s.each p hp ∙ ap (settled m) e) ∙ to_no_component _ h in
      (a, Memᴰ.append_right (option_to_list (then_some (not (component_at w.own)) l.tag)) (of_chosen (λ (x : Maybe Label × Wire). not (component_at x.1)) (λ x. x.0) (None, Past) live w.places a (record { place = p; first = f; second = omega (arith, s.size); kept = ap not n; gives = q })), g)

  -- the first gap

  abbrev as_option : Maybe ℕ → Option ℕ
  as_option None = none
  as_option (Some p) = some p

  seek : (ps : List Place) (es : List Wire) (k : ℕ) → length ps ≤ length es → ((p : ℕ) → p < length es → get_or es p Past ≡ settled m (place_want ps p)) → as_option (position_from gap_at k es) ≡ gap k ps
  unfolding gap place_want
  seek [] [] k h f = refl
  seek [] (e ∷ es) k h f = let q : gap_at e ≡ false = ap gap_at (f 0 (omega arith)) in rw q (seek [] es (k + 1) (omega arith) (λ p lt. f (suc p) (omega arith)))
  seek (q ∷ ps) [] k h f = absurd (let z : ⊥ = omega arith in z)
  seek (none ∷ ps) (e ∷ es) k h f = let q : gap_at e ≡ true = ap gap_at (f 0 (omega arith)) in rw q
  seek (some a ∷ ps) (e ∷ es) k h f =
      let q : gap_at e ≡ false = ap gap_at (f 0 (omega arith)) ∙ to_no_gap (node_of m a) in
      rw q (subst (λ (j : ℕ). as_option (position_from gap_at (k + 1) es) ≡ gap j ps) (add-one k) (seek ps es (k + 1) (omega arith) (λ p lt. f (suc p) (omega arith))))

  first_gap : as_option (position gap_at w.places) ≡ gap 0 (rows place_of l.count l.places)
  first_gap = ap as_option (position_from-zero gap_at w.places) ∙ seek (rows place_of l.count l.places) w.places 0 (omega (arith, s.size, short)) (λ p h. s.each p (omega (arith, s.size)))

  abbrev found_at : ℕ → Found
  found_at p = record { tag = l.tag; index = p }

  gap_of_list : (g : Found) → gap_in l w ≡ Some g → (bytes_of l.tag ≡ bytes_of g.tag) × (gap 0 (rows place_of l.count l.places) ≡ some g.index)
  gap_of_list g = go (position gap_at w.places) first_gap
    where
      go : (o : Maybe ℕ) → as_option o ≡ gap 0 (rows place_of l.count l.places) → option_map found_at o ≡ Some g → (bytes_of l.tag ≡ bytes_of g.tag) × (gap 0 (rows place_of l.count l.places) ≡ some g.index)
      go None q e = absurd (let z : ◌≡◌ {A = ℕ} 0 1 = cc in let y : ⊥ = omega arith in y)
      go (Some p) q e = (cc, cc)

  list_of_gap : (i : ℕ) → gap 0 (rows place_of l.count l.places) ≡ some i → gap_in l w ≡ Some (found_at i)
  list_of_gap i e = go (position gap_at w.places) first_gap
    where
      go : (o : Maybe ℕ) → as_option o ≡ gap 0 (rows place_of l.count l.places) → option_map found_at o ≡ Some (found_at i)
      go None q = none_some (q ∙ e)
      go (Some p) q = ap (λ (j : ℕ). Some (found_at j)) (some_some (q ∙ e))

-- ---- all lists

module _ (m : Record) (pass : passes m ≡ true) (found : List ListWires) (r : Resolved no_list m found) (seen : List Bool) {live : List InputList} (live-is : live ≡ take m.list_count m.lists) (bound : length live ≡ min m.list_count 128) where
  abbrev marked : InputList × ListWires → Bool
  marked x = marked_at seen (target x.1.own)

  abbrev nothing : InputList × ListWires
  nothing = (no_list, no_wires)

  row : (k : ℕ) → k < length live → get_or live k no_list ≡ get_or m.lists k no_list
  row k h = ap (λ (z : List InputList). get_or z k no_list) live-is ∙ get_or-take m.list_count m.lists k no_list (omega arith)

  module _ (k : ℕ) (h : k < length live) where
    at : Settled m (get_or m.lists k no_list) (get_or found k no_wires)
    at = r.each k (omega arith)

    short : length (rows place_of (get_or m.lists k no_list).count (get_or m.lists k no_list).places) ≤ 3
    short = places-short m pass (in_table m.lists m.list_count live-is bound) found r k (omega arith)

  abbrev absent_tags : List Label
  absent_tags = filter_map (λ x. least (absents x.0 x.1)) (filter marked (zip live found))

  absent_shown : (a : Label) → a ∈ absent_tags → AbsentShown no_list m found seen (bytes_of a)
  absent_shown a i =
      let c = chosen marked (λ x. least (absents x.0 x.1)) nothing live found a i in
      let e : least (absents (get_or m.lists c.place no_list) (get_or found c.place no_wires)) ≡ Some a = ap (λ (l : InputList). least (absents l (get_or found c.place no_wires))) (sym (row c.place c.first)) ∙ c.gives in
      let g = subst (LeastOf bytes_of (λ b. b ∈ absents (get_or m.lists c.place no_list) (get_or found c.place no_wires))) e (least_of (absents (get_or m.lists c.place no_list) (get_or found c.place no_wires))) in
      let (shows, absent) = absents_show m _ _ (at c.place c.first) (short c.place c.first) a g.found in
      record { list = c.place; below = omega (arith, c.first, bound); marked = c.kept; shows = shows; absent = absent }

  shown_absent : (b : Tag) → AbsentShown no_list m found seen b → (a : Label) × (a ∈ absent_tags) × (before b (bytes_of a) ≡ false)
  shown_absent b s = go (least (absents (get_or m.lists s.list no_list) (get_or found s.list no_wires))) refl (least_of _)
    where
      within : s.list < length live
      within = omega (arith, s.below, bound)

      one : (a : Label) × (a ∈ absents (get_or m.lists s.list no_list) (get_or found s.list no_wires)) × (bytes_of a ≡ b)
      one = show_absents m _ _ (at s.list within) (short s.list within) b s.shows s.absent

      go : (o : Maybe Label) → least (absents (get_or m.lists s.list no_list) (get_or found s.list no_wires)) ≡ o → LeastOf bytes_of (λ a. a ∈ absents (get_or m.lists s.list no_list) (get_or found s.list no_wires)) o
          → (a : Label) × (a ∈ absent_tags) × (before b (bytes_of a) ≡ false)
      go None e g = absurd (g one.0 one.1)
      go (Some t) e g = (
        t,
        of_chosen marked (λ x. least (absents x.0 x.1)) nothing live found t (record { place = s.list; first = within; second = omega (arith, s.below, r.found-length); kept = s.marked; gives = ap (λ (l : InputList). least (absents l (get_or found s.list no_wires))) (row s.list within) ∙ e }),
        subst (λ (z : Tag). before z (bytes_of t) ≡ false) one.2 (g.least one.0 one.1),
      )

  pub absent_least : (o : Maybe Label) → o ≡ least absent_tags → LeastOf (λ a. a) (AbsentShown no_list m found seen) (option_map bytes_of o)
  absent_least o e = subst (λ (z : Maybe Label). LeastOf (λ a. a) (AbsentShown no_list m found seen) (option_map bytes_of z)) (sym e) (least_shown bytes_of (λ a. a) absent_tags (AbsentShown no_list m found seen) _ (least_of absent_tags) absent_shown shown_absent)

  abbrev gaps : List Found
  gaps = filter_map (λ x. gap_in x.0 x.1) (filter marked (zip live found))

  gap_shown : (g : Found) → g ∈ gaps → GapShown no_list m found seen (gap_of g)
  gap_shown g i =
      let c = chosen marked (λ x. gap_in x.0 x.1) nothing live found g i in
      let (tag, first) = gap_of_list m _ _ (at c.place c.first) (short c.place c.first) g (ap (λ (l : InputList). gap_in l (get_or found c.place no_wires)) (sym (row c.place c.first)) ∙ c.gives) in
      record { list = c.place; below = omega (arith, c.first, bound); marked = c.kept; tag = tag; gap = first }

  shown_gap : (b : Tag × ℕ) → GapShown no_list m found seen b → (g : Found) × (g ∈ gaps) × (before b.0 (bytes_of g.tag) ≡ false)
  shown_gap b s =
      let within : s.list < length live = omega (arith, s.below, bound) in (
        record { tag = (get_or m.lists s.list no_list).tag; index = b.1 },
        of_chosen marked (λ x. gap_in x.0 x.1) nothing live found _ (record { place = s.list; first = within; second = omega (arith, s.below, r.found-length); kept = s.marked; gives = ap (λ (l : InputList). gap_in l (get_or found s.list no_wires)) (row s.list within) ∙ list_of_gap m _ _ (at s.list within) (short s.list within) b.1 s.gap }),
        subst (λ (z : Tag). before z (bytes_of (get_or m.lists s.list no_list).tag) ≡ false) s.tag (before_irrefl _),
      )

  pub gap_least : (o : Maybe Found) → LeastOf (λ g. bytes_of g.tag) (λ g. g ∈ gaps) o → LeastOf (λ g. g.0) (GapShown no_list m found seen) (option_map gap_of o)
  gap_least o g = least_shown gap_of (λ b. b.0) gaps (GapShown no_list m found seen) o g gap_shown shown_gap
