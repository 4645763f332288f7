-- Each way out of `add_input`: those of its own checks, and those of the wire. Assumes nothing.
use mathlib.Core.Path.{◌≡◌, refl, sym, ◌∙◌, ap, subst}
use mathlib.Core.Bool.{true, false, not}
use mathlib.Core.List.{List, []}
use mathlib.Core.Option.{Option as Maybe, none, some}
use Rattle.std.specs.Prelude.{Option, Some, None, Result, Ok, Err}
use Prim.Native.Nat.{ℕ, ◌<◌, ◌≤◌}
use lib.Dec.{T, leb}
use lib.ListN.{length, get_or, set}
use borrow.Author.Tests.{le-leb, lt-leb}
use Rattle.tag.specs.declared.Tag.{Tag as Label}
use Rattle.tag.specs.Tags.{Tag, empty, overlong}
use Rattle.tag.specs.View.{bytes_of, tag_fits, Labelled}
use Rattle.model.specs.declared.implicit_model.InputList.{InputList}
use Rattle.model.specs.declared.implicit_model.Model.{Model as Record}
use Rattle.model.specs.Table.{held}
use Rattle.model.specs.Model.{Place, list}
use Rattle.model.specs.Edit.{add_input, done, Outcome, check, edit, with_list as wired, walked, wire_in, add_wire}
use Rattle.model.specs.View.{place_of, rows, components_of, list_of, lists_of, place_fits, view, passes}
use Rattle.held.specs.Search.{Sought}
use Rattle.model.specs.Walk.{Walked, clear, met, gapped, walk_from}
use Rattle.model.proofs.Laws.Bool.{true→T}
use Rattle.edit.specs.declared.Edited.{Edited}
use Rattle.edit.specs.Meets.{Meets}
use Rattle.edit.specs.Ends.{Ends, Refused}
use Rattle.edit.specs.Rows.{with_list}
use Rattle.edit.proofs.Laws.Step.{Step, refusal, skip, stop, meets_on}
use Rattle.edit.proofs.Laws.Tests.{carrying, taken, free, sought_by}
use Rattle.placing.specs.Placing.{placed_at}
use Rattle.placing.proofs.Laws.Listed.{list-none, list_some, placed-done}
use Rattle.walking.specs.declared.Blocked.{Blocked}
use Rattle.walking.specs.declared.Blocked.TheVariants.{Target, Gap}
use Rattle.walking.specs.Walking.{tag_at, Wires}
use Rattle.wiring.specs.Wiring.{Held}
use Rattle.walking.proofs.Laws.Line.{row_of, row_below, sought_row, said_clear, said_met, said_gap}

-- ---- the wire

assigned : (y : Label) → place_of (Some y) ≡ some (bytes_of y)
unfolding place_of
assigned y = refl

assigned-fits : (y : Label) → tag_fits y ≡ true → T (place_fits (Some y))
unfolding place_fits
assigned-fits y s = true→T _ s

module _ (m : Record) (x y : Label) (k : ℕ) (r : Edited) (w : Held m x y k) (h : Option ℕ) (o : Sought (lists_of m) 128 (bytes_of x) h) where
  into : (l : Maybe (List Place)) → list (view m) (bytes_of x) ≡ l → Step (wire_in (view m) (bytes_of x) (bytes_of y) k l) m r → Meets (add_input (bytes_of x) (bytes_of y) k) m r
  into l e s =
      meets_on w.passing (subst (λ (b : Outcome). Step b m r) (sym w.left)
      (subst (λ (b : Maybe (List Place)). Step (wire_in (view m) (bytes_of x) (bytes_of y) k b) m r) (sym e) s))

  pub wire_12 : h ≡ None → Refused m 12 (bytes_of x) 0 r → Meets (add_input (bytes_of x) (bytes_of y) k) m r
  wire_12 e z = into none (list-none m w.passing (bytes_of x) h o e) (refusal z)

  module _ (c : ℕ) (a : h ≡ Some c) (d : InputList) where
    pub wire_3 : length (rows place_of (get_or m.lists c d).count (get_or m.lists c d).places) ≤ k → Refused m 3 (bytes_of x) k r → Meets (add_input (bytes_of x) (bytes_of y) k) m r
    wire_3 b z =
        let ps = rows place_of (get_or m.lists c d).count (get_or m.lists c d).places in
        into (some ps) (list_some m w.passing (bytes_of x) h o c a d) (stop (leb (length ps) k) 3 (bytes_of x) k _ (le-leb (length ps) k b) z)

    -- then the walk
    module _ (b : k < length (rows place_of (get_or m.lists c d).count (get_or m.lists c d).places)) {A : Type 0} (e : Result A Blocked) (s : Wires m c (bytes_of y) e) where
      same : walk_from (view m) (tag_at (lists_of m) c) (bytes_of y) ≡ walk_from (view m) (bytes_of x) (bytes_of y)
      same = ap (λ (t : Tag). walk_from (view m) t (bytes_of y)) (ap (λ (z : Tag × List Place). z.0) ((sought_row o a).entry ([], [])))

      after : (z : Walked) → walk_from (view m) (tag_at (lists_of m) c) (bytes_of y) ≡ z
          → Step (walked (view m) (bytes_of x) (record { answer = done; model = wired (view m) (bytes_of x) (set (rows place_of (get_or m.lists c d).count (get_or m.lists c d).places) k (some (bytes_of y))) }) z) m r
          → Meets (add_input (bytes_of x) (bytes_of y) k) m r
      after z q s =
          let ps = rows place_of (get_or m.lists c d).count (get_or m.lists c d).places in
          into (some ps) (list_some m w.passing (bytes_of x) h o c a d) (skip (leb (length ps) k) 3 (bytes_of x) k (lt-leb (length ps) k b)
          (subst (λ (v : Walked). Step (walked (view m) (bytes_of x) (record { answer = done; model = wired (view m) (bytes_of x) (set ps k (some (bytes_of y))) }) v) m r) (sym q ∙ same) s))

      pub wire_14 : e ≡ Err Target → Refused m 14 (bytes_of x) 0 r → Meets (add_input (bytes_of x) (bytes_of y) k) m r
      wire_14 q z = after met (said_met (lists_of m) e _ s q) (refusal z)

      pub wire_13 : (n i : ℕ) → e ≡ Err (Gap n i) → (d : InputList) → Refused m 13 (bytes_of (get_or m.lists n d).tag) i r → Meets (add_input (bytes_of x) (bytes_of y) k) m r
      wire_13 n i q d z =
          let g = said_gap (lists_of m) e (walk_from (view m) (tag_at (lists_of m) c) (bytes_of y)) s q in
          let p : bytes_of (get_or m.lists n d).tag ≡ g.0 =
          ap (λ (z : Tag × List Place). z.0) (sym ((row_of list_of m.lists m.list_count n d g.2.within).entry ([], [])) ∙ g.2.entry ([], [])) in
          after (gapped g.0 i) g.3 (refusal (subst (λ (t : Tag). Refused m 13 t i r) p z))

      pub wire-done : {u : A} → e ≡ Ok u → Ends done (with_list m c (placed_at (get_or m.lists c d) k (Some y))) r → Meets (add_input (bytes_of x) (bytes_of y) k) m r
      wire-done q z =
          after clear (said_clear (lists_of m) e _ s q)
          (placed-done m w.passing (bytes_of x) h o c a d k b (Some y) (some (bytes_of y)) (assigned y) (assigned-fits y w.short) z)

-- the row of a gap is one of the table's
pub gap_below : (m : Record) (c : ℕ) (u : Tag) {A : Type 0} (w : Result A Blocked) (n i : ℕ) → passes m ≡ true → Wires m c u w → w ≡ Err (Gap n i) → n < 128
gap_below m c u w n i v s q = row_below m n v (said_gap (lists_of m) w _ s q).2.within

-- ---- the checks before it

module _ (m : Record) (t u : Tag) (k : ℕ) (v : passes m ≡ true) where
  onto : {r : Edited} → Step (add_wire (view m) t u k) m r → Meets (add_input t u k) m r
  unfolding edit
  onto s = meets_on v s

  pub add_1 : {r : Edited} → overlong t ≡ true → Refused m 1 [] 0 r → Meets (add_input t u k) m r
  unfolding add_wire
  add_1 h z = onto (stop (overlong t) 1 empty 0 _ h z)

  module _ (st : overlong t ≡ false) where
    pub add_1_source : {r : Edited} → overlong u ≡ true → Refused m 1 [] 0 r → Meets (add_input t u k) m r
    unfolding add_wire
    add_1_source h z = onto (skip (overlong t) 1 empty 0 st (stop (overlong u) 1 empty 0 _ h z))

    module _ (su : overlong u ≡ false) (x : Label) (lx : Labelled t x) (y : Label) (ly : Labelled u y) (f : Option ℕ) (p : Sought (components_of m) 64 (bytes_of x) f) where
      pub add_12 : {r : Edited} → f ≡ None → Refused m 12 (bytes_of x) 0 r → Meets (add_input t u k) m r
      unfolding add_wire view
      add_12 e z =
          onto (skip (overlong t) 1 empty 0 st (skip (overlong u) 1 empty 0 su
          (stop (not (held t (components_of m))) 12 t 0 _ (ap not (free (sought_by lx p) e)) (carrying lx z))))

      module _ {i : ℕ} (e : f ≡ Some i) (g : Option ℕ) (q : Sought (components_of m) 64 (bytes_of y) g) where
        pub add_12_source : {r : Edited} → g ≡ None → Refused m 12 (bytes_of y) 0 r → Meets (add_input t u k) m r
        unfolding add_wire view
        add_12_source n z =
            onto (skip (overlong t) 1 empty 0 st (skip (overlong u) 1 empty 0 su
            (skip (not (held t (components_of m))) 12 t 0 (ap not (taken (sought_by lx p) e))
            (stop (not (held u (components_of m))) 12 u 0 _ (ap not (free (sought_by ly q) n)) (carrying ly z)))))

        module _ {j : ℕ} (n : g ≡ Some j) where
          left : edit (add_input t u k) (view m) ≡ wire_in (view m) t u k (list (view m) t)
          unfolding edit add_wire view check
          left = rw (st, su, taken (sought_by lx p) e, taken (sought_by ly q) n)

          pub add-held : Held m x y k
          add-held = record {
            passing = v;
            short = ly.short;
            left = subst (λ (a : Tag). edit (add_input a (bytes_of y) k) (view m) ≡ wire_in (view m) a (bytes_of y) k (list (view m) a)) (sym lx.bytes)
                (subst (λ (b : Tag). edit (add_input t b k) (view m) ≡ wire_in (view m) t b k (list (view m) t)) (sym ly.bytes) left);
          }

      pub add-wired : {r : Edited} → Meets (add_input (bytes_of x) (bytes_of y) k) m r → Meets (add_input t u k) m r
      add-wired {r} z = subst (λ (b : Tag). Meets (add_input t b k) m r) ly.bytes (subst (λ (a : Tag). Meets (add_input a (bytes_of y) k) m r) lx.bytes z)
