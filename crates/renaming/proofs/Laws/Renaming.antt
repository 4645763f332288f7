-- Each way out of `rename_component`. Assumes nothing.
use mathlib.Core.Path.{◌≡◌, sym, ◌∙◌, ap, subst}
use mathlib.Core.Bool.{Bool, true, false, not}
use mathlib.Core.List.{List, []}
use Prim.Native.Nat.{ℕ, ◌≤◌}
use lib.Dec.{T}
use lib.ListN.{get_or, set}
use Rattle.std.specs.Prelude.{Option, Some, None}
use Rattle.tag.specs.declared.Tag.{Tag as Label}
use Rattle.tag.specs.Tags.{Tag, empty, overlong}
use Rattle.tag.specs.View.{bytes_of, tag_fits, Labelled}
use Rattle.component.specs.declared.model_component.Component.{Component}
use Rattle.model.specs.declared.implicit_model.ComponentEntry.{ComponentEntry}
use Rattle.model.specs.declared.implicit_model.Model.{Model as Record}
use Rattle.model.specs.Table.{Table, held, move}
use Rattle.model.specs.Model.{Place, Model}
use Rattle.model.specs.Edit.{rename_component, made, edit, renamed, rename}
use Rattle.model.specs.View.{PlaceRecord, place_of, rows, component_of, components_of, lists_of, every, place_fits, entry_fits, view, passes}
use Rattle.held.specs.Search.{Sought}
use Rattle.model.proofs.Laws.Bool.{true→T}
use Rattle.model.proofs.Laws.Table.{held-false}
use Rattle.held.proofs.Laws.Rows.{no_entry}
use Rattle.held.proofs.Laws.Changes.{Becomes}
use Rattle.held.proofs.Laws.Standing.{standing}
use Rattle.edit.specs.declared.Edited.{Edited}
use Rattle.edit.specs.Meets.{Meets}
use Rattle.edit.specs.Ends.{Ends, Refused}
use Rattle.edit.specs.Rows.{with_entry}
use Rattle.edit.proofs.Laws.Step.{Step, skip, stop, finish_made, meets_on}
use Rattle.edit.proofs.Laws.Tests.{carrying, held_as, taken, free as unheld, sought_by, found_row}
use Rattle.removing.specs.Swapping.{PlacesSwapped}
use Rattle.removing.proofs.Laws.Holding.{Holds, holds_same, swapped_in, holds_swapped, named, named-fits}
use Rattle.list_moving.specs.Moving.{Movable, ListMoved}
use Rattle.list_moving.proofs.Laws.Moving.{retag_row}
use Rattle.renaming.specs.Moving.{entry_under, TagMoved}

-- the component of t and its list moved to u
abbrev moved_in : Record → Tag → Tag → Model
moved_in m t u = record { components = move t u (components_of m); lists = move t u (lists_of m); default = place_of m.default }

-- the tags differ, since one is held and the other is not
movable : (m : Record) → passes m ≡ true → (x y : Label) → tag_fits y ≡ true → held (bytes_of y) (components_of m) ≡ false → held (bytes_of x) (components_of m) ≡ true → Movable m x y
movable m v x y s n h = record { passing = v; apart = λ z. true→T false (sym n ∙ (ap (λ (s : Tag). held s (components_of m)) (sym z) ∙ h)); short = s }

module _ (m : Record) (t u : Tag) (r : Edited) (v : passes m ≡ true) where
  on : Step (rename (view m) t u) m r → Meets (rename_component t u) m r
  unfolding edit
  on s = meets_on v s

  pub rename_1 : overlong t ≡ true → Refused m 1 [] 0 r → Meets (rename_component t u) m r
  unfolding rename
  rename_1 h z = on (stop (overlong t) 1 empty 0 _ h z)

  module _ (st : overlong t ≡ false) where
    pub rename_1_new : overlong u ≡ true → Refused m 1 [] 0 r → Meets (rename_component t u) m r
    unfolding rename
    rename_1_new h z = on (skip (overlong t) 1 empty 0 st (stop (overlong u) 1 empty 0 _ h z))

    module _ (su : overlong u ≡ false) (x : Label) (lx : Labelled t x) (y : Label) (ly : Labelled u y) where
      pub rename_11 : held (bytes_of y) (components_of m) ≡ true → Refused m 11 (bytes_of y) 0 r → Meets (rename_component t u) m r
      unfolding rename view
      rename_11 h z = on (skip (overlong t) 1 empty 0 st (skip (overlong u) 1 empty 0 su (stop (held u (components_of m)) 11 u 0 _ (held_as _ ly h) (carrying ly z))))

      module _ (free : held (bytes_of y) (components_of m) ≡ false) (g : Option ℕ) (q : Sought (components_of m) 64 (bytes_of x) g) where
        fresh : held u (components_of m) ≡ false
        fresh = held_as _ ly free

        pub rename_12 : g ≡ None → Refused m 12 (bytes_of x) 0 r → Meets (rename_component t u) m r
        unfolding rename view
        rename_12 e z =
            on (skip (overlong t) 1 empty 0 st (skip (overlong u) 1 empty 0 su (skip (held u (components_of m)) 11 u 0 fresh
            (stop (not (held t (components_of m))) 12 t 0 _ (ap not (unheld (sought_by lx q) e)) (carrying lx z)))))

        module _ (i : ℕ) (e : g ≡ Some i) where
          module _ (k : Record) (a : ListMoved m (bytes_of x) (bytes_of y) k) where
            there : ListMoved m t u k
            there = subst (λ (s : Tag × Tag). ListMoved m s.0 s.1 k) (λ j. (lx.bytes j, ly.bytes j)) a

            rows-kept : {A : Type 0} (h : ComponentEntry → A) (c : ComponentEntry) → rows h m.component_count (set m.components i c) ≡ rows h k.component_count (set k.components i c)
            rows-kept h c = rw (a.components, a.count)

            both : Holds (moved_in m t u) (with_entry k i (entry_under (get_or m.components i no_entry) y))
            both =
                let s = standing m v in
                let new = entry_under (get_or m.components i no_entry) y in
                let b = retag_row component_of entry_fits m.components m.component_count t u s.once s.entries i no_entry new
                (found_row component_of m.components m.component_count no_entry (sought_by lx q) e) (held-false u (components_of m) fresh)
                (ap (λ (c : Tag). (c, (get_or m.components i no_entry).component)) ly.bytes) (true→T _ ly.short) in
                let C : Becomes (move t u (components_of m)) (rows component_of k.component_count (set k.components i new)) =
                subst (λ (c : Table Component). Becomes (move t u (components_of m)) c) (rows-kept component_of new) b.becomes in
                record {
                  components = C;
                  lists = record { same = there.lists; once = a.once };
                  default = ap place_of (sym a.default);
                  stands = record {
                    few = subst (λ (c : ℕ). c ≤ 64) (sym a.count) s.few;
                    few_lists = a.few;
                    entries = subst (λ (bs : List Bool). T (every bs)) (rows-kept entry_fits new) b.fits;
                    lists = a.fits;
                    default = subst (λ (c : PlaceRecord). T (place_fits c)) (sym a.default) s.default;
                    once = C.once;
                    once-lists = a.once;
                  };
                }

          pub rename-done : (w : Record) → TagMoved m i x y w → Ends (made (bytes_of y)) w r → Meets (rename_component t u) m r
          unfolding rename view
          rename-done w s z =
              let k = s.lists in
              let o = with_entry k i (entry_under (get_or m.components i no_entry) y) in
              let h : Holds (renamed (view m) t u) w =
              subst (λ (c : Place). Holds (swapped_in t c (moved_in m t u)) w) (named ly)
              (holds_swapped t (Some y) (named-fits ly) o w (subst (λ (c : Tag). PlacesSwapped c (Some y) o w) lx.bytes s.places) (moved_in m t u)
              (both k (s.moved (movable m v x y ly.short free (taken q e))))) in
              on (skip (overlong t) 1 empty 0 st (skip (overlong u) 1 empty 0 su (skip (held u (components_of m)) 11 u 0 fresh
              (skip (not (held t (components_of m))) 12 t 0 (ap not (taken (sought_by lx q) e))
              (finish_made (subst (λ (c : Tag). Ends (made c) w r) ly.bytes z) (holds_same h) h.stands)))))
