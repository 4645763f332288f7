-- Places that name a tag changed: one place, one list, every list and the default. Assumes nothing.
use mathlib.Core.Path.{◌≡◌, refl, sym, ◌∙◌, ap, subst}
use mathlib.Core.Bool.{true, false}
use mathlib.Core.List.{List, [], ◌∷◌, map}
use Prim.Native.Nat.{ℕ, ◌≤◌}
use lib.Dec.{T, leb}
use Rattle.std.specs.Prelude.{Some, None}
use lib.ListN.{length}
use Rattle.tag.specs.declared.Tag.{Tag as Label}
use Rattle.tag.specs.Tags.{Tag, is}
use Rattle.tag.specs.View.{bytes_of, tag_fits}
use Rattle.model.specs.declared.implicit_model.InputList.{InputList}
use Rattle.model.specs.declared.implicit_model.Model.{Model as Record}
use Rattle.model.specs.Table.{Table, each}
use Rattle.model.specs.Model.{Place}
use Rattle.model.specs.Edit.{swap}
use Rattle.model.specs.View.{PlaceRecord, place_of, rows, list_of, lists_of, every, place_fits, list_fits}
use Rattle.model.proofs.Laws.Valid.{passed, unpassed}
use Rattle.removing.specs.Swapping.{PlaceSwapped, swap_list, ListSwapped, PlacesSwapped}
use Rattle.removing.proofs.Laws.Swept.{Swept, swept_end}

-- ---- one place

module _ (t : Tag) (by : PlaceRecord) where
  pub swap_hit : (u : Label) → is (bytes_of u) t ≡ true → PlaceSwapped t by (Some u) by
  unfolding swap place_of
  swap_hit u e = record { place = sym (rw e); fits = λ h k. h }

  pub swap_miss : (u : Label) → is (bytes_of u) t ≡ false → PlaceSwapped t by (Some u) (Some u)
  unfolding swap place_of
  swap_miss u e = record { place = rw e; fits = λ h k. k }

  pub swap-none : PlaceSwapped t by None None
  unfolding swap place_of
  swap-none = record { place = refl; fits = λ h k. k }

-- ---- one list

-- the loop over its places is at i
abbrev pub SweptList : Tag → PlaceRecord → InputList → InputList → ℕ → Type 0
SweptList t by l w i = Swept place_of (swap t (place_of by)) place_fits (place_fits by) l.count l.places w.places i

pub list_swapped : (t : Tag) (by : PlaceRecord) (l w : InputList) (i : ℕ) → w.tag ≡ l.tag → w.count ≡ l.count
    → SweptList t by l w i → length (rows place_of l.count l.places) ≤ i → ListSwapped t by l w
unfolding list_fits
list_swapped t by l w i e n s h = record {
  row = rw (e, n, swept_end place_of (swap t (place_of by)) place_fits (place_fits by) l.count l.places w.places i s h);
  fits = λ b k.
      let p = passed (tag_fits l.tag ∷ leb l.count 3 ∷ every (rows place_fits l.count l.places) ∷ []) k in
      unpassed (tag_fits w.tag ∷ leb w.count 3 ∷ every (rows place_fits w.count w.places) ∷ []) (
        subst (λ (x : Label). T (tag_fits x)) (sym e) p.0,
        (
          subst (λ (x : ℕ). T (leb x 3)) (sym n) p.1.0,
          (subst (λ (x : ℕ). T (every (rows place_fits x w.places))) (sym n) (s.fits b p.1.1.0), tt),
        ),
      );
}

-- ---- every list of a model, and the default

-- the loop over its lists is at i
abbrev pub SweptLists : Tag → PlaceRecord → Record → Record → ℕ → Type 0
SweptLists t by m w i = Swept list_of (swap_list t (place_of by)) list_fits (place_fits by) m.list_count m.lists w.lists i

each_map : (f : List Place → List Place) (r : Table (List Place)) → map (λ e. (e.0, f e.1)) r ≡ each f r
unfolding each
each_map f [] = refl
each_map f (e ∷ r) = ap (λ (l : Table (List Place)). (e.0, f e.1) ∷ l) (each_map f r)

pub places_swapped : (t : Tag) (by : PlaceRecord) (m w : Record) (i : ℕ) → w.components ≡ m.components → w.component_count ≡ m.component_count → w.list_count ≡ m.list_count
    → PlaceSwapped t by m.default w.default → SweptLists t by m w i → length (lists_of m) ≤ i → PlacesSwapped t by m w
places_swapped t by m w i a b c d s h = record {
  components = a;
  count = b;
  list_count = c;
  default = d;
  lists = ap (λ (n : ℕ). rows list_of n w.lists) c
      ∙ (swept_end list_of (swap_list t (place_of by)) list_fits (place_fits by) m.list_count m.lists w.lists i s h ∙ each_map (map (swap t (place_of by))) (lists_of m));
  fits = λ o k. subst (λ (n : ℕ). T (every (rows list_fits n w.lists))) (sym c) (s.fits o k);
}
