-- Each way out of `remove_component`. Assumes nothing.
use mathlib.Core.Path.{◌≡◌, refl, sym, ap, subst}
use mathlib.Core.Bool.{true, false, not}
use mathlib.Core.List.{[]}
use Prim.Native.Nat.{ℕ}
use native.Mathlib.Omega.{arith}
use lib.ListN.{length}
use Rattle.std.specs.Prelude.{Option, Some, None}
use Rattle.tag.specs.declared.Tag.{Tag as Label}
use Rattle.tag.specs.Tags.{Tag, empty, overlong}
use Rattle.tag.specs.View.{bytes_of, Labelled}
use Rattle.model.specs.declared.implicit_model.Model.{Model as Record}
use Rattle.model.specs.Table.{held, cut}
use Rattle.model.specs.Model.{Model}
use Rattle.model.specs.Edit.{remove_component, done, edit, without, remove}
use Rattle.model.specs.View.{place_of, component_of, components_of, lists_of, place_fits, entry_fits, view, passes}
use Rattle.held.specs.Search.{Sought}
use Rattle.held.proofs.Laws.Rows.{no_entry}
use Rattle.held.proofs.Laws.Search.{RowAt}
use Rattle.held.proofs.Laws.Changes.{becomes_refl}
use Rattle.held.proofs.Laws.Standing.{Standing, standing}
use Rattle.edit.specs.declared.Edited.{Edited}
use Rattle.edit.specs.Meets.{Meets}
use Rattle.edit.specs.Ends.{Ends, Refused}
use Rattle.edit.proofs.Laws.Step.{Step, skip, stop, finish_done, meets_on}
use Rattle.edit.proofs.Laws.Tests.{carrying, taken, free, sought_by, found_row}
use Rattle.removing.specs.Removing.{HeldAt, without_entry}
use Rattle.removing.specs.Swapping.{PlacesSwapped}
use Rattle.removing.proofs.Laws.Holding.{Holds, holds_same, holds_swapped}
use Rattle.removing.proofs.Laws.Taken.{less_row}

-- the component of t taken off
abbrev cut_in : Record → Tag → Model
cut_in m t = record { components = cut t (components_of m); lists = lists_of m; default = place_of m.default }

taken_off : (m : Record) → Standing m → length m.components ≡ 64 → (t : Tag) (i : ℕ) → RowAt component_of m.components m.component_count i t no_entry → Holds (cut_in m t) (without_entry m i)
taken_off m g size t i at =
    let s = less_row component_of entry_fits m.components m.component_count t g.once g.entries i no_entry at (omega (arith, g.few)) in
    record {
      components = s.becomes;
      lists = becomes_refl g.once-lists;
      default = refl;
      stands = record {
        few = omega (arith, g.few);
        few_lists = g.few_lists;
        entries = s.fits;
        lists = g.lists;
        default = g.default;
        once = s.becomes.once;
        once-lists = g.once-lists;
      };
    }

-- what the row's position is asked to be
pub held_at : (m : Record) → passes m ≡ true → {t : Tag} {f : Option ℕ} {i : ℕ} → Sought (components_of m) 64 t f → f ≡ Some i → HeldAt m i
held_at m v q e = record { below = (found_row component_of m.components m.component_count no_entry q e).below; few = (standing m v).few }

module _ (m : Record) (t : Tag) (r : Edited) (v : passes m ≡ true) where
  on : Step (remove (view m) t) m r → Meets (remove_component t) m r
  unfolding edit
  on s = meets_on v s

  pub remove_1 : overlong t ≡ true → Refused m 1 [] 0 r → Meets (remove_component t) m r
  unfolding remove
  remove_1 h z = on (stop (overlong t) 1 empty 0 _ h z)

  module _ (st : overlong t ≡ false) (x : Label) (lt : Labelled t x) (f : Option ℕ) (q : Sought (components_of m) 64 (bytes_of x) f) where
    pub remove_12 : f ≡ None → Refused m 12 (bytes_of x) 0 r → Meets (remove_component t) m r
    unfolding remove view
    remove_12 e z =
        on (skip (overlong t) 1 empty 0 st (stop (not (held t (components_of m))) 12 t 0 _ (ap not (free (sought_by lt q) e)) (carrying lt z)))

    pub remove-done : length m.components ≡ 64 → (i : ℕ) → f ≡ Some i → (n : Record) → n ≡ without_entry m i → (w : Record)
        → PlacesSwapped (bytes_of x) None n w → Ends done w r → Meets (remove_component t) m r
    unfolding remove view place_of place_fits
    remove-done size i e n a w s z =
        let at = found_row component_of m.components m.component_count no_entry (sought_by lt q) e in
        let h : Holds (without (view m) t) w =
        holds_swapped t None tt n w (subst (λ (u : Tag). PlacesSwapped u None n w) lt.bytes s) (cut_in m t)
        (subst (Holds (cut_in m t)) (sym a) (taken_off m (standing m v) size t i at)) in
        on (skip (overlong t) 1 empty 0 st (skip (not (held t (components_of m))) 12 t 0 (ap not (taken (sought_by lt q) e))
        (finish_done z (holds_same h) h.stands)))
