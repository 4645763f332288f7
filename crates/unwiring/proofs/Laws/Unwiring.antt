-- Each way out of `remove_input`. Assumes nothing.
use mathlib.Core.Path.{◌≡◌, refl, sym, subst}
use mathlib.Core.Bool.{true, false}
use mathlib.Core.List.{List, []}
use mathlib.Core.Option.{Option as Maybe, none, some}
use Rattle.std.specs.Prelude.{Option, Some, None}
use Prim.Native.Nat.{ℕ, ◌<◌, ◌≤◌}
use lib.Dec.{T, leb}
use lib.ListN.{length, get_or}
use borrow.Author.Tests.{le-leb, lt-leb}
use Rattle.tag.specs.declared.Tag.{Tag as Label}
use Rattle.tag.specs.Tags.{Tag, empty, overlong}
use Rattle.tag.specs.View.{bytes_of, Labelled}
use Rattle.model.specs.declared.implicit_model.InputList.{InputList}
use Rattle.model.specs.declared.implicit_model.Model.{Model as Record}
use Rattle.model.specs.Model.{Place, list}
use Rattle.model.specs.Edit.{remove_input, done, edit, unwire_in, remove_wire}
use Rattle.model.specs.View.{place_of, rows, lists_of, place_fits, view, passes}
use Rattle.held.specs.Search.{Sought}
use Rattle.edit.specs.declared.Edited.{Edited}
use Rattle.edit.specs.Meets.{Meets}
use Rattle.edit.specs.Ends.{Ends, Refused}
use Rattle.edit.specs.Rows.{with_list}
use Rattle.edit.proofs.Laws.Step.{Step, refusal, skip, stop, meets_on}
use Rattle.edit.proofs.Laws.Tests.{carrying, sought_by}
use Rattle.placing.specs.Placing.{placed_at}
use Rattle.placing.proofs.Laws.Listed.{list-none, list_some, placed-done}

unassigned : place_of None ≡ none
unfolding place_of
unassigned = refl

unassigned_fits : T (place_fits None)
unfolding place_fits
unassigned_fits = tt

module _ (m : Record) (t : Tag) (k : ℕ) (r : Edited) (v : passes m ≡ true) where
  on : Step (remove_wire (view m) t k) m r → Meets (remove_input t k) m r
  unfolding edit
  on s = meets_on v s

  pub remove_1 : overlong t ≡ true → Refused m 1 [] 0 r → Meets (remove_input t k) m r
  unfolding remove_wire
  remove_1 h z = on (stop (overlong t) 1 empty 0 _ h z)

  module _ (st : overlong t ≡ false) (x : Label) (lt : Labelled t x) (f : Option ℕ) (q : Sought (lists_of m) 128 (bytes_of x) f) where
    in_list : (o : Maybe (List Place)) → list (view m) t ≡ o → Step (unwire_in (view m) t k o) m r → Meets (remove_input t k) m r
    unfolding remove_wire
    in_list o e s = on (skip (overlong t) 1 empty 0 st (subst (λ (l : Maybe (List Place)). Step (unwire_in (view m) t k l) m r) (sym e) s))

    pub remove_12 : f ≡ None → Refused m 12 (bytes_of x) 0 r → Meets (remove_input t k) m r
    remove_12 e z = in_list none (list-none m v t f (sought_by lt q) e) (refusal (carrying lt z))

    module _ (i : ℕ) (e : f ≡ Some i) (d : InputList) where
      pub remove_3 : length (rows place_of (get_or m.lists i d).count (get_or m.lists i d).places) ≤ k → Refused m 3 (bytes_of x) k r → Meets (remove_input t k) m r
      remove_3 h z =
          let ps = rows place_of (get_or m.lists i d).count (get_or m.lists i d).places in
          in_list (some ps) (list_some m v t f (sought_by lt q) i e d) (stop (leb (length ps) k) 3 t k _ (le-leb (length ps) k h) (carrying lt z))

      pub remove-done : k < length (rows place_of (get_or m.lists i d).count (get_or m.lists i d).places)
          → Ends done (with_list m i (placed_at (get_or m.lists i d) k (None))) r → Meets (remove_input t k) m r
      remove-done h z =
          let ps = rows place_of (get_or m.lists i d).count (get_or m.lists i d).places in
          in_list (some ps) (list_some m v t f (sought_by lt q) i e d)
          (skip (leb (length ps) k) 3 t k (lt-leb (length ps) k h)
          (placed-done m v t f (sought_by lt q) i e d k h (None) none unassigned unassigned_fits z))
