-- The list of a tag as a search for it finds it, and the step that replaces one place of it. Assumes nothing.
use mathlib.Core.Path.{◌≡◌}
use mathlib.Core.Bool.{true}
use mathlib.Core.Option.{none, some}
use Prim.Native.Nat.{ℕ, ◌<◌}
use lib.Dec.{T}
use lib.ListN.{length, get_or, set}
use Rattle.tag.specs.Tags.{Tag}
use Rattle.model.specs.declared.implicit_model.InputList.{InputList}
use Rattle.model.specs.declared.implicit_model.Model.{Model as Record}
use Rattle.std.specs.Prelude.{Option, Some, None}
use Rattle.model.specs.Model.{Place, list}
use Rattle.model.specs.Edit.{done, with_list as wired}
use Rattle.model.specs.View.{PlaceRecord, place_of, rows, list_of, lists_of, place_fits, view, passes}
use Rattle.held.specs.Search.{Sought}
use Rattle.held.proofs.Laws.Search.{RowAt}
use Rattle.held.proofs.Laws.Standing.{standing}
use Rattle.edit.specs.declared.Edited.{Edited}
use Rattle.edit.specs.Ends.{Ends}
use Rattle.edit.specs.Rows.{with_list}
use Rattle.edit.proofs.Laws.Step.{Step, finish_done}
use Rattle.edit.proofs.Laws.Tests.{missing, found_row}
use Rattle.edit.proofs.Laws.Stored.{list_stands, list_same}
use Rattle.placing.specs.Placing.{placed_at}
use Rattle.placing.proofs.Laws.Placing.{placed_stored}

module _ (m : Record) (v : passes m ≡ true) (t : Tag) (f : Option ℕ) (q : Sought (lists_of m) 128 t f) where
  pub list-none : f ≡ None → list (view m) t ≡ none
  unfolding view
  list-none e = missing q e

  module _ (i : ℕ) (e : f ≡ Some i) (d : InputList) where
    at : RowAt list_of m.lists m.list_count i t d
    at = found_row list_of m.lists m.list_count d q e

    pub list_some : list (view m) t ≡ some (rows place_of (get_or m.lists i d).count (get_or m.lists i d).places)
    unfolding view
    list_some = at.entry

    -- the place replaced
    pub placed-done : {r : Edited} (k : ℕ) → k < length (rows place_of (get_or m.lists i d).count (get_or m.lists i d).places) → (p : PlaceRecord) (o : Place) → place_of p ≡ o → T (place_fits p)
        → Ends done (with_list m i (placed_at (get_or m.lists i d) k p)) r
        → Step (record { answer = done; model = wired (view m) t (set (rows place_of (get_or m.lists i d).count (get_or m.lists i d).places) k o) }) m r
    unfolding view
    placed-done k h p o a b z =
        let g = standing m v in
        let s = placed_stored m g i d at k h p o a b in
        finish_done z (list_same m g i (placed_at (get_or m.lists i d) k p) s) (list_stands m g i (placed_at (get_or m.lists i d) k p) s)
