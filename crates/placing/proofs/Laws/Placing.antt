-- One place of a list replaced. Assumes nothing.
use mathlib.Core.Path.{◌≡◌, sym, ◌∙◌, ap, subst}
use mathlib.Core.Bool.{Bool}
use mathlib.Core.List.{List, [], ◌∷◌}
use Prim.Native.Nat.{ℕ, ◌<◌}
use native.Mathlib.Omega.{arith}
use lib.Dec.{T, leb}
use lib.ListN.{length, get_or, set}
use Rattle.tag.specs.Tags.{Tag}
use Rattle.tag.specs.View.{tag_fits}
use Rattle.model.specs.declared.implicit_model.InputList.{InputList}
use Rattle.model.specs.declared.implicit_model.Model.{Model as Record}
use Rattle.model.specs.Table.{put}
use Rattle.model.specs.Model.{Place}
use Rattle.model.specs.View.{PlaceRecord, every, place_of, rows, list_of, lists_of, place_fits, list_fits}
use Rattle.held.proofs.Laws.Rows.{rows-set, rows-length}
use Rattle.held.proofs.Laws.Search.{RowAt}
use Rattle.model.proofs.Laws.Valid.{passed, unpassed}
use Rattle.held.proofs.Laws.Standing.{Standing, every_set}
use Rattle.edit.proofs.Laws.Stored.{Stored, over_row, row_fits}
use Rattle.placing.specs.Placing.{placed_at}

placed-fits : (l : InputList) (i : ℕ) (p : PlaceRecord) → i < l.count → T (list_fits l) → T (place_fits p) → T (list_fits (placed_at l i p))
unfolding list_fits
placed-fits l i p h f o =
    let q = passed (tag_fits l.tag ∷ leb l.count 3 ∷ every (rows place_fits l.count l.places) ∷ []) f in
    unpassed (tag_fits l.tag ∷ leb l.count 3 ∷ every (rows place_fits l.count (set l.places i p)) ∷ [])
    (q.0, (q.1.0, (subst (λ (bs : List Bool). T (every bs)) (sym (rows-set place_fits l.places l.count i p h)) (every_set (rows place_fits l.count l.places) i (place_fits p) q.1.1.0 o), tt)))

-- the list of t at i, with place k replaced by p, which means o
module _ (m : Record) (g : Standing m) {t : Tag} (i : ℕ) (d : InputList) (at : RowAt list_of m.lists m.list_count i t d) (k : ℕ)
    (h : k < length (rows place_of (get_or m.lists i d).count (get_or m.lists i d).places)) where
  below : k < (get_or m.lists i d).count
  below = omega (arith, rows-length place_of (get_or m.lists i d).places (get_or m.lists i d).count)

  pub placed_stored : (p : PlaceRecord) (o : Place) → place_of p ≡ o → T (place_fits p)
      → Stored list_of list_fits (put t (set (rows place_of (get_or m.lists i d).count (get_or m.lists i d).places) k o) (lists_of m)) m.list_count
      (set m.lists i (placed_at (get_or m.lists i d) k p))
  placed_stored p o e f =
      let l = get_or m.lists i d in
      let same : list_of (placed_at l k p) ≡ (t, set (rows place_of l.count l.places) k o) =
      λ j. (at.tag j, (rows-set place_of l.places l.count k p below ∙ ap (set (rows place_of l.count l.places) k) e) j) in
      over_row list_of list_fits m.lists m.list_count t (set (rows place_of l.count l.places) k o) (placed_at l k p) same
      (placed-fits l k p below (row_fits list_fits m.lists m.list_count i d g.lists at.below (omega (arith, at.within, rows-length list_of m.lists m.list_count))) f)
      g.once-lists g.lists i d at
