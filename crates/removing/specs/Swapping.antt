-- Places that name a tag changed: one place, one list, every list and the default. Definitions only.
use Rattle.std.specs.Prelude.{◌≡◌, List, map, T}
use Rattle.tag.specs.Tags.{Tag}
use Rattle.model.specs.declared.implicit_model.InputList.{InputList}
use Rattle.model.specs.declared.implicit_model.Model.{Model as Record}
use Rattle.model.specs.Table.{each}
use Rattle.model.specs.Model.{Place}
use Rattle.model.specs.Edit.{swap}
use Rattle.model.specs.View.{PlaceRecord, place_of, rows, list_of, lists_of, every, place_fits, list_fits}

-- a place that names t is now `by`, and what fitted still does
pub record PlaceSwapped (t : Tag) (by p r : PlaceRecord) : Type 0 where
  pub place : place_of r ≡ swap t (place_of by) (place_of p)
  pub fits : T (place_fits by) → T (place_fits p) → T (place_fits r)

-- so each place of a list
abbrev pub swap_list : Tag → Place → Tag × List Place → Tag × List Place
swap_list t p e = (e.0, map (swap t p) e.1)

pub record ListSwapped (t : Tag) (by : PlaceRecord) (l r : InputList) : Type 0 where
  pub row : list_of r ≡ swap_list t (place_of by) (list_of l)
  pub fits : T (place_fits by) → T (list_fits l) → T (list_fits r)

-- so each place of a model's lists, and its default; the rest of the record is as it was
pub record PlacesSwapped (t : Tag) (by : PlaceRecord) (m r : Record) : Type 0 where
  pub components : r.components ≡ m.components
  pub count : r.component_count ≡ m.component_count
  pub list_count : r.list_count ≡ m.list_count
  pub default : PlaceSwapped t by m.default r.default
  pub lists : lists_of r ≡ each (map (swap t (place_of by))) (lists_of m)
  pub fits : T (place_fits by) → T (every (rows list_fits m.list_count m.lists)) → T (every (rows list_fits r.list_count r.lists))
