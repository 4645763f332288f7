-- A list under another tag, and the list of one tag moved to another, in the record of a model. Definitions only.
use Rattle.std.specs.Prelude.{◌≡◌, ◌≢◌, true, [], ℕ, ◌-◌, ◌<◌, ◌≤◌, T, get_or, set}
use Rattle.tag.specs.declared.Tag.{Tag as Label}
use Rattle.tag.specs.Tags.{Tag}
use Rattle.tag.specs.View.{bytes_of, tag_fits}
use Rattle.model.specs.declared.implicit_model.InputList.{InputList}
use Rattle.model.specs.declared.implicit_model.Model.{Model as Record}
use Rattle.model.specs.Table.{find, distinct, move}
use Rattle.model.specs.View.{rows, lists_of, every, list_fits, passes}

-- a list stands at i
pub record ListAt (m : Record) (i : ℕ) : Type 0 where
  pub below : i < m.list_count
  pub within : i < 128

-- the list at i overwritten by the last one, which is taken off (what the table reads as past its end is never read)
abbrev pub without_list : Record → ℕ → Record
without_list m i = record {
  components = m.components;
  component_count = m.component_count;
  lists = set m.lists i (get_or m.lists (m.list_count - 1) (record { tag = record { bytes = []; len = 0 }; count = 0; places = [] }));
  list_count = m.list_count - 1;
  default = m.default;
}

-- a list under another tag
abbrev pub list_under : InputList → Label → InputList
list_under l u = record { tag = u; count = l.count; places = l.places }

-- what moving a list asks: 7 lets the record pass, and the new tag is another, within its size
pub record Movable (m : Record) (t u : Label) : Type 0 where
  pub passing : passes m ≡ true
  pub apart : bytes_of t ≢ bytes_of u
  pub short : tag_fits u ≡ true

-- t's list is now u's, at any positions: no tag twice, sizes kept, and the rest of the record as it was
pub record ListMoved (m : Record) (t u : Tag) (r : Record) : Type 0 where
  pub components : r.components ≡ m.components
  pub count : r.component_count ≡ m.component_count
  pub default : r.default ≡ m.default
  pub lists : (s : Tag) → find s (move t u (lists_of m)) ≡ find s (lists_of r)
  pub once : T (distinct (lists_of r))
  pub few : r.list_count ≤ 128
  pub fits : T (every (rows list_fits r.list_count r.lists))
