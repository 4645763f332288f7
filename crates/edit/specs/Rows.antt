-- The record with one row replaced; a position past the table's end changes nothing. Definitions only.
use Rattle.std.specs.Prelude.{ℕ, set}
use Rattle.model.specs.declared.implicit_model.ComponentEntry.{ComponentEntry}
use Rattle.model.specs.declared.implicit_model.InputList.{InputList}
use Rattle.model.specs.declared.implicit_model.Model.{Model as Record}

abbrev pub with_entry : Record → ℕ → ComponentEntry → Record
with_entry m i e = record {
  components = set m.components i e;
  component_count = m.component_count;
  lists = m.lists;
  list_count = m.list_count;
  default = m.default;
}

abbrev pub with_list : Record → ℕ → InputList → Record
with_list m i l = record {
  components = m.components;
  component_count = m.component_count;
  lists = set m.lists i l;
  list_count = m.list_count;
  default = m.default;
}
