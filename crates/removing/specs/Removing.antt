-- The record without one of its components. Definitions only.
use Rattle.std.specs.Prelude.{[], ℕ, ◌-◌, ◌<◌, ◌≤◌, get_or, set}
use Rattle.std.specs.Float.{nan}
use Rattle.component.specs.declared.model_component.Component.TheVariants.{Constant}
use Rattle.model.specs.declared.implicit_model.Model.{Model as Record}

-- a component stands at i, among no more than the table has room for
pub record HeldAt (m : Record) (i : ℕ) : Type 0 where
  pub below : i < m.component_count
  pub few : m.component_count ≤ 64

-- the component at i overwritten by the last one, which is taken off (what the table reads as past its end is never read)
abbrev pub without_entry : Record → ℕ → Record
without_entry m i = record {
  components = set m.components i (get_or m.components (m.component_count - 1) (record { tag = record { bytes = []; len = 0 }; component = Constant nan }));
  component_count = m.component_count - 1;
  lists = m.lists;
  list_count = m.list_count;
  default = m.default;
}
