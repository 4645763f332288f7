-- A component under another tag, and what renaming changes in the record of a model. Definitions only.
use Rattle.std.specs.Prelude.{[], ℕ, get_or, Some}
use Rattle.std.specs.Float.{nan}
use Rattle.tag.specs.declared.Tag.{Tag as Label}
use Rattle.tag.specs.View.{bytes_of}
use Rattle.component.specs.declared.model_component.Component.TheVariants.{Constant}
use Rattle.model.specs.declared.implicit_model.ComponentEntry.{ComponentEntry}
use Rattle.model.specs.declared.implicit_model.Model.{Model as Record}
use Rattle.edit.specs.Rows.{with_entry}
use Rattle.removing.specs.Swapping.{PlacesSwapped}
use Rattle.list_moving.specs.Moving.{Movable, ListMoved}

-- a component under another tag
abbrev pub entry_under : ComponentEntry → Label → ComponentEntry
entry_under e u = record { tag = u; component = e.component }

-- the component at i of a record (what the table reads as past its end is never read)
abbrev pub entry_at : Record → ℕ → ComponentEntry
entry_at m i = get_or m.components i (record { tag = record { bytes = []; len = 0 }; component = Constant nan })

-- t's list is now u's, the component at i is under u, and each place that named t names u
pub record TagMoved (m : Record) (i : ℕ) (t u : Label) (r : Record) : Type 0 where
  pub lists : Record
  pub moved : Movable m t u → ListMoved m (bytes_of t) (bytes_of u) lists
  pub places : PlacesSwapped (bytes_of t) (Some u) (with_entry lists i (entry_under (entry_at m i) u)) r
