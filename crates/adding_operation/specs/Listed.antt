-- A component added with its list. Definitions only.
use Rattle.std.specs.Prelude.{◌≡◌, Bool, true, false, [], ◌+◌, ◌<◌, ◌≤◌, ℕ, leb, set, Option, Some, None}
use Rattle.tag.specs.declared.Tag.{Tag as Label}
use Rattle.tag.specs.View.{bytes_of}
use Rattle.component.specs.declared.model_component.Component.{Component}
use Rattle.model.specs.declared.implicit_model.InputList.{InputList}
use Rattle.model.specs.declared.implicit_model.Model.{Model as Record}
use Rattle.model.specs.Edit.{made}
use Rattle.model.specs.View.{lists_of}
use Rattle.held.specs.Search.{Sought}
use Rattle.edit.specs.declared.Edited.{Edited}
use Rattle.edit.specs.Ends.{Ends, Refused}
use Rattle.edit.specs.Rows.{with_list}
use Rattle.adding.specs.Grown.{with_more}

-- a new list is needed, and 128 exist
abbrev pub no_room : Record → Option ℕ → Bool
no_room m (Some i) = false
no_room m None = leb 128 m.list_count

-- the list over the one found, or after the others
abbrev pub list_put : Record → InputList → Option ℕ → Record
list_put m l (Some i) = with_list m i l
list_put m l None = record {
  components = m.components;
  component_count = m.component_count;
  lists = set m.lists m.list_count l;
  list_count = m.list_count + 1;
  default = m.default;
}

-- by what a search for the list of t finds: the component c under t, the default d and the list l, or refused with 16
pub record Placed (m : Record) (t : Label) (c : Component) (l : InputList) (d : Label) (r : Edited) : Type 0 where
  pub found : Option ℕ
  pub sought : Sought (lists_of m) 128 (bytes_of t) found
  pub full : no_room m found ≡ true → Refused m 16 [] 0 r
  pub put : no_room m found ≡ false → Ends (made (bytes_of t)) (with_more (list_put m l found) t c d) r

-- so made, or refused before with 15 where 64 components are held
pub record Listed (m : Record) (t : Label) (c : Component) (l : InputList) (d : Label) (r : Edited) : Type 0 where
  pub full : 64 ≤ m.component_count → Refused m 15 [] 0 r
  pub placed : m.component_count < 64 → Placed m t c l d r
