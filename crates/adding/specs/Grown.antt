-- The record with one component more. Definitions only.
use Rattle.std.specs.Prelude.{◌≡◌, Bool, [], ◌+◌, ◌<◌, ◌≤◌, set, Some}
use Rattle.tag.specs.declared.Tag.{Tag as Label}
use Rattle.tag.specs.Tags.{Tag}
use Rattle.tag.specs.View.{bytes_of}
use Rattle.component.specs.declared.model_component.Component.{Component}
use Rattle.model.specs.declared.implicit_model.Model.{Model as Record}
use Rattle.model.specs.Edit.{Edit, edit, add_plain, made}
use Rattle.model.specs.View.{view}
use Rattle.edit.specs.declared.Edited.{Edited}
use Rattle.edit.specs.Ends.{Ends, Refused}
use Rattle.edit.specs.Meets.{Meets}

-- the component c under t, after the others, and the default d
abbrev pub with_more : Record → Label → Component → Label → Record
with_more m t c d = record {
  components = set m.components m.component_count (record { tag = t; component = c });
  component_count = m.component_count + 1;
  lists = m.lists;
  list_count = m.list_count;
  default = Some d;
}

-- so made, or refused with 15 where 64 components are held
pub record Grew (m : Record) (t : Label) (c : Component) (d : Label) (r : Edited) : Type 0 where
  pub full : 64 ≤ m.component_count → Refused m 15 [] 0 r
  pub more : m.component_count < 64 → Ends (made (bytes_of t)) (with_more m t c d) r

-- what both edits promise that are defined by `add_plain`
abbrev pub Plainly : Tag → Component → Bool → Record → Edited → Type 0
Plainly t c fits m r = (e : Edit) → edit e (view m) ≡ add_plain (view m) t c fits → Meets e m r
