-- What stands before the wire. Definitions only.
use Rattle.std.specs.Prelude.{◌≡◌, true, ℕ}
use Rattle.tag.specs.declared.Tag.{Tag as Label}
use Rattle.tag.specs.View.{bytes_of, tag_fits}
use Rattle.model.specs.declared.implicit_model.Model.{Model as Record}
use Rattle.model.specs.Model.{list}
use Rattle.model.specs.Edit.{add_input, edit, wire_in}
use Rattle.model.specs.View.{view, passes}

-- both tags are held by a model that 7 lets pass: of the edit's checks those of the target's list, and the walk, are left
pub record Held (m : Record) (t s : Label) (i : ℕ) : Type 0 where
  pub passing : passes m ≡ true
  pub short : tag_fits s ≡ true
  pub left : edit (add_input (bytes_of t) (bytes_of s) i) (view m) ≡ wire_in (view m) (bytes_of t) (bytes_of s) i (list (view m) (bytes_of t))
