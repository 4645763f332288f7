-- What is promised of one edit of a list. Definitions only.
use Rattle.std.specs.Prelude.{◌≡◌}
use Rattle.tag.specs.Tags.{Tag}
use Rattle.model.specs.declared.implicit_model.Model.{Model as Record}
use Rattle.model.specs.Edit.{Edit}
use Rattle.model.specs.Answer.{answer_of}
use Rattle.edit.specs.declared.Edited.{Edited}
use Rattle.edit.specs.Meets.{Meets}
use Rattle.newest.specs.Carried.{carried}

-- one edit more: m and the target t became n and u
pub record Step (e : Edit) (m : Record) (t : Tag) (n : Record) (u : Tag) : Type 0 where
  pub edited : Edited
  pub meets : Meets e m edited
  pub model : n ≡ edited.model
  pub tag : u ≡ carried e (answer_of edited.answer) t
