-- What holds between two rows of a list of edits. Definitions only.
use Rattle.std.specs.Prelude.{ℕ, ◌≡◌, true, false, List, [], T}
use Rattle.std.proofs.Math.Option.{some}
use Rattle.tag.specs.Tags.{Tag}
use Rattle.model.specs.declared.implicit_model.Model.{Model as Record}
use Rattle.model.specs.Model.{Model, Same, valid}
use Rattle.model.specs.View.{view, passes}
use Rattle.model.specs.Edit.{Edit}
use Rattle.edit_rows.specs.EditRows.{edits_of}
use Rattle.steady.specs.Lists.{after, newest}

-- the list es, begun on m with the target t, has `rest` left on the defined model, which w holds, with the target u
pub record Along (es : List Edit) (m : Model) (t : Tag) (rest : List Edit) (w : Model) (u : Tag) : Type 0 where
  pub model : Model
  pub valid : T (valid model)
  pub same : Same model w
  pub after : after es m ≡ after rest model
  pub newest : newest es m t ≡ newest rest model u

-- the same of the records; a record that 7 does not let pass stays as it is
pub record At (es : List Edit) (m : Record) (t : Tag) (rest : List Edit) (w : Record) (u : Tag) : Type 0 where
  pub invalid : passes m ≡ false → w ≡ m
  pub passing : passes m ≡ true → passes w ≡ true
  pub along : passes m ≡ true → Along es (view m) t rest (view w) u

-- where the bytes are a list of edits, all of it was run
abbrev pub Listed : List ℕ → Record → Tag → Record → Tag → Type 0
Listed s m t n u = (es : List Edit) → edits_of s ≡ some es → At es m t [] n u
