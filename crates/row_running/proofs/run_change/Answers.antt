-- `run_change` meets its contract. Assumes nothing.
use mathlib.Core.Path.{refl, sym, ap, ◌∙◌}
use Rattle.model.specs.Answer.{answer_of}
use Rattle.edit_rows.specs.declared.edit_row.Change.{Change}
use Rattle.edit_rows.specs.Changes.{edit_of}
use Rattle.newest.specs.Carried.{carried}
use Rattle.row_running.proofs.Laws.{stays}
use Rattle.row_running.proofs.run_change.Goals as goal

pub returns-in_default : goal.returns-in_default
returns-in_default c = record {
  edited = record { answer = c.make-answer.result; model = c.make-answer.new.model };
  meets = c.make-answer.ensures;
  model = refl;
  tag = sym (stays c.args.change c.in_default.not-RenameComponent (answer_of c.make-answer.result) c.args.newest.now);
}

pub returns-in-RenameComponent : goal.returns-in-RenameComponent
unfolding carried
returns-in-RenameComponent c = record {
  edited = record { answer = c.make-answer.result; model = c.make-answer.new.model };
  meets = c.make-answer.ensures;
  model = refl;
  tag = c.after.ensures
      ∙ ap (λ (x : Change). carried (edit_of x) (answer_of c.make-answer.result) c.args.newest.now) (sym c.in-RenameComponent.is);
}
