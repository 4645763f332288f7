-- `dw_evaluate_at` meets its contract. Assumes nothing.
use Rattle.asking.proofs.Laws.Form.{evaluates}
use Rattle.asking.proofs.form.dw_evaluate_at.Goals as goal

pub returns : goal.returns
returns c = evaluates _ _ _ _ c.number_at.ensures c.say_number.ensures
