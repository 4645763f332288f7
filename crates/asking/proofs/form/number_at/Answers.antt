-- `asking::form::number_at` meets its contract. Assumes nothing.
use Rattle.asking.proofs.Laws.Form.{replied_direct, replied_7, replied}
use Rattle.asking.proofs.form.number_at.Goals as goal

pub returns-in-Some : goal.returns-in-Some
returns-in-Some c = replied_direct _ _ _ c.in-Some.ensures

pub returns-in_err-m : goal.returns-in_err-m
returns-in_err-m c = replied_7 _ _ _ _ _ c.in_err-m.ensures c.from_residual.ensures.1

pub returns : goal.returns
returns c = replied _ _ _ c.in_ok-m.m c.in_ok-m.ensures c.evaluate_at.ensures
