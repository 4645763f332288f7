-- `dw_evaluate_after` meets its contract. Assumes nothing.
use Rattle.edit_lists.proofs.Laws.Lists.{asked_7, replied, asked-after}
use Rattle.std.proofs.Common.{rules}
use Rattle.edit_lists.proofs.dw_evaluate_after.Goals as goal

pub returns-in_default : goal.returns-in_default
returns-in_default c = asked_7 _ _ _ c.in_default.ensures c.plain.ensures c.tell.ensures

pub returns : goal.returns
returns c =
    asked-after _ _ _ c.in-Some.m c.in-Some.ensures c.evaluate_after-reply.ensures (replied _ c.say_number.ensures) (search rules)
