-- `dw_new` meets its contract. Assumes nothing.
use Rattle.edit_lists.proofs.Laws.Lists.{begun}
use Rattle.edit_lists.proofs.dw_new.Goals as goal

pub returns : goal.returns
returns c = begun _ c.begin.ensures c.tell.ensures
