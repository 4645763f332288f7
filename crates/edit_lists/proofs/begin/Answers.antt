-- `begin` meets its contract. Assumes nothing.
use Rattle.edit_lists.proofs.Laws.Lists.{begins_7, begins_new}
use Rattle.std.proofs.Common.{rules}
use Rattle.edit_lists.proofs.begin.Goals as goal

pub returns-then-model-ne-MODEL_SIZE : goal.returns-then-model-ne-MODEL_SIZE
returns-then-model-ne-MODEL_SIZE c = begins_7 _ c.if-model-ne-MODEL_SIZE.true c.plain.ensures

pub returns : goal.returns
returns c = begins_new c.if-model-ne-MODEL_SIZE.false c.new.ensures (search rules)
