-- `direct_adding::add_constant_in` meets its contract. Assumes nothing.
use Rattle.adding.proofs.Laws.Plain.{constant_is}
use Rattle.direct_adding.proofs.add_constant_in.Goals as goal

pub returns : goal.returns
returns c = let a = c.args in c.add_plain_in.ensures _ (constant_is a.tag.now a.value)
