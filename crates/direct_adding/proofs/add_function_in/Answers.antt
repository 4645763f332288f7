-- `direct_adding::add_function_in` meets its contract. Assumes nothing.
use Rattle.std.proofs.Common.{rules}
use Rattle.adding.proofs.Laws.Plain.{function_is}
use Rattle.direct_adding.proofs.add_function_in.Goals as goal

pub returns : goal.returns
returns c = let a = c.args in c.add_plain_in.ensures _ (λ m. function_is a.tag.now a.c m _ (search rules))
