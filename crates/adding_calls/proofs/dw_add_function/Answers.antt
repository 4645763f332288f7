-- `dw_add_function` meets its contract. Assumes nothing.
use mathlib.Core.Path.{ap}
use Rattle.model.specs.Edit.{add_function}
use Rattle.direct_words.proofs.Laws.Direct.{took_as, taken_made, not_made}
use Rattle.adding_calls.proofs.dw_add_function.Goals as goal

pub returns-in-Some : goal.returns-in-Some
returns-in-Some c = taken_made (took_as (ap (add_function c.args.tag.now) c.function_of-f.ensures) c.in-Some.ensures) c.tell.ensures

pub returns : goal.returns
returns c = not_made c.in_default.ensures c.add_function.ensures
