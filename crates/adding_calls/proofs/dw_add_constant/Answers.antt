-- `dw_add_constant` meets its contract. Assumes nothing.
use mathlib.Core.Path.{ap}
use Rattle.model.specs.Edit.{add_constant}
use Rattle.direct_words.proofs.Laws.Direct.{took_as, taken_made, not_made}
use Rattle.adding_calls.proofs.dw_add_constant.Goals as goal

pub returns-in-Some : goal.returns-in-Some
returns-in-Some c = taken_made (took_as (ap (add_constant c.args.tag.now) c.float_of.ensures) c.in-Some.ensures) c.tell.ensures

pub returns : goal.returns
returns c = not_made c.in_default.ensures c.add_constant.ensures
