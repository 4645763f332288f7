-- `direct_adding::put::put_more` meets its contract. Assumes nothing.
use Rattle.direct_adding.proofs.Laws.Written.{more-written}
use Rattle.direct_adding.proofs.put.put_more.Goals as goal

pub returns : goal.returns
returns c = λ e h. more-written c.args.d e h c.put_entry.ensures c.write_place.ensures c.write_number.ensures
