-- `names` meets its contract. Assumes nothing.
use Rattle.direct_swapping.proofs.Laws.Swapping.{names_by}
use Rattle.direct_swapping.proofs.names.Goals as goal

pub returns : goal.returns
returns c = names_by c.args.s.now c.args.at c.args.t c.requires c.place_text.result c.place_text.ensures c.eq.ensures
