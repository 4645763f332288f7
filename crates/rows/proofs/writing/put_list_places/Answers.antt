-- `put_list_places` meets its contract. Assumes nothing.
use Rattle.rows.proofs.Laws.Writing.{three_wrote}
use Rattle.rows.proofs.writing.put_list_places.Goals as goal

pub returns : goal.returns
returns c = three_wrote c.args.l c.live_places-places.ensures.rows c.live_places-places.ensures.bound c.put_places.ensures c.clear.ensures
