-- `held::reading::list_at` meets its contract: `Laws/Reading.antt`. Assumes nothing.
use Rattle.held.proofs.Laws.Reading.{list_at}
use Rattle.held.proofs.reading.list_at.Goals as goal

pub returns : goal.returns
returns c = rw c.copied.ensures (list_at c.args.m.now c.args.i _ c.live_lists.ensures.rows c.get.ensures.lookup)
