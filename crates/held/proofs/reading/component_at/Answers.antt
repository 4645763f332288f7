-- `held::reading::component_at` meets its contract: `Laws/Reading.antt`. Assumes nothing.
use Rattle.held.proofs.Laws.Reading.{entry_at}
use Rattle.held.proofs.reading.component_at.Goals as goal

pub returns : goal.returns
returns c = rw c.copied.ensures (entry_at c.args.m.now c.args.i _ c.live_components.ensures.rows c.get.ensures.lookup)
