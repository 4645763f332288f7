-- `held::find::find_list` meets its contract: `Laws/Search.antt`. Assumes nothing.
use Rattle.tag.specs.View.{bytes_of}
use Rattle.model.specs.View.{list_of}
use Rattle.held.proofs.Laws.Search.{sought}
use Rattle.held.proofs.find.find_list.Goals as goal

pub returns : goal.returns
returns c =
    let m = c.args.m.now in
    sought list_of m.lists m.list_count 128 (bytes_of c.args.t) c.live_lists.ensures.rows c.live_lists.ensures.bound c.position_of.ensures
