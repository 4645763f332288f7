-- `held::find::find_component` meets its contract: `Laws/Search.antt`. Assumes nothing.
use Rattle.tag.specs.View.{bytes_of}
use Rattle.model.specs.View.{component_of}
use Rattle.held.proofs.Laws.Search.{sought}
use Rattle.held.proofs.find.find_component.Goals as goal

pub returns : goal.returns
returns c =
    let m = c.args.m.now in
    sought component_of m.components m.component_count 64 (bytes_of c.args.t) c.live_components.ensures.rows c.live_components.ensures.bound c.position_of.ensures
