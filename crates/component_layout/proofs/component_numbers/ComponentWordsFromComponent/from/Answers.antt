-- The words of a component meet their contract. Assumes nothing.
use Rattle.component_layout.proofs.Numbers.{worded}
use Rattle.component_layout.proofs.component_numbers.ComponentWordsFromComponent.from.Goals as goal

pub returns : goal.returns
returns c =
    let m = c.map.ensures in
    rw m.kind (worded c.args.component c.from.ensures m.a m.b m.c m.d m.e)
