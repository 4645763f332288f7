-- `component_from` meets its contract. Assumes nothing.
use Rattle.component_layout.specs.Components.{component_from}
use Rattle.component_layout.proofs.component_words.component_from.Goals as goal

pub returns : goal.returns
unfolding component_from
returns c =
    rw (← c.map.ensures.kind, ← c.map.ensures.a, ← c.map.ensures.b, ← c.map.ensures.c, ← c.map.ensures.d, ← c.map.ensures.e) c.component_of.ensures
