-- `data_from` meets its contract. Assumes nothing.
use Rattle.component_layout.specs.Components.{data_from}
use Rattle.component_layout.proofs.component_words.data_from.Goals as goal

pub returns-in-2-eq0 : goal.returns-in-2-eq0
unfolding data_from
returns-in-2-eq0 c = rw (c.in-2-eq0.is-0, c.in-2-eq0.is-1)
