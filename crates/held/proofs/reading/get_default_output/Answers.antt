-- `held::reading::get_default_output` meets its contract. Assumes nothing.
use mathlib.Core.Path.{refl}
use Rattle.model.specs.View.{view}
use Rattle.held.proofs.reading.get_default_output.Goals as goal

pub returns : goal.returns
unfolding view
returns c = refl
