-- `held::reading::new` meets its contract: `Laws/Reading.antt`. Assumes nothing.
use mathlib.Core.Path.{refl}
use Rattle.held.proofs.Laws.Reading.{new-record}
use Rattle.held.proofs.reading.new.Goals as goal

pub returns : goal.returns
returns c = new-record _ refl refl refl
