-- `held::reading::get_component` meets its contract: `Laws/Reading.antt`. Assumes nothing.
use mathlib.Core.Path.{sym, ◌∙◌}
use Rattle.tag.specs.View.{bytes_of}
use Rattle.held.proofs.Laws.Reading.{component-held, component-missing}
use Rattle.held.proofs.reading.get_component.Goals as goal

pub returns-in_err-i : goal.returns-in_err-i
returns-in_err-i c = rw c.from_residual.ensures (component-missing c.args.m.now (bytes_of c.args.t) (sym c.find_component.ensures.at ∙ c.in_err-i.was))

pub returns : goal.returns
returns c = component-held c.args.m.now (bytes_of c.args.t) c.in_ok-i.i (sym c.find_component.ensures.at ∙ c.in_ok-i.was)
