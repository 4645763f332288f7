-- `validity::names_component` meets its contract: `Laws/Passes.antt`. Assumes nothing.
use mathlib.Core.Path.{sym, ◌∙◌}
use Rattle.model.specs.View.{components_of}
use Rattle.validity.proofs.Laws.Passes.{default-long, default-searched}
use Rattle.validity.proofs.names_component.Goals as goal

pub returns-then-fits : goal.returns-then-fits
returns-then-fits c =
    c.is_some.ensures ∙ default-searched (components_of c.args.m.now) c.args.tag _ (sym c.fits.ensures ∙ c.if-fits.true) c.find_component.ensures

pub returns-else-fits : goal.returns-else-fits
returns-else-fits c = c.if-fits.false ∙ default-long (components_of c.args.m.now) c.args.tag (sym c.fits.ensures ∙ c.if-fits.false)
