-- `validity::default_sound` meets its contract: `Laws/Passes.antt`. Assumes nothing.
use Rattle.std.proofs.Common.{rules}
use Rattle.model.specs.View.{components_of}
use Rattle.validity.proofs.Laws.Passes.{default-asked}
use Rattle.validity.proofs.default_sound.Goals as goal

pub returns : goal.returns
returns c = default-asked (components_of c.args.m.now) c.args.m.now.default _ (λ t k. search rules) c.is_none_or.ensures
