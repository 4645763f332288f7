-- `set_parameter` meets its contract. Assumes nothing.
use mathlib.Core.Path.{ap}
use Rattle.std.proofs.Common.{rules}
use Rattle.model.specs.Edit.{set_parameter}
use Rattle.word_edits.proofs.Laws.Words.{meets_as}
use Rattle.decoded.proofs.set_parameter.Goals as goal

pub returns : goal.returns
returns c = c.edit_in.ensures _ (λ m x k. meets_as (ap (set_parameter c.args.tag.now c.args.name.now) c.data_of-v.ensures) (search rules))
