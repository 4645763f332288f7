-- `add_constant` meets its contract. Assumes nothing.
use mathlib.Core.Path.{ap}
use Rattle.std.proofs.Common.{rules}
use Rattle.model.specs.Edit.{add_constant}
use Rattle.word_edits.proofs.Laws.Words.{meets_as}
use Rattle.decoded.proofs.additions.add_constant.Goals as goal

pub returns : goal.returns
returns c = c.edit_in.ensures _ (λ m y k. meets_as (ap (add_constant c.args.tag.now) c.float_of-x.ensures) (search rules))
