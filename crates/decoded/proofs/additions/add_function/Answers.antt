-- `add_function` meets its contract. Assumes nothing.
use mathlib.Core.Path.{ap}
use Rattle.std.proofs.Common.{rules}
use Rattle.model.specs.Edit.{add_function}
use Rattle.word_edits.proofs.Laws.Words.{meets_as}
use Rattle.decoded.proofs.additions.add_function.Goals as goal

pub returns : goal.returns
returns c = c.edit_in.ensures _ (λ m x k. meets_as (ap (add_function c.args.tag.now) c.function_of-f.ensures) (search rules))
