-- `add_input` meets its contract. Assumes nothing.
use Rattle.std.proofs.Common.{rules}
use Rattle.decoded.proofs.add_input.Goals as goal

pub returns : goal.returns
returns c = c.edit_in.ensures _ (λ m x k. search rules)
