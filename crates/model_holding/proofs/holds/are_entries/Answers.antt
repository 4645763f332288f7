-- `are_entries` meets its contract. Assumes nothing.
use Rattle.std.proofs.Common.{rules}
use Rattle.model_bytes.specs.ModelBytes.{entry_row}
use Rattle.model_holding.specs.Holds.{Held}
use Rattle.model_holding.proofs.Laws.{all_below, rows_held}
use Rattle.model_holding.proofs.holds.are_entries.Goals as goal

pub returns : goal.returns
returns c =
    let row = entry_row c.args.s.now in
    λ e. rows_held row c.args.n (all_below (λ i. Held (row i)) c.args.n _ _ _ c.all.ensures.ran (λ i q k. search rules) e)
