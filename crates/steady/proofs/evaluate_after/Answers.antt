-- `evaluate_after` meets its contract. Assumes nothing.
use mathlib.Core.Path.{sym}
use Rattle.steady.proofs.Laws.Promise.{after_list}
use Rattle.steady.proofs.evaluate_after.Goals as goal

pub returns : goal.returns
returns c = after_list c.args.edits.now (sym c.if-not-are_edits.ensures) c.run_list-newest.ensures c.evaluate_at.ensures
