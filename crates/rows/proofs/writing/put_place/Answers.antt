-- `put_place` meets its contract. Assumes nothing.
use mathlib.Core.Path.{subst}
use mathlib.Core.Option.{some}
use Rattle.model.specs.View.{place_of}
use Rattle.rows.specs.Rows.{place_in}
use Rattle.rows.specs.Written.{Wrote}
use Rattle.rows.proofs.Laws.Writing.{place-wrote, unassigned_wrote}
use Rattle.rows.proofs.writing.put_place.Goals as goal

pub returns-in-Some : goal.returns-in-Some
unfolding place_of
returns-in-Some c = rw c.in-Some.is (subst (λ b. Wrote (λ u. place_in u c.args.at) (some (some b)) c.args.at 40 c.args.s.now c.write_text.new.s) c.as_bytes-b.ensures.same (place-wrote c.put_word.ensures c.write_text.ensures))

pub returns-in-None : goal.returns-in-None
unfolding place_of
returns-in-None c = rw c.in-None.is (unassigned_wrote c.put_word-in-None.ensures c.clear.ensures)
