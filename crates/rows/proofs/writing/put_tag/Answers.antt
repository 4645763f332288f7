-- `put_tag` meets its contract. Assumes nothing.
use mathlib.Core.Path.{subst}
use mathlib.Core.Option.{some}
use Rattle.rows.specs.Rows.{tag_in}
use Rattle.rows.specs.Written.{Wrote}
use Rattle.rows.proofs.Laws.Writing.{tag_wrote}
use Rattle.rows.proofs.writing.put_tag.Goals as goal

pub returns : goal.returns
returns c = subst (λ b. Wrote (λ u. tag_in u c.args.at) (some b) c.args.at 40 c.args.s.now c.write_text.new.s) c.as_bytes-b.ensures.same (tag_wrote c.put_word.ensures c.write_text.ensures)
