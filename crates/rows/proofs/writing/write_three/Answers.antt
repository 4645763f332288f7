-- `write_three` meets its contract. Assumes nothing.
use mathlib.Core.Path.{sym, ◌∙◌}
use borrow.Author.Tests.{leb-true, leb-false}
use Rattle.rows.proofs.Laws.Writing.{three_words, writes, narrow}
use Rattle.rows.proofs.writing.write_three.Goals as goal

pub put_words-requires : goal.put_words-requires
put_words-requires c = leb-true _ _ (sym c.has_room.ensures ∙ c.if-has_room.true)

pub returns-then-has_room : goal.returns-then-has_room
returns-then-has_room c = writes (leb-true _ _ (sym c.has_room.ensures ∙ c.if-has_room.true)) (three_words c.put_words.ensures)

pub returns-else-has_room : goal.returns-else-has_room
returns-else-has_room c = narrow (leb-false _ _ (sym c.has_room.ensures ∙ c.if-has_room.false))
