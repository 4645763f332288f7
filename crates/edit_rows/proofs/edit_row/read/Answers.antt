-- `read` meets its contract. Assumes nothing.
use mathlib.Core.Path.{refl, sym, ◌∙◌}
use Rattle.edit_rows.proofs.Laws.{edit-none, edit_there, edit_absent}
use Rattle.edit_rows.proofs.edit_row.read.Goals as goal

pub returns-then-not-texts_fit : goal.returns-then-not-texts_fit
returns-then-not-texts_fit c = sym (edit-none _ _ (sym c.if-not-texts_fit.ensures))

pub returns-in_err-data-in-9 : goal.returns-in_err-data-in-9
returns-in_err-data-in-9 c = rw c.from_residual.ensures (edit_absent _ _ _ (sym c.if-not-texts_fit.ensures) (sym c.read_word.ensures ∙ c.in-9.is) refl c.in_err-data-in-9.ensures)

pub returns-in_ok-data-in-9 : goal.returns-in_ok-data-in-9
returns-in_ok-data-in-9 c = rw (c.read_text-tag.ensures, c.read_text-second.ensures) (edit_there _ _ _ (sym c.if-not-texts_fit.ensures) (sym c.read_word.ensures ∙ c.in-9.is) refl c.in_ok-data-in-9.ensures)
