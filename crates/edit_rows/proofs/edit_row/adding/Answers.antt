-- `adding` meets its contract. Assumes nothing.
use native.Mathlib.Omega.{arith}
use mathlib.Core.Path.{refl, sym, ◌∙◌}
use Rattle.edit_rows.proofs.Laws.{edit_beyond, edit_there, edit_absent}
use Rattle.edit_rows.proofs.edit_row.adding.Goals as goal

pub returns-in_err-component-in-1 : goal.returns-in_err-component-in-1
returns-in_err-component-in-1 c = rw c.from_residual.ensures (edit_absent _ _ _ c.requires.fits (sym c.read_word.ensures ∙ c.in-1.is) refl c.in_err-component-in-1.ensures)

pub returns-in_err-component-in-3 : goal.returns-in_err-component-in-3
returns-in_err-component-in-3 c = rw c.from_residual-in_err-component-in-3.ensures (edit_absent _ _ _ c.requires.fits (sym c.read_word.ensures ∙ c.in-3.is) refl c.in_err-component-in-3.ensures)

pub returns-in_err-component-in-4 : goal.returns-in_err-component-in-4
returns-in_err-component-in-4 c = rw c.from_residual-in_err-component-in-4.ensures (edit_absent _ _ _ c.requires.fits (sym c.read_word.ensures ∙ c.in-4.is) refl c.in_err-component-in-4.ensures)

pub returns-in_ok-component-in-1 : goal.returns-in_ok-component-in-1
returns-in_ok-component-in-1 c = rw (c.read_text-tag.ensures, c.inputs.ensures) (edit_there _ _ _ c.requires.fits (sym c.read_word.ensures ∙ c.in-1.is) refl c.in_ok-component-in-1.ensures)

pub returns-in_ok-component-in-3 : goal.returns-in_ok-component-in-3
returns-in_ok-component-in-3 c = rw c.read_text-tag.ensures (edit_there _ _ _ c.requires.fits (sym c.read_word.ensures ∙ c.in-3.is) refl c.in_ok-component-in-3.ensures)

pub returns-in_ok-component-in-4 : goal.returns-in_ok-component-in-4
returns-in_ok-component-in-4 c = rw c.read_text-tag.ensures (edit_there _ _ _ c.requires.fits (sym c.read_word.ensures ∙ c.in-4.is) refl c.in_ok-component-in-4.ensures)

pub returns-in_default : goal.returns-in_default
returns-in_default c = edit_beyond _ _ c.read_word.result c.requires.fits (sym c.read_word.ensures) (λ h. omega (arith, c.requires.number (omega (arith, c.read_word.ensures)), c.read_word.ensures))
