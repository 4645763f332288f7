-- `read_entry` meets its contract. Assumes nothing.
use mathlib.Core.Path.{sym}
use Rattle.model_bytes.proofs.Laws.Reading.{entry_no_tag, entry_no_component, entry_is}
use Rattle.model_bytes.proofs.decode.read_entry.Goals as goal

pub returns-in_err-tag : goal.returns-in_err-tag
returns-in_err-tag c = rw c.from_residual.ensures (entry_no_tag _ _ c.in_err-tag.ensures)

pub returns-in_err-component : goal.returns-in_err-component
returns-in_err-component c = rw c.from_residual-in_err-component.ensures (entry_no_component _ _ (sym c.in_err-component.ensures))

pub returns : goal.returns
returns c = (entry_is _ _ c.in_ok-tag.ensures.0 (sym c.in_ok-component.ensures), c.in_ok-tag.ensures.1)
