-- `edit_in` meets its contract. Assumes nothing.
use Rattle.storing.proofs.Laws.Stored.{called, called_7}
use Rattle.decoded.proofs.edited.edit_in.Goals as goal

pub returns-in-Ok : goal.returns-in-Ok
returns-in-Ok g c = λ e edits. called e _ c.in-Ok.m c.in-Ok.ensures (edits c.in-Ok.m c.edit.result c.edit.ensures) c.store.ensures

pub returns-in-Err : goal.returns-in-Err
returns-in-Err g c = λ e edits. called_7 e _ c.in-Err.ensures.0 c.in-Err.ensures.1 c.tell.ensures
