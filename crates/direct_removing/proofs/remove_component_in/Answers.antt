-- `remove_component_in` meets its contract. Assumes nothing.
use mathlib.Core.Path.{refl}
use Rattle.direct_rows.proofs.Laws.Took.{takes_yes}
use Rattle.direct_removing.proofs.Laws.Removing.{remove-done}
use Rattle.direct_removing.proofs.remove_component_in.Goals as goal

pub returns : goal.returns
returns c =
    let i = c.in_ok-i.ensures in
    takes_yes (remove-done _ i.passing i.short i.row c.count-last.ensures refl
    refl c.in_ok-move_last.ensures c.write_number.ensures c.swap_places.ensures)
