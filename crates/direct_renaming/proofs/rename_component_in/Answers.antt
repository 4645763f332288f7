-- `rename_component_in` meets its contract. Assumes nothing.
use Rattle.standing.proofs.Laws.Checks.{fitted}
use Rattle.direct_renaming.proofs.Laws.Renaming.{rename-done}
use Rattle.direct_renaming.proofs.rename_component_in.Goals as goal

pub row_to_rename-requires : goal.row_to_rename-requires
row_to_rename-requires c = (fitted c.try_from.result c.try_from.ensures c.in_ok-t.ensures.value).0

pub returns : goal.returns
returns c =
    rename-done _ _ c.in_ok-i.ensures _ c.row_of-row.ensures c.in_ok-t.t (fitted c.try_from.result c.try_from.ensures c.in_ok-t.ensures.value).1 c.write_tag.ensures c.rename_list.ensures c.swap_places.ensures
