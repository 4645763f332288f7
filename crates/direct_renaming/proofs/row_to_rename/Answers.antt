-- `row_to_rename` meets its contract. Assumes nothing.
use Rattle.direct_rows.proofs.Laws.Found.{unsought}
use Rattle.direct_renaming.proofs.Laws.Renaming.{renamable}
use Rattle.direct_renaming.proofs.row_to_rename.Goals as goal

pub returns : goal.returns
returns c =
    renamable c.in_ok-row.ensures c.requires
    (unsought c.row_of.result c.row_of.ensures c.is_some.ensures c.if-is_some.false)
    (unsought c.row_of-else-is_some.result c.row_of-else-is_some.ensures c.is_some-else-is_some.ensures c.if-is_some-2.false)
