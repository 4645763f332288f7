-- `move_last` meets its contract. Assumes nothing.
use mathlib.Core.Path.{subst}
use lib.ListN.{take}
use Rattle.tag.specs.Tags.{Tag}
use Rattle.tag.specs.View.{Made}
use Rattle.direct_removing.proofs.Laws.Removing.{moved-over}
use Rattle.direct_removing.proofs.move_last.Goals as goal

pub returns : goal.returns
returns c =
    moved-over c.tag_of-tag.result c.in_ok-component.component c.requires.0 c.if-i-last.false (c.in_ok-component.ensures c.requires.1)
    (subst (λ (x : Tag). Made (take 32 x) c.tag_of-tag.result) c.read_text.ensures c.tag_of-tag.ensures)
    c.put_entry.ensures
