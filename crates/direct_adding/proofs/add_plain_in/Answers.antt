-- `direct_adding::add_plain_in` meets its contract. Assumes nothing.
use Rattle.direct_rows.proofs.Laws.Parts.{whole}
use Rattle.direct_rows.proofs.Laws.Found.{component-missing, unsought}
use Rattle.standing.proofs.Laws.Checks.{fitted}
use Rattle.direct_adding.proofs.Laws.Plain.{plain_more}
use Rattle.direct_adding.proofs.add_plain_in.Goals as goal

pub returns : goal.returns
returns c =
    let a = c.args in
    let k = c.stands.ensures c.if-not-stands.false in
    let made = fitted c.try_from.result c.try_from.ensures c.in_ok-t.ensures.value in
    plain_more a.tag.now a.c _ k made.0 _ made.1.labelled (component-missing (whole k.is) (unsought c.row_of.result c.row_of.ensures c.is_some.ensures c.if-is_some.false)) _ c.add_more_in.ensures
