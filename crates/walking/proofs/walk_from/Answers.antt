-- `walking::walk_from` meets its contract. Assumes nothing.
use Rattle.edit.proofs.Laws.Tests.{missing}
use Rattle.walking.proofs.Laws.Line.{sought_row, wires-absent, wires_row}
use Rattle.walking.proofs.walk_from.Goals as goal

pub returns-in_default : goal.returns-in_default
returns-in_default c = λ w. wires-absent _ w (missing c.find_list.ensures c.in_default.is)

pub returns : goal.returns
returns c =
    let x = sought_row c.find_list.ensures c.in-Some.is in
    λ w. wires_row c.args.m.now c.args.target _ x (c.walk.ensures (record { passing = w.passing; ends = w.ends; starts = x.within }))
