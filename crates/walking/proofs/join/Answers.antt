-- `walking::join` meets its contract. Assumes nothing.
use mathlib.Core.Path.{refl}
use Rattle.walking.specs.Walking.{absent}
use Rattle.edit.proofs.Laws.Tests.{missing}
use Rattle.walking.proofs.Laws.Line.{sought_row, joined_by}
use Rattle.walking.proofs.join.Goals as goal

pub returns-in-Some : goal.returns-in-Some
returns-in-Some c = joined_by (sought_row c.find_list.ensures c.in-Some.is) (c.find_list.ensures.within _ c.in-Some.is) c.push.ensures

pub returns-in_default : goal.returns-in_default
returns-in_default c = absent (missing c.find_list.ensures c.in_default.is) refl
