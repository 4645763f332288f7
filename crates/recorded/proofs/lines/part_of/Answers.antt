-- The first feed ends the part. Assumes nothing.
use Rattle.std.proofs.Common.{rules}
use Rattle.recorded.proofs.LineParts.{at_feed, no_feed}
use Rattle.recorded.proofs.lines.part_of.Goals as goal

pub returns-in-Some-clause-one : goal.returns-in-Some-clause-one
returns-in-Some-clause-one c = (at_feed c.args.shown.now c.in-Some.at (search rules)).0

pub returns-in-Some-clause-front : goal.returns-in-Some-clause-front
returns-in-Some-clause-front c = (at_feed c.args.shown.now c.in-Some.at (search rules)).1

pub returns-in-None-clause-one : goal.returns-in-None-clause-one
returns-in-None-clause-one c = no_feed c.args.shown.now (search rules)
