-- `place_text` meets its contract. Assumes nothing.
use Rattle.std.proofs.Common.{rules}
use Rattle.finding.proofs.Laws.Places.{place_read}
use Rattle.finding.proofs.place_text.Goals as goal

pub returns : goal.returns
returns c =
    let rest = c.in_ok-get.ensures.lookup.0 in
    place_read c.args.s.now c.args.at c.read_word-len.ensures c.if-len-eq0.false (search rules) rest.2 rest.3 c.get-2.result c.get-2.ensures.lookup.0
