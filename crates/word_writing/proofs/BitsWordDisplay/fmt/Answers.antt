-- Of the placeholder. Assumes nothing.
use Rattle.std.proofs.Common.{rules}
use Rattle.word_writing.proofs.Hex.{shown}
use Rattle.word_writing.proofs.BitsWordDisplay.fmt.Goals as goal

pub returns-clause-writes : goal.returns-clause-writes
returns-clause-writes g c = shown 15 c.args.self.now.0 c.in_radix.result c.laid_out.result c.in_radix.ensures c.laid_out.ensures (search rules) (search rules) _ _ _ _ c.write.ensures.writes
