-- The longer names, from their lengths and bytes. Assumes nothing.
use Rattle.std.proofs.Common.{rules}
use Rattle.std.proofs.lemmas.Slice.Eq.{text_from_reads}
use Rattle.protocol.proofs.command.Change.read_adding.Goals as goal

pub returns-in_ok-component-in-97-2 : goal.returns-in_ok-component-in-97-2
returns-in_ok-component-in-97-2 c = text_from_reads _ _ (search rules) (search rules)

pub returns-in_ok-read_given-in-97-3 : goal.returns-in_ok-read_given-in-97-3
returns-in_ok-read_given-in-97-3 c = text_from_reads _ _ (search rules) (search rules)

pub returns-in_ok-component-in-97-4 : goal.returns-in_ok-component-in-97-4
returns-in_ok-component-in-97-4 c = text_from_reads _ _ (search rules) (search rules)
