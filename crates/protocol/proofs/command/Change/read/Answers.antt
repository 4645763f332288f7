-- The longer names, from their lengths and bytes. Assumes nothing.
use Rattle.std.proofs.Common.{rules}
use Rattle.std.proofs.lemmas.Slice.Eq.{text_from_reads}
use Rattle.protocol.proofs.command.Change.read.Goals as goal

pub returns-in_ok-decimal-in-114 : goal.returns-in_ok-decimal-in-114
returns-in_ok-decimal-in-114 c = text_from_reads _ _ (search rules) (search rules)

pub returns-in_ok-text-in-114-2 : goal.returns-in_ok-text-in-114-2
returns-in_ok-text-in-114-2 c = text_from_reads _ _ (search rules) (search rules)

pub returns-in_ok-text-in-114-3-2 : goal.returns-in_ok-text-in-114-3-2
returns-in_ok-text-in-114-3-2 c = text_from_reads _ _ (search rules) (search rules)
