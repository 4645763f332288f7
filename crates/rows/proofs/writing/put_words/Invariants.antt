-- `put_words` meets its contract. Assumes nothing.
use Rattle.rows.specs.Written.{WroteWords}
use Rattle.rows.proofs.writing.put_words.Given as goal

abbrev pub invariant-loop-i : goal.invariant-loop-i
invariant-loop-i l = WroteWords l.words l.i l.at l.initial.s l.s
