-- `put_words` meets its contract. Assumes nothing.
use native.Mathlib.Omega.{arith}
use mathlib.Core.Path.{subst}
use Rattle.rows.specs.Written.{WroteWords}
use Rattle.rows.proofs.Laws.Writing.{words-none, words-more}
use Rattle.rows.proofs.writing.put_words.Goals as goal

pub loop-i-init : goal.loop-i-init
loop-i-init c = words-none _ _ _

pub loop-i-preserved : goal.loop-i-preserved
loop-i-preserved c = words-more _ _ c.loop-i.invariant c.put_word.ensures

pub returns : goal.returns
returns c = subst (λ n. WroteWords c.args.words.now n c.args.at c.args.s.now c.loop-i.s) (omega arith) c.loop-i.invariant
