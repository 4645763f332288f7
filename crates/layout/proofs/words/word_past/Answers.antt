-- `word_past` meets its contract: `Laws.antt`. Assumes nothing.
use Rattle.std.proofs.Common.{arith, ap, ◌+◌, ◌-◌, ◌^◌, ◌∙◌}
use Rattle.layout.specs.Words.{word}
use Rattle.layout.proofs.Laws.{word_far}
use Rattle.layout.proofs.words.word_past.Goals as goal

pub returns : goal.returns
returns c = c.read_word.ensures ∙ ap (word c.args.s.now) c.saturating_add.ensures ∙ word_far c.args.s.now (c.args.at + c.args.offset) (2 ^ 64 - 1) (omega arith)
