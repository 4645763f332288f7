-- `read_word` meets its contract: `Laws.antt`. Assumes nothing.
use Rattle.std.proofs.Common.{◌++◌, length, take, drop, replicate, ap, ◌∙◌}
use Rattle.layout.proofs.Laws.{word_of_whole, word_of_cut}
use Rattle.layout.proofs.words.read_word.Goals as goal
use Rattle.layout.proofs.words.read_word.Goals.{in-Some, in-None}

pub returns : goal.returns
returns c = c.from_le_bytes.ensures ∙ elim c.match-get.branch [
  | in-Some w ↦ word_of_whole c.args.s.now c.args.at c.match-get.bytes (w.bytes-is ∙ w.copy_from_slice.ensures.after ∙ w.in-Some.ensures.lookup.0.2 ∙ ap (take 8) c.rest_from-rest.ensures)
  | in-None w ↦ word_of_cut c.args.s.now c.args.at c.match-get.bytes (length c.rest_from-rest.result.now) (w.bytes-is ∙ ap (λ l. l ++ drop (length c.rest_from-rest.result.now) (replicate 8 0)) (w.copy_from_slice-in-None.ensures.after ∙ c.rest_from-rest.ensures))
]
