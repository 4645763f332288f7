-- `read_text` meets its contract: `Laws.antt`. Assumes nothing.
use Rattle.std.proofs.Common.{◌≡◌, ◌+◌, ◌-◌, ◌^◌, drop, arith, ap, ◌∙◌}
use Rattle.std.proofs.lemmas.List.{take_min}
use Rattle.layout.specs.Words.{text}
use Rattle.layout.proofs.Laws.{drop_far}
use Rattle.layout.proofs.words.read_text.Goals as goal

pub returns : goal.returns
unfolding text
returns c =
    let rest : c.rest_from-rest.result.now ≡ drop (c.args.at + 8) c.args.s.now = c.rest_from-rest.ensures ∙ ap (λ n. drop n c.args.s.now) c.saturating_add.ensures ∙ drop_far c.args.s.now (c.args.at + 8) (2 ^ 64 - 1) (omega arith) in
    rw (c.min.ensures, take_min, c.read_word-len.ensures, rest)
