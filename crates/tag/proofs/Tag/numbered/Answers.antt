-- `tag::Tag::numbered` meets its contract: `Laws/Digits.antt`, `Laws/Numbered.antt`. Assumes nothing.
use mathlib.Core.Path.{subst}
use Rattle.tag.specs.Tags.{Tag}
use Rattle.tag.specs.Fitted.{Fitted}
use Rattle.tag.proofs.Laws.Digits.{last_digits}
use Rattle.tag.proofs.Laws.Numbered.{line_too_long, numbered_parts}
use Rattle.tag.proofs.Tag.numbered.Goals as goal

pub returns-in_err-joined : goal.returns-in_err-joined
returns-in_err-joined c = rw c.from_residual.ensures (line_too_long _ _ c.in_err-joined.ensures)

pub returns : goal.returns
returns c =
    let digits = last_digits c.args.k _ _ _ _ _ c.leading_zeros.ensures c.digit.ensures c.digit-2.ensures c.digit-3.ensures c.digit-4.ensures in
    subst (λ (u : Tag). Fitted u c.joined-2.result) (numbered_parts _ _ _ _ digits c.in_ok-joined.ensures.1.labelled.bytes) c.joined-2.ensures
