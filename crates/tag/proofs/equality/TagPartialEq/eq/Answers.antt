-- `tag::Tag::eq` meets its contract. Assumes nothing.
use mathlib.Core.Path.{◌≡◌, sym, ◌∙◌, ap, ap₂}
use mathlib.Core.Bool.{true}
use mathlib.Core.List.{reverse, reverse-reverse}
use native.Mathlib.Omega.{arith}
use lib.ListN.{length}
use Rattle.std.proofs.lemmas.Grind.{common_steps}
use borrow.Author.Tests.{ne_eqb}
use Rattle.tag.specs.Tags.{is}
use Rattle.tag.proofs.Laws.Is.{is_only, is_false}
use Rattle.tag.proofs.equality.TagPartialEq.eq.Goals as goal

pub returns-then-a-b : goal.returns-then-a-b
returns-then-a-b c =
    let a = c.as_bytes-a.result.now in
    let b = c.as_bytes-b.result.now in
    let back : c.eq.result ≡ true → reverse a ≡ reverse b = λ e. grind (arith, common_steps) in
    let same : c.eq.result ≡ true → a ≡ b = λ e. sym (reverse-reverse a) ∙ ap reverse (back e) ∙ reverse-reverse b in
    is_only c.eq.result a b same (λ e. grind (arith, common_steps)) ∙ ap₂ is c.as_bytes-a.ensures.same c.as_bytes-b.ensures.same

pub returns-else-a-b : goal.returns-else-a-b
returns-else-a-b c =
    ne_eqb _ _ c.if-a-b.false
    ∙ sym (is_false _ _ (λ e. c.if-a-b.false (ap length (c.as_bytes-a.ensures.same ∙ e ∙ sym c.as_bytes-b.ensures.same))))
