-- `write_padded` meets its contract. Assumes nothing.
use Rattle.std.proofs.Common.{arith, sym, ◌∙◌, ap, ◌≡◌, length, ℕ, ◌+◌, ◌-◌, replicate}
use Rattle.std.proofs.lemmas.Grind.{common_steps}
use Rattle.report.proofs.Laws.{padded-put}
use Rattle.report.proofs.write_padded.Goals as goal

pub returns : goal.returns
returns c =
    let wide : length c.fill.new.self ≡ 56 - (24 + length c.args.tag.now) = grind (arith, common_steps) in
    padded-put c.args.tag.now c.args.out.now (omega arith) (omega arith) (omega arith) (omega arith) c.copy_from_slice.ensures.after
    (c.fill.ensures.after (λ y e. e) ∙ ap (λ (n : ℕ). replicate n 0) (sym c.fill.ensures.len ∙ wide))
