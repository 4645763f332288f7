-- `clear` meets its contract. Assumes nothing.
use native.Mathlib.Omega.{arith}
use mathlib.Core.Path.{◌≡◌, refl, ◌∙◌, ap}
use Prim.Native.Nat.{ℕ, ◌+◌, ◌-◌}
use lib.ListN.{length, replicate}
use Rattle.std.proofs.lemmas.Grind.{common_steps}
use Rattle.rows.proofs.Laws.Writing.{cleared}
use Rattle.rows.proofs.writing.clear.Goals as goal

pub returns : goal.returns
returns c =
    let wide : c.args.at + c.args.n - c.args.at ≡ c.args.n = omega arith in
    let size : length c.fill.new.self ≡ c.args.n = grind (arith, common_steps) in
    cleared c.args.s.now c.fill.new.self c.args.at c.args.n c.requires size wide (c.fill.ensures.after (λ y e. e) ∙ ap (λ (n : ℕ). replicate n 0) (grind (arith, common_steps))) refl
