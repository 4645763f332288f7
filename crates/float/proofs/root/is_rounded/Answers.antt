-- `float::root::is_rounded` meets its contract: `Laws/Guess.antt`. Assumes nothing.
use mathlib.Core.Path.{subst}
use Prim.Native.Nat.{ℕ, ◌≤◌, ◌<◌}
use lib.Dec.{leb→le}
use Rattle.float.proofs.Laws.Guess.{is_rounded}
use Rattle.float.proofs.root.is_rounded.Goals as goal

pub returns-then-high_product-a : goal.returns-then-high_product-a
returns-then-high_product-a c =
    λ t.
    is_rounded c.args.a c.args.u c.requires.0 c.requires.1
    (subst (λ (n : ℕ). n < c.args.a) c.high_product.ensures c.if-high_product-a.true)
    (subst (λ (n : ℕ). c.args.a ≤ n) c.high_product-then-high_product-a.ensures (leb→le c.args.a c.high_product-then-high_product-a.result t))
