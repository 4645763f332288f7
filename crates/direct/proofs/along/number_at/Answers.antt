-- `number_at` meets its contract. Assumes nothing.
use mathlib.Core.Path.{sym}
use mathlib.Core.List.{[], ◌∷◌}
use lib.Ieee.{nan}
use lib.ListN.{get_or}
use Rattle.standing.proofs.Laws.Checks.{three}
use native.Mathlib.Omega.{arith}
use Rattle.direct.proofs.along.number_at.Goals as goal

pub returns : goal.returns
returns c = record {
  below = omega (arith, c.count.ensures);
  component = c.in_ok-component.component;
  is = sym (c.in_ok-component.ensures (omega (arith, c.count.ensures)));
  input = λ q. get_or (c.in_ok-a.a ∷ c.in_ok-b.b ∷ c.in_ok-c.c ∷ []) q nan;
  brings = three _ c.in_ok-a.ensures c.in_ok-b.ensures c.in_ok-c.ensures;
  value = c.compute.ensures;
}
