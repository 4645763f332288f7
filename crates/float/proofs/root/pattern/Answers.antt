-- `float::root::pattern` meets its contract: `Laws/Normal.antt`. Assumes nothing.
use mathlib.Core.Path.{subst}
use Prim.Native.Nat.{ℕ, ◌<◌}
use native.Mathlib.Omega.{arith}
use Rattle.float.specs.Pattern.{RootPattern}
use Rattle.float.proofs.Laws.Normal.{z_ge, low_ge, low_lt, low_same, high_same}
use Rattle.float.proofs.root.pattern.Goals as goal

pub overflow_sub-s : goal.overflow_sub-s
overflow_sub-s c =
    let small : c.args.b < 4503599627370496 = omega arith in
    omega (arith, z_ge c.args.b c.requires.0 (small))

pub placed-requires : goal.placed-requires
placed-requires c =
    let small : c.args.b < 4503599627370496 = omega arith in
    (low_ge c.args.b c.requires.0 (small), low_lt c.args.b c.requires.0 (small), omega arith)

pub returns-then-e-eq0 : goal.returns-then-e-eq0
returns-then-e-eq0 c =
    let small : c.args.b < 4503599627370496 = omega arith in
    subst (λ (n : ℕ). RootPattern n c.placed.result) (low_same c.args.b c.requires.0 (small)) c.placed.ensures

pub returns-else-e-eq0 : goal.returns-else-e-eq0
returns-else-e-eq0 c =
    subst (λ (n : ℕ). RootPattern n c.placed-else-e-eq0.result) (high_same c.args.b c.if-e-eq0.false) c.placed-else-e-eq0.ensures
