-- `float::root::root` meets its contract: each way out of it is a root by a fact of `Laws/RootValues.antt`, and so the only one. Assumes nothing.
use mathlib.Core.Path.{◌≡◌, refl, sym, ap, ◌∙◌, subst}
use mathlib.Core.Bool.{true}
use Rattle.std.proofs.Math.Logic.{⊎_elim}
use Prim.Native.Nat.{ℕ}
use native.Mathlib.Omega.{arith}
use lib.Dec.{T}
use lib.Ieee.{Float, nan, binary64, fits, of_bits, to_bits}
use lib.Ieee.Fits.{nan-fits}
use lib.Ieee.Bits.{of_bits-to_bits, to_bits-lt}
use Rattle.float.specs.Root.{IsRoot}
use Rattle.float.specs.RootOf.{root_of}
use Rattle.float.proofs.Theorems.Nan.{nan_of}
use Rattle.float.proofs.Laws.RootValues.{no_root, own_zero, own_inf, own_minus_zero, own_nan}
use Rattle.float.proofs.Theorems.Root.{root_only}
use Rattle.float.proofs.root.root.Goals as goal

-- x is a double: a root of the number that its pattern gives is its root
module _ (x : Float) (double : fits binary64 x ≡ true) where
  fitting : T (fits binary64 x)
  fitting = subst T (sym double) tt

  back : of_bits binary64 (to_bits binary64 x) ≡ x
  back = of_bits-to_bits binary64 x fitting

  by_pattern : (r : Float) → fits binary64 r ≡ true → IsRoot (of_bits binary64 (to_bits binary64 x)) r → r ≡ root_of x
  by_pattern r f R = root_only x r fitting (subst T (sym f) tt) (subst (λ (v : Float). IsRoot v r) back R)

  own : (n : ℕ) → to_bits binary64 x ≡ n → IsRoot (of_bits binary64 n) (of_bits binary64 n) → x ≡ root_of x
  own n e R = root_only x x fitting fitting (subst (λ (v : Float). IsRoot v v) (ap (of_bits binary64) (sym e) ∙ back) R)

pub returns-then-is_nan : goal.returns-then-is_nan
returns-then-is_nan c =
    let f = fitting c.args.x c.well_formed.0.1 in
    root_only c.args.x c.args.x f f (subst (λ (v : Float). IsRoot v v) (sym (nan_of c.args.x (sym c.if-is_nan.ensures.value))) refl)

pub returns-then-b-ge-EXPONENT_UNIT : goal.returns-then-b-ge-EXPONENT_UNIT
returns-then-b-ge-EXPONENT_UNIT c = by_pattern c.args.x c.well_formed.0.1 c.root.result c.root.type_inv c.root.ensures

pub returns-then-b-eq0 : goal.returns-then-b-eq0
returns-then-b-eq0 c = own c.args.x c.well_formed.0.1 0 c.if-b-eq0.true own_zero

pub returns-then-b-lt-INFINITY_BITS : goal.returns-then-b-lt-INFINITY_BITS
returns-then-b-lt-INFINITY_BITS c = by_pattern c.args.x c.well_formed.0.1 c.slow_root.result c.slow_root.type_inv c.slow_root.ensures

pub returns-then-b-eq-INFINITY_BITS : goal.returns-then-b-eq-INFINITY_BITS
returns-then-b-eq-INFINITY_BITS c =
    ⊎_elim (λ e. own c.args.x c.well_formed.0.1 _ e own_inf) (λ e. own c.args.x c.well_formed.0.1 _ e.1 own_minus_zero)
    c.then-b-eq-INFINITY_BITS.either

pub returns : goal.returns
returns c =
    let f = fitting c.args.x c.well_formed.0.1 in
    own_nan
    ∙ root_only c.args.x nan f (nan-fits binary64)
    (subst (λ (v : Float). IsRoot v nan) (back c.args.x c.well_formed.0.1)
    (no_root (to_bits binary64 c.args.x) (omega arith) (to_bits-lt binary64 c.args.x f) c.if-b.false))
