-- `float::root::Normal::root_with` meets its contract: `Laws/Even.antt` and `Laws/Normal.antt`. Assumes nothing.
use mathlib.Core.Path.{◌≡◌, refl, sym, subst}
use mathlib.Core.Bool.{Bool, true, false}
use Prim.Native.Nat.{ℕ, ◌+◌, ◌*◌, ◌/◌, ◌%◌, ◌^◌, ◌≤◌, ◌<◌}
use native.Mathlib.Nat.{mod-eq_of_lt}
use native.Mathlib.Omega.{arith}
use lib.Dec.{T}
use lib.Ieee.{Float}
use Rattle.std.specs.Prelude.{IfSome}
use Rattle.std.specs.Bool.{then_some}
use Rattle.float.specs.Units.{val}
use Rattle.float.specs.Pattern.{RootPattern}
use Rattle.float.specs.Rounded.{IsRounded}
use Rattle.float.proofs.Laws.Even.{is_root, taken_down}
use Rattle.float.proofs.Laws.Normal.{high_same}
use Rattle.float.proofs.Laws.RootValues.{no_nan_bits, pattern_root}
use Rattle.float.proofs.root.Normal.root_with.Goals as goal

-- 53 digits at the top of a word
top : (g : ℕ) → 4503599627370496 ≤ g → g < 9007199254740992 → 0 < g * 2048 % 18446744073709551616
top g l h = subst (λ (n : ℕ). 0 < n) (sym (mod-eq_of_lt (omega arith))) (omega arith)

whole : (g : ℕ) → g < 9007199254740992 → g * 2048 % 18446744073709551616 % 2048 ≡ 0
whole g h = omega arith

-- with q for the digits of b
module _ (b g : ℕ) (lo : 4503599627370496 ≤ b) (hi : b < 9218868437227405312) (top : g < 9007199254740992) where
  abbrev q : ℕ
  q = b % 4503599627370496 + 4503599627370496

  abbrev j : ℕ
  j = b / 4503599627370496 + 51

  back : g * 2048 % 18446744073709551616 / 2048 ≡ g
  back = omega arith

  join : (485 + j / 2) * 4503599627370496 + g ≡ (b / 4503599627370496 + 1021) / 2 * 4503599627370496 + g
  join = omega arith

  nonzero : b / 4503599627370496 ≡ 0 → ⊥
  nonzero z = omega arith

  is_pattern : IsRounded (q * 2048 % 18446744073709551616 / 2 ^ (10 + b / 4503599627370496 % 2) * 4503599627370496) (g * 2048 % 18446744073709551616 / 2048)
      → RootPattern (val b * 4503599627370496) ((b / 4503599627370496 + 1021) / 2 * 4503599627370496 + g)
  is_pattern R =
      subst (λ (n : ℕ). RootPattern n ((b / 4503599627370496 + 1021) / 2 * 4503599627370496 + g)) (high_same b nonzero)
      (subst (RootPattern (q * 2 ^ j)) join
      (is_root q j (omega arith) (omega arith) g (omega arith)
      (subst (λ (n : ℕ). IsRounded (n * 4503599627370496) g) (taken_down q (b / 4503599627370496) (omega arith))
      (subst (IsRounded (q * 2048 % 18446744073709551616 / 2 ^ (10 + b / 4503599627370496 % 2) * 4503599627370496)) back R))))

pub float_from_bits-root : goal.float_from_bits-root
float_from_bits-root c = no_nan_bits _ (omega (arith, c.args.self.finite, c.root_exponent.ensures))

some_if : (b : Bool) (x : Float) (P : Float → Type 0) → (b ≡ true → P x) → IfSome (then_some b x) P
some_if true x P h = h refl
some_if false x P h = tt

pub returns : goal.returns
returns c =
    let b = c.args.self in
    rw c.then_some.ensures
    (some_if c.is_rounded.result _ _ (λ e.
    pattern_root b.bits _ (omega (arith, b.not_subnormal)) b.finite
    (subst (λ (n : ℕ). RootPattern (val b.bits * 4503599627370496) (n + c.args.g)) (sym c.root_exponent.ensures)
    (is_pattern b.bits c.args.g b.not_subnormal b.finite c.requires.1 (c.is_rounded.ensures (subst T (sym e) tt))))))
