-- The sign of the torus's root by the code's test. The code's 0.0 is the double of the bits 0. Assumes nothing.
use mathlib.Core.Path.{◌≡◌, refl}
use mathlib.Core.Bool.{Bool, true, false, cond}
use lib.IntN.{pos}
use lib.Ieee.{Float, fin, neg, lt}
use Rattle.float.specs.RootOf.{root_of}
use Rattle.shapes.specs.Distance.{signed_root}
use Rattle.shapes.specs.Signed.{signed_like}

module _ (s : Float) where
  either : (b : Bool) → cond b (neg (root_of (cond b (neg s) s))) (root_of (cond b (neg s) s)) ≡ cond b (neg (root_of (neg s))) (root_of s)
  either true = refl
  either false = refl

  pub one_root : signed_like s (root_of (signed_like s s)) ≡ signed_root s
  unfolding signed_like signed_root
  one_root = either (lt s (fin false 0 (pos 0)))
