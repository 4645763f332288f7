-- What the helpers of the torus promise. Definitions only.
use Rattle.std.specs.Prelude.{false, cond, pos, Float}
use Rattle.std.specs.Float.{fin}
use Rattle.std.specs.Float.Ieee.{neg, lt}

-- r, with its sign turned where s is below 0
unfoldable pub signed_like : Float → Float → Float
signed_like s r = cond (lt s (fin false 0 (pos 0))) (neg r) r
