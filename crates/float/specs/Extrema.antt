-- Min and max: the other number where one is NaN; of zeros with opposite signs, -0 and +0. Definitions only.
use Rattle.std.specs.Prelude.{Bool, false, cond, Float}
use Rattle.std.specs.Float.{nan, inf, fin}
use Rattle.std.specs.Float.Ieee.{lt, is_nan}

abbrev pub negative : Float → Bool
negative nan = false
negative (inf s) = s
negative (fin s m e) = s

unfoldable pub minimum_number : Float → Float → Float
unfolding is_nan lt
minimum_number a b = cond (is_nan a) b (cond (is_nan b) a (cond (lt a b) a (cond (lt b a) b (cond (negative a) a b))))

unfoldable pub maximum_number : Float → Float → Float
unfolding is_nan lt
maximum_number a b = cond (is_nan a) b (cond (is_nan b) a (cond (lt a b) b (cond (lt b a) a (cond (negative a) b a))))
