-- Min and max by the tests that the code makes. Assumes nothing.
use mathlib.Core.Path.{◌≡◌, sym}
use mathlib.Core.Bool.{Bool, true, false}
use lib.Ieee.{Float, nan, inf, fin, is_nan, lt}
use Rattle.std.specs.Float.{is_sign_negative}
use Rattle.float.specs.Extrema.{negative, minimum_number, maximum_number}

abbrev Ordered : (a b x y : Float) → Type 0
Ordered a b x y = ◌≡◌ {A = Float × Float} (x, y) (minimum_number a b, maximum_number a b)

sign : (x : Float) (s : Bool) → s ≡ is_sign_negative x → negative x ≡ s
unfolding is_sign_negative
sign nan s e = sym e
sign (inf t) s e = sym e
sign (fin t m n) s e = sym e

module _ (a b : Float) where
  pub first_nan : true ≡ is_nan a → Ordered a b b b
  unfolding minimum_number maximum_number
  first_nan p = simp (sym p)

  module _ (A : false ≡ is_nan a) where
    pub second_nan : true ≡ is_nan b → Ordered a b a a
    unfolding minimum_number maximum_number
    second_nan q = simp (sym A, sym q)

    module _ (B : false ≡ is_nan b) where
      pub first_less : lt a b ≡ true → Ordered a b a b
      unfolding minimum_number maximum_number
      first_less l = simp (sym A, sym B, l)

      module _ (L : lt a b ≡ false) where
        pub second_less : lt b a ≡ true → Ordered a b b a
        unfolding minimum_number maximum_number
        second_less g = simp (sym A, sym B, L, g)

        module _ (G : lt b a ≡ false) where
          pub minus : true ≡ is_sign_negative a → Ordered a b a b
          unfolding minimum_number maximum_number
          minus s = simp (sym A, sym B, L, G, sign a true s)

          pub plus : false ≡ is_sign_negative a → Ordered a b b a
          unfolding minimum_number maximum_number
          plus s = simp (sym A, sym B, L, G, sign a false s)
