-- Words of components, worked out. Assumes nothing.
use mathlib.Core.Path.{◌≡◌, refl}
use lib.Ieee.{nan, to_bits, of_bits}
use Rattle.component.specs.declared.model_component.Component.TheVariants.{Add, Lerp}
use Rattle.component_layout.specs.Numbers.{numbers_of, words_of}

-- words that a kind does not use are 0
pub words_of_add : words_of Add ≡ record { kind = 4; a = 0; b = 0; c = 0; d = 0; e = 0 }
unfolding words_of numbers_of to_bits of_bits
words_of_add = refl

-- a NaN is 7FF8000000000000
pub words_of_nan : words_of (Lerp nan) ≡ record { kind = 7; a = 0x7FF8_0000_0000_0000; b = 0; c = 0; d = 0; e = 0 }
unfolding words_of numbers_of to_bits of_bits
words_of_nan = refl
