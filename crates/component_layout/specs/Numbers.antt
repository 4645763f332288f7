-- A component as its kind and its numbers, and as six words. Definitions only.
use Rattle.std.specs.Prelude.{ℕ, ◌≡◌, Float}
use Rattle.std.proofs.Math.Option.{some}
use Rattle.std.specs.Float.{binary64}
use Rattle.std.specs.Float.Ieee.{of_bits, to_bits}
use Rattle.component.specs.declared.model_component.Component.{Component}
use Rattle.component.specs.declared.model_component.Component.TheVariants.{Constant, Sphere, Torus, Multiply, Add, Subtract, Divide, Lerp, VariableLerp, Remap, BooleanUnion, BooleanIntersection, BooleanDifference, Offset, Thickness}
use Rattle.component_layout.specs.declared.component_numbers.Numbered.{Numbered}
use Rattle.component_layout.specs.Components.{component_from}

-- a number that a kind does not use: +0, whose word is 0
abbrev pub unused : Float
unused = of_bits binary64 0

-- a kind and five numbers, or words
abbrev pub five : {A : Type 0} → ℕ → A → A → A → A → A → Numbered A
five kind a b c d e = record { kind = kind; a = a; b = b; c = c; d = d; e = e }

-- a kind with four, one or no numbers
abbrev pub four : ℕ → Float → Float → Float → Float → Numbered Float
four kind a b c d = five kind a b c d unused

abbrev pub one : ℕ → Float → Numbered Float
one kind a = four kind a unused unused unused

abbrev pub plain : ℕ → Numbered Float
plain kind = one kind unused

-- the numbers from which `component_of` has the component
unfoldable pub numbers_of : Component → Numbered Float
numbers_of (Constant v) = one 0 v
numbers_of (Sphere s) = four 1 s.centre.x s.centre.y s.centre.z s.radius
numbers_of (Torus t) = five 2 t.centre.x t.centre.y t.centre.z t.r t.t
numbers_of Multiply = plain 3
numbers_of Add = plain 4
numbers_of Subtract = plain 5
numbers_of Divide = plain 6
numbers_of (Lerp f) = one 7 f
numbers_of VariableLerp = plain 8
numbers_of (Remap a b c d) = four 9 a b c d
numbers_of BooleanUnion = plain 10
numbers_of BooleanIntersection = plain 11
numbers_of BooleanDifference = plain 12
numbers_of (Offset d) = one 13 d
numbers_of (Thickness t) = one 14 t

-- the words of numbers; a NaN's is 7FF8000000000000
abbrev pub bits_of : Float → ℕ
bits_of x = to_bits binary64 x

abbrev pub words_for : Numbered Float → Numbered ℕ
words_for n = record { kind = n.kind; a = bits_of n.a; b = bits_of n.b; c = bits_of n.c; d = bits_of n.d; e = bits_of n.e }

unfoldable pub words_of : Component → Numbered ℕ
words_of c = words_for (numbers_of c)

-- w are the words of the component, from which it is read back
pub record Worded (c : Component) (w : Numbered ℕ) : Type 0 where
  pub words : w ≡ words_of c
  pub back : component_from w.kind w.a w.b w.c w.d w.e ≡ some c
