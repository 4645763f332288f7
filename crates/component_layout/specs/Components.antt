-- A component, and what a parameter is set to, as a kind and numbers. Definitions only.
use Rattle.std.specs.Prelude.{ℕ, true, false, List, [], ◌∷◌, get_or, Float, Option as Found, Some, None}
use Rattle.std.proofs.Math.Option.{Option, none, some}
use Rattle.std.specs.Float.{binary64}
use Rattle.std.specs.Float.Ieee.{of_bits}
use Rattle.component.specs.declared.model_component.Component.{Component}
use Rattle.component.specs.declared.model_component.Component.TheVariants.{Constant, Sphere, Torus, Multiply, Add, Subtract, Divide, Lerp, VariableLerp, Remap, BooleanUnion, BooleanIntersection, BooleanDifference, Offset, Thickness}
use Rattle.component.specs.declared.parameter.Data.{Data}
use Rattle.component.specs.declared.parameter.Data.TheVariants.{Value, Vec3 as Vector, Boolean}
use Rattle.component_layout.specs.declared.component_words.DataWords.{DataWords}

-- the components by kind, 0 to 14, whose numbers are a, b, c, d, e in their sequence
abbrev pub kinds : Float → Float → Float → Float → Float → List (Option Component)
kinds a b c d e =
    some (Constant a)
    ∷ some (Sphere (record { centre = record { x = a; y = b; z = c }; radius = d }))
    ∷ some (Torus (record { centre = record { x = a; y = b; z = c }; r = d; t = e }))
    ∷ some Multiply
    ∷ some Add
    ∷ some Subtract
    ∷ some Divide
    ∷ some (Lerp a)
    ∷ some VariableLerp
    ∷ some (Remap a b c d)
    ∷ some BooleanUnion
    ∷ some BooleanIntersection
    ∷ some BooleanDifference
    ∷ some (Offset a)
    ∷ some (Thickness a)
    ∷ []

-- The component of a kind; another kind is none. Numbers that a kind does not use are not looked at.
unfoldable pub component_of : ℕ → Float → Float → Float → Float → Float → Option Component
component_of kind a b c d e = get_or (kinds a b c d e) kind none

-- the number of a word's bits; any NaN's are the one NaN's
abbrev pub number : ℕ → Float
number bits = of_bits binary64 bits

unfoldable pub component_from : ℕ → ℕ → ℕ → ℕ → ℕ → ℕ → Option Component
component_from kind a b c d e = component_of kind (number a) (number b) (number c) (number d) (number e)

-- what a parameter is set to, by kind: 0 a value, 1 a vector, 2 a boolean, whose word is 0 or 1
abbrev pub booleans : List (Option Data)
booleans = some (Boolean false) ∷ some (Boolean true) ∷ []

abbrev pub settings : ℕ → ℕ → ℕ → List (Option Data)
settings a b c =
    some (Value (number a))
    ∷ some (Vector (record { x = number a; y = number b; z = number c }))
    ∷ get_or booleans a none
    ∷ []

unfoldable pub data_from : DataWords → Option Data
data_from w = get_or (settings w.a w.b w.c) w.kind none

-- what the code found
abbrev pub component_read : Found Component → Option Component
component_read (Some c) = some c
component_read None = none

abbrev pub data_read : Found Data → Option Data
data_read (Some d) = some d
data_read None = none
