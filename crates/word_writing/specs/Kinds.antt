-- What docs/PROTOCOL.md calls KIND and its numbers, as bytes. Definitions only.
use Rattle.std.specs.Prelude.{ℕ, List, [], ◌∷◌, ◌++◌, Float, codes}
use Rattle.std.specs.List.{flat_map}
use Rattle.std.specs.Float.Ieee as Ieee
use Rattle.std.specs.Float.{binary64}
use Rattle.geometry.specs.declared.vec3f.Vec3.{Vec3}
use Rattle.component.specs.declared.model_component.Component.{Component}
use Rattle.component.specs.declared.model_component.Component.TheVariants.{Constant, Sphere, Torus, Multiply, Add, Subtract, Divide, Lerp, VariableLerp, Remap, BooleanUnion, BooleanIntersection, BooleanDifference, Offset, Thickness}
use Rattle.word_writing.specs.Words.{bits_word}

-- a number, by its bits
abbrev pub float_word : Float → List ℕ
float_word x = bits_word (Ieee.to_bits binary64 x)

-- numbers, a space ahead of each
abbrev pub float_words : List Float → List ℕ
float_words xs = flat_map (λ x. codes " " ++ float_word x) xs

-- the three coordinates
abbrev pub vec3_words : Vec3 → List ℕ
vec3_words v = float_word v.x ++ float_words (v.y ∷ v.z ∷ [])

abbrev pub kind_word : Component → List ℕ
kind_word (Constant v) = codes "constant"
kind_word (Sphere s) = codes "sphere"
kind_word (Torus s) = codes "torus"
kind_word Multiply = codes "Multiply"
kind_word Add = codes "Add"
kind_word Subtract = codes "Subtract"
kind_word Divide = codes "Divide"
kind_word (Lerp factor) = codes "Lerp"
kind_word VariableLerp = codes "VariableLerp"
kind_word (Remap a b c d) = codes "Remap"
kind_word BooleanUnion = codes "BooleanUnion"
kind_word BooleanIntersection = codes "BooleanIntersection"
kind_word BooleanDifference = codes "BooleanDifference"
kind_word (Offset distance) = codes "Offset"
kind_word (Thickness t) = codes "Thickness"

-- its numbers, in this sequence
abbrev pub numbers_of : Component → List Float
numbers_of (Constant v) = v ∷ []
numbers_of (Sphere s) = s.centre.x ∷ s.centre.y ∷ s.centre.z ∷ s.radius ∷ []
numbers_of (Torus s) = s.centre.x ∷ s.centre.y ∷ s.centre.z ∷ s.r ∷ s.t ∷ []
numbers_of Multiply = []
numbers_of Add = []
numbers_of Subtract = []
numbers_of Divide = []
numbers_of (Lerp factor) = factor ∷ []
numbers_of VariableLerp = []
numbers_of (Remap a b c d) = a ∷ b ∷ c ∷ d ∷ []
numbers_of BooleanUnion = []
numbers_of BooleanIntersection = []
numbers_of BooleanDifference = []
numbers_of (Offset distance) = distance ∷ []
numbers_of (Thickness t) = t ∷ []

-- KIND and its numbers
abbrev pub component_words : Component → List ℕ
component_words c = kind_word c ++ float_words (numbers_of c)
