-- The name of each kind and of its parameters, in the Rust's order, with what each takes. Definitions only.
use Rattle.std.specs.Prelude.{◌≡◌, List, [], ◌∷◌, ℕ, Option, Some, None, slice_get}
use denote.Bor.{Bor}
use Rattle.tag.specs.View.{Labelled}
use Rattle.component.specs.Parameter.{Name, name_value, name_centre, name_radius, name_thickness, name_factor, name_from_min, name_from_max, name_to_min, name_to_max, name_distance}
use Rattle.component.specs.declared.parameter.DataType.{DataType}
use Rattle.component.specs.declared.parameter.DataType.TheVariants.{Value, Vec3}
use Rattle.component.specs.declared.parameter.Parameter.{Parameter}
use Rattle.component.specs.declared.model_component.Component.{Component}
use Rattle.component.specs.declared.model_component.Component.TheVariants.{Constant, Sphere, Torus, Multiply, Add, Subtract, Divide, Lerp, VariableLerp, Remap, BooleanUnion, BooleanIntersection, BooleanDifference, Offset, Thickness}

-- the kind's own name, spelled as it is
unfoldable pub type_name : Component → Name
type_name (Constant v) = 67 ∷ 111 ∷ 110 ∷ 115 ∷ 116 ∷ 97 ∷ 110 ∷ 116 ∷ []
type_name (Sphere s) = 83 ∷ 112 ∷ 104 ∷ 101 ∷ 114 ∷ 101 ∷ []
type_name (Torus s) = 84 ∷ 111 ∷ 114 ∷ 117 ∷ 115 ∷ []
type_name Multiply = 77 ∷ 117 ∷ 108 ∷ 116 ∷ 105 ∷ 112 ∷ 108 ∷ 121 ∷ []
type_name Add = 65 ∷ 100 ∷ 100 ∷ []
type_name Subtract = 83 ∷ 117 ∷ 98 ∷ 116 ∷ 114 ∷ 97 ∷ 99 ∷ 116 ∷ []
type_name Divide = 68 ∷ 105 ∷ 118 ∷ 105 ∷ 100 ∷ 101 ∷ []
type_name (Lerp factor) = 76 ∷ 101 ∷ 114 ∷ 112 ∷ []
type_name VariableLerp = 86 ∷ 97 ∷ 114 ∷ 105 ∷ 97 ∷ 98 ∷ 108 ∷ 101 ∷ 76 ∷ 101 ∷ 114 ∷ 112 ∷ []
type_name (Remap fromMin fromMax toMin toMax) = 82 ∷ 101 ∷ 109 ∷ 97 ∷ 112 ∷ []
type_name BooleanUnion = 66 ∷ 111 ∷ 111 ∷ 108 ∷ 101 ∷ 97 ∷ 110 ∷ 85 ∷ 110 ∷ 105 ∷ 111 ∷ 110 ∷ []
type_name BooleanIntersection = 66 ∷ 111 ∷ 111 ∷ 108 ∷ 101 ∷ 97 ∷ 110 ∷ 73 ∷ 110 ∷ 116 ∷ 101 ∷ 114 ∷ 115 ∷ 101 ∷ 99 ∷ 116 ∷ 105 ∷ 111 ∷ 110 ∷ []
type_name BooleanDifference = 66 ∷ 111 ∷ 111 ∷ 108 ∷ 101 ∷ 97 ∷ 110 ∷ 68 ∷ 105 ∷ 102 ∷ 102 ∷ 101 ∷ 114 ∷ 101 ∷ 110 ∷ 99 ∷ 101 ∷ []
type_name (Offset distance) = 79 ∷ 102 ∷ 102 ∷ 115 ∷ 101 ∷ 116 ∷ []
type_name (Thickness t) = 84 ∷ 104 ∷ 105 ∷ 99 ∷ 107 ∷ 110 ∷ 101 ∷ 115 ∷ 115 ∷ []

-- a parameter: its name, and what it takes
abbrev pub Entry : Type 0
Entry = Name × DataType

abbrev pub sphere_parameters : List Entry
sphere_parameters = (name_centre, Vec3) ∷ (name_radius, Value) ∷ []

abbrev pub torus_parameters : List Entry
torus_parameters = (name_centre, Vec3) ∷ (name_radius, Value) ∷ (name_thickness, Value) ∷ []

abbrev pub remap_parameters : List Entry
remap_parameters = (name_from_min, Value) ∷ (name_from_max, Value) ∷ (name_to_min, Value) ∷ (name_to_max, Value) ∷ []

abbrev pub parameters : Component → List Entry
parameters (Constant v) = (name_value, Value) ∷ []
parameters (Sphere s) = sphere_parameters
parameters (Torus s) = torus_parameters
parameters Multiply = []
parameters Add = []
parameters Subtract = []
parameters Divide = []
parameters (Lerp factor) = (name_factor, Value) ∷ []
parameters VariableLerp = []
parameters (Remap fromMin fromMax toMin toMax) = remap_parameters
parameters BooleanUnion = []
parameters BooleanIntersection = []
parameters BooleanDifference = []
parameters (Offset distance) = (name_distance, Value) ∷ []
parameters (Thickness t) = (name_thickness, Value) ∷ []

-- as a table in memory has it
abbrev pub entry : Bor (List ℕ) × DataType → Entry
entry p = (p.0.now, p.1)

-- the parameter at place i; past the end, none
abbrev pub parameter_at : Component → ℕ → Option Entry
parameter_at c i = slice_get (parameters c) i

-- the record holds this parameter
pub record Described (e : Entry) (r : Parameter) : Type 0 where
  pub name : Labelled e.0 r.name
  pub takes : r.data_type ≡ e.1

-- and none where there is none
abbrev pub DescribedAt : Option Entry → Option Parameter → Type 0
DescribedAt (Some e) (Some r) = Described e r
DescribedAt (Some e) None = ⊥
DescribedAt None (Some r) = ⊥
DescribedAt None None = Unit {0}
