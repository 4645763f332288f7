-- Under each name that a component lists there is data to read, of the type that the list says. Assumes nothing.
use mathlib.Core.Path.{◌≡◌, refl}
use Rattle.std.specs.Prelude.{List, [], ◌∷◌, Option, Some, None}
use Rattle.tag.specs.Tags.{is}
use Rattle.component.specs.Parameter.{name_value, name_centre, name_radius, name_thickness, name_factor, name_from_min, name_from_max, name_to_min, name_to_max, name_distance, read_parameter}
use Rattle.naming.specs.Names.{Entry, parameters}
use Rattle.component.specs.declared.parameter.Data.{Data}
use Rattle.component.specs.declared.parameter.Data.TheVariants.{Value, Vec3 as Vector, Boolean}
use Rattle.component.specs.declared.parameter.DataType.{DataType}
use Rattle.component.specs.declared.parameter.DataType.TheVariants.{Value as AValue, Vec3 as AVector}
use Rattle.component.specs.declared.model_component.Component.{Component}
use Rattle.component.specs.declared.model_component.Component.TheVariants.{Constant, Sphere, Torus, Multiply, Add, Subtract, Divide, Lerp, VariableLerp, Remap, BooleanUnion, BooleanIntersection, BooleanDifference, Offset, Thickness}

-- no component has a boolean
abbrev pub type_read : Option Data → Option DataType
type_read (Some (Value v)) = Some AValue
type_read (Some (Vector v)) = Some AVector
type_read (Some (Boolean b)) = None
type_read None = None

abbrev pub Reads : Component → List Entry → Type 0
Reads c [] = Unit {0}
Reads c (e ∷ es) = (type_read (read_parameter c e.0) ≡ Some e.1) × Reads c es

pub listed : (c : Component) → Reads c (parameters c)
unfolding read_parameter is name_value name_centre name_radius name_thickness name_factor name_from_min name_from_max name_to_min name_to_max name_distance
listed (Constant v) = (refl, tt)
listed (Sphere s) = (refl, (refl, tt))
listed (Torus s) = (refl, (refl, (refl, tt)))
listed Multiply = tt
listed Add = tt
listed Subtract = tt
listed Divide = tt
listed (Lerp f) = (refl, tt)
listed VariableLerp = tt
listed (Remap f g t u) = (refl, (refl, (refl, (refl, tt))))
listed BooleanUnion = tt
listed BooleanIntersection = tt
listed BooleanDifference = tt
listed (Offset d) = (refl, tt)
listed (Thickness t) = (refl, tt)
