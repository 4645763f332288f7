-- Document 01, "A parameter set". Definitions only.
use Rattle.std.specs.Prelude.{Bool, false, cond, List, [], ◌∷◌, ℕ, pos, negsuc, Float, Option, Some, None, Result, Ok, Err}
use Rattle.std.specs.Float.{fin, binary64}
use Rattle.std.specs.Float.Ieee.{sub, neg, lt}
use Rattle.tag.specs.Tags.{is}
use Rattle.float.specs.Extrema.{negative}
use Rattle.geometry.specs.declared.vec3f.Vec3.{Vec3}
use Rattle.component.specs.declared.parameter.Data.{Data}
use Rattle.component.specs.declared.parameter.Data.TheVariants.{Value, Vec3 as Vector, Boolean}
use Rattle.component.specs.declared.parameter.ParameterError.{ParameterError}
use Rattle.component.specs.declared.parameter.ParameterError.TheVariants.{DoesNotFit, TooNear}
use Rattle.component.specs.declared.model_component.Component.{Component}
use Rattle.component.specs.declared.model_component.Component.TheVariants.{Constant, Sphere, Torus, Multiply, Add, Subtract, Divide, Lerp, VariableLerp, Remap, BooleanUnion, BooleanIntersection, BooleanDifference, Offset, Thickness}

-- ---- the names, spelled exactly

abbrev pub Name : Type 0
Name = List ℕ

unfoldable pub name_centre : Name
name_centre = 67 ∷ 101 ∷ 110 ∷ 116 ∷ 114 ∷ 101 ∷ []

unfoldable pub name_radius : Name
name_radius = 82 ∷ 97 ∷ 100 ∷ 105 ∷ 117 ∷ 115 ∷ []

unfoldable pub name_thickness : Name
name_thickness = 84 ∷ 104 ∷ 105 ∷ 99 ∷ 107 ∷ 110 ∷ 101 ∷ 115 ∷ 115 ∷ []

unfoldable pub name_factor : Name
name_factor = 70 ∷ 97 ∷ 99 ∷ 116 ∷ 111 ∷ 114 ∷ []

unfoldable pub name_from_min : Name
name_from_min = 70 ∷ 114 ∷ 111 ∷ 109 ∷ 77 ∷ 105 ∷ 110 ∷ []

unfoldable pub name_from_max : Name
name_from_max = 70 ∷ 114 ∷ 111 ∷ 109 ∷ 77 ∷ 97 ∷ 120 ∷ []

unfoldable pub name_to_min : Name
name_to_min = 84 ∷ 111 ∷ 77 ∷ 105 ∷ 110 ∷ []

unfoldable pub name_to_max : Name
name_to_max = 84 ∷ 111 ∷ 77 ∷ 97 ∷ 120 ∷ []

unfoldable pub name_value : Name
name_value = 86 ∷ 97 ∷ 108 ∷ 117 ∷ 101 ∷ []

unfoldable pub name_distance : Name
name_distance = 68 ∷ 105 ∷ 115 ∷ 116 ∷ 97 ∷ 110 ∷ 99 ∷ 101 ∷ []

-- ---- the two rules on numbers

abbrev pub zero_number : Float
zero_number = fin false 0 (pos 0)

abbrev pub one_number : Float
one_number = fin false 1 (pos 0)

-- Factor below 0 becomes 0, above 1 becomes 1, and NaN or -0 passes
unfoldable pub clamped : Float → Float
clamped f = cond (lt f zero_number) zero_number (cond (lt one_number f) one_number f)

abbrev pub epsilon : Float
epsilon = fin false 1 (negsuc 51)

abbrev pub size_of : Float → Float
size_of d = cond (negative d) (neg d) d

-- the two differ, rounded, by less than 2 ^ -52 in size; a NaN difference passes
unfoldable pub too_near : Float → Float → Bool
too_near a b = lt (size_of (sub binary64 a b)) epsilon

-- a parameter set: the component with that parameter changed, or why it stays
abbrev pub Setting : Type 0
Setting = Result Component ParameterError

abbrev pub apart : Float → Float → Component → Setting
apart a b c = cond (too_near a b) (Err TooNear) (Ok c)

-- ---- the parameter set

-- a Value under a name; a constant takes any name
unfoldable pub set_value : Component → Name → Float → Setting
set_value (Constant x) n v = Ok (Constant v)
set_value (Sphere s) n v = cond (is n name_radius) (Ok (Sphere (record { centre = s.centre; radius = v }))) (Err DoesNotFit)
set_value (Torus s) n v =
    cond (is n name_radius) (Ok (Torus (record { centre = s.centre; r = v; t = s.t })))
    (cond (is n name_thickness) (Ok (Torus (record { centre = s.centre; r = s.r; t = v }))) (Err DoesNotFit))
set_value Multiply n v = Err DoesNotFit
set_value Add n v = Err DoesNotFit
set_value Subtract n v = Err DoesNotFit
set_value Divide n v = Err DoesNotFit
set_value (Lerp factor) n v = cond (is n name_factor) (Ok (Lerp (clamped v))) (Err DoesNotFit)
set_value VariableLerp n v = Err DoesNotFit
set_value (Remap fromMin fromMax toMin toMax) n v =
    cond (is n name_from_min) (apart v fromMax (Remap v fromMax toMin toMax))
    (cond (is n name_from_max) (apart fromMin v (Remap fromMin v toMin toMax))
    (cond (is n name_to_min) (apart v toMax (Remap fromMin fromMax v toMax))
    (cond (is n name_to_max) (apart toMin v (Remap fromMin fromMax toMin v)) (Err DoesNotFit))))
set_value BooleanUnion n v = Err DoesNotFit
set_value BooleanIntersection n v = Err DoesNotFit
set_value BooleanDifference n v = Err DoesNotFit
set_value (Offset distance) n v = cond (is n name_distance) (Ok (Offset v)) (Err DoesNotFit)
set_value (Thickness t) n v = cond (is n name_thickness) (Ok (Thickness v)) (Err DoesNotFit)

-- a Vec3 under a name: only a centre takes one
unfoldable pub set_vec3 : Component → Name → Vec3 → Setting
set_vec3 (Constant x) n v = Err DoesNotFit
set_vec3 (Sphere s) n v = cond (is n name_centre) (Ok (Sphere (record { centre = v; radius = s.radius }))) (Err DoesNotFit)
set_vec3 (Torus s) n v = cond (is n name_centre) (Ok (Torus (record { centre = v; r = s.r; t = s.t }))) (Err DoesNotFit)
set_vec3 Multiply n v = Err DoesNotFit
set_vec3 Add n v = Err DoesNotFit
set_vec3 Subtract n v = Err DoesNotFit
set_vec3 Divide n v = Err DoesNotFit
set_vec3 (Lerp factor) n v = Err DoesNotFit
set_vec3 VariableLerp n v = Err DoesNotFit
set_vec3 (Remap fromMin fromMax toMin toMax) n v = Err DoesNotFit
set_vec3 BooleanUnion n v = Err DoesNotFit
set_vec3 BooleanIntersection n v = Err DoesNotFit
set_vec3 BooleanDifference n v = Err DoesNotFit
set_vec3 (Offset distance) n v = Err DoesNotFit
set_vec3 (Thickness t) n v = Err DoesNotFit

-- Document 01's parameter set. A Boolean fits nowhere.
unfoldable pub set_parameter : Component → Name → Data → Setting
set_parameter c n (Value v) = set_value c n v
set_parameter c n (Vector v) = set_vec3 c n v
set_parameter c n (Boolean b) = Err DoesNotFit

-- ---- the data under a name, as in the Rust, or nothing. A constant's is under `Value`.

abbrev pub under : Name → Name → Data → Option Data → Option Data
under n k x rest = cond (is n k) (Some x) rest

unfoldable pub read_parameter : Component → Name → Option Data
read_parameter (Constant x) n = under n name_value (Value x) None
read_parameter (Sphere s) n = under n name_centre (Vector s.centre) (under n name_radius (Value s.radius) None)
read_parameter (Torus s) n =
    under n name_centre (Vector s.centre) (under n name_radius (Value s.r) (under n name_thickness (Value s.t) None))
read_parameter Multiply n = None
read_parameter Add n = None
read_parameter Subtract n = None
read_parameter Divide n = None
read_parameter (Lerp factor) n = under n name_factor (Value factor) None
read_parameter VariableLerp n = None
read_parameter (Remap fromMin fromMax toMin toMax) n =
    under n name_from_min (Value fromMin) (under n name_from_max (Value fromMax)
    (under n name_to_min (Value toMin) (under n name_to_max (Value toMax) None)))
read_parameter BooleanUnion n = None
read_parameter BooleanIntersection n = None
read_parameter BooleanDifference n = None
read_parameter (Offset distance) n = under n name_distance (Value distance) None
read_parameter (Thickness t) n = under n name_thickness (Value t) None
