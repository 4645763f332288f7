-- A component with a parameter set takes as many inputs as before. Assumes nothing.
use mathlib.Core.Path.{◌≡◌, refl, subst}
use mathlib.Core.Bool.{Bool, true, false, cond}
use lib.Ieee.{Float}
use Rattle.std.specs.Prelude.{Ok, Err}
use Rattle.tag.specs.Tags.{is}
use Rattle.geometry.specs.declared.vec3f.Vec3.{Vec3}
use Rattle.component.specs.Value.{input_count}
use Rattle.component.specs.Parameter.{Name, Setting, name_centre, name_radius, name_thickness, name_factor, name_from_min, name_from_max, name_to_min, name_to_max, name_distance, too_near, apart, set_value, set_vec3, set_parameter}
use Rattle.component.specs.declared.parameter.Data.{Data}
use Rattle.component.specs.declared.parameter.Data.TheVariants.{Value, Vec3 as Vector, Boolean}
use Rattle.component.specs.declared.parameter.ParameterError.TheVariants.{TooNear}
use Rattle.component.specs.declared.model_component.Component.{Component}
use Rattle.component.specs.declared.model_component.Component.TheVariants.{Constant, Sphere, Torus, Multiply, Add, Subtract, Divide, Lerp, VariableLerp, Remap, BooleanUnion, BooleanIntersection, BooleanDifference, Offset, Thickness}

-- what was changed takes as many inputs as c
abbrev pub Keeps : Component → Setting → Type 0
Keeps c (Ok d) = input_count d ≡ input_count c
Keeps c (Err e) = Unit {0}

keeps_if : (c : Component) (b : Bool) (s t : Setting) → Keeps c s → Keeps c t → Keeps c (cond b s t)
keeps_if c true s t h k = h
keeps_if c false s t h k = k

keeps_apart : (c : Component) (a b : Float) (d : Component) → input_count d ≡ input_count c → Keeps c (apart a b d)
keeps_apart c a b d e = keeps_if c (too_near a b) (Err TooNear) (Ok d) tt e

keeps_value : (c : Component) (n : Name) (v : Float) → Keeps c (set_value c n v)
unfolding set_value
keeps_value (Constant x) n v = refl
keeps_value (Sphere s) n v = keeps_if (Sphere s) (is n name_radius) _ _ refl tt
keeps_value (Torus s) n v = keeps_if (Torus s) (is n name_radius) _ _ refl (keeps_if (Torus s) (is n name_thickness) _ _ refl tt)
keeps_value Multiply n v = tt
keeps_value Add n v = tt
keeps_value Subtract n v = tt
keeps_value Divide n v = tt
keeps_value (Lerp f) n v = keeps_if (Lerp f) (is n name_factor) _ _ refl tt
keeps_value VariableLerp n v = tt
keeps_value (Remap f g t u) n v =
    let c = Remap f g t u in
    keeps_if c (is n name_from_min) _ _ (keeps_apart c v g _ refl)
    (keeps_if c (is n name_from_max) _ _ (keeps_apart c f v _ refl)
    (keeps_if c (is n name_to_min) _ _ (keeps_apart c v u _ refl)
    (keeps_if c (is n name_to_max) _ _ (keeps_apart c t v _ refl) tt)))
keeps_value BooleanUnion n v = tt
keeps_value BooleanIntersection n v = tt
keeps_value BooleanDifference n v = tt
keeps_value (Offset d) n v = keeps_if (Offset d) (is n name_distance) _ _ refl tt
keeps_value (Thickness t) n v = keeps_if (Thickness t) (is n name_thickness) _ _ refl tt

keeps_vec3 : (c : Component) (n : Name) (v : Vec3) → Keeps c (set_vec3 c n v)
unfolding set_vec3
keeps_vec3 (Constant x) n v = tt
keeps_vec3 (Sphere s) n v = keeps_if (Sphere s) (is n name_centre) _ _ refl tt
keeps_vec3 (Torus s) n v = keeps_if (Torus s) (is n name_centre) _ _ refl tt
keeps_vec3 Multiply n v = tt
keeps_vec3 Add n v = tt
keeps_vec3 Subtract n v = tt
keeps_vec3 Divide n v = tt
keeps_vec3 (Lerp f) n v = tt
keeps_vec3 VariableLerp n v = tt
keeps_vec3 (Remap f g t u) n v = tt
keeps_vec3 BooleanUnion n v = tt
keeps_vec3 BooleanIntersection n v = tt
keeps_vec3 BooleanDifference n v = tt
keeps_vec3 (Offset d) n v = tt
keeps_vec3 (Thickness t) n v = tt

pub keeps_setting : (c : Component) (n : Name) (x : Data) → Keeps c (set_parameter c n x)
unfolding set_parameter
keeps_setting c n (Value v) = keeps_value c n v
keeps_setting c n (Vector v) = keeps_vec3 c n v
keeps_setting c n (Boolean b) = tt

pub same_count : (c d : Component) (n : Name) (x : Data) → set_parameter c n x ≡ Ok d → input_count d ≡ input_count c
same_count c d n x e = subst (Keeps c) e (keeps_setting c n x)
