-- Vec3's functions in the Rust's sequence, operation by operation, each rounded once; the distances are in `Distance`. Definitions only.
use Rattle.std.specs.Prelude.{false, cond, pos, Float}
use Rattle.std.specs.Float.{fin}
use Rattle.std.specs.Float.Ieee.{lt}
use Rattle.float.specs.Extrema.{minimum_number, maximum_number}
use Rattle.geometry.specs.Operations.{◌⊕◌, ◌⊖◌, ◌⊗◌, ◌⊘◌}
use Rattle.geometry.specs.Distance.{to_coord}
use Rattle.geometry.specs.declared.vec3f.Vec3.{Vec3}

abbrev zero : Float
zero = fin false 0 (pos 0)

abbrev one : Float
one = fin false 1 (pos 0)

abbrev point : Float → Float → Float → Vec3
point x y z = record { x = x; y = y; z = z }

-- ---- the points that have names

abbrev pub origin : Vec3
origin = point zero zero zero

abbrev pub x_axis : Vec3
x_axis = point one zero zero

abbrev pub y_axis : Vec3
y_axis = point zero one zero

abbrev pub z_axis : Vec3
z_axis = point zero zero one

-- ---- coordinate by coordinate

unfoldable pub minimum : Vec3 → Vec3 → Vec3
minimum a b = point (minimum_number a.x b.x) (minimum_number a.y b.y) (minimum_number a.z b.z)

unfoldable pub maximum : Vec3 → Vec3 → Vec3
maximum a b = point (maximum_number a.x b.x) (maximum_number a.y b.y) (maximum_number a.z b.z)

-- below 0 gives 0, above 1 gives 1, and NaN or -0 passes
unfoldable pub clamped : Float → Float
clamped t = cond (lt t zero) zero (cond (lt one t) one t)

abbrev between : Float → Float → Float → Float
between a b t = a ⊕ t ⊗ (b ⊖ a)

unfoldable pub interpolated : Vec3 → Vec3 → Float → Vec3
interpolated a b t = point (between a.x b.x (clamped t)) (between a.y b.y (clamped t)) (between a.z b.z (clamped t))

-- ---- products and lengths

abbrev pub dot_coord : Vec3 → Float → Float → Float → Float
dot_coord a x y z = a.x ⊗ x ⊕ a.y ⊗ y ⊕ a.z ⊗ z

abbrev pub dot_product : Vec3 → Vec3 → Float
dot_product a b = a.x ⊗ b.x ⊕ a.y ⊗ b.y ⊕ a.z ⊗ b.z

abbrev pub cross_product : Vec3 → Vec3 → Vec3
cross_product a b = point (a.y ⊗ b.z ⊖ a.z ⊗ b.y) (a.z ⊗ b.x ⊖ a.x ⊗ b.z) (a.x ⊗ b.y ⊖ a.y ⊗ b.x)

abbrev pub magnitude_of : Vec3 → Float
magnitude_of a = to_coord a zero zero zero

abbrev pub scaled : Vec3 → Float → Vec3
scaled a k = point (a.x ⊗ k) (a.y ⊗ k) (a.z ⊗ k)

unfoldable pub normalized : Vec3 → Vec3
normalized a = scaled a (one ⊘ magnitude_of a)

-- 1E-5: one hundred-thousandth, rounded once
unfoldable pub default_tolerance : Float
default_tolerance = one ⊘ fin false 3125 (pos 5)

-- ---- the operators

abbrev pub vector_sum : Vec3 → Vec3 → Vec3
vector_sum a b = point (a.x ⊕ b.x) (a.y ⊕ b.y) (a.z ⊕ b.z)

abbrev pub vector_difference : Vec3 → Vec3 → Vec3
vector_difference a b = point (a.x ⊖ b.x) (a.y ⊖ b.y) (a.z ⊖ b.z)
