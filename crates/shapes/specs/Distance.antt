-- The distance to one shape, operation by operation, each rounded once. Definitions only.
use Rattle.std.specs.Prelude.{false, cond, pos, Float}
use Rattle.std.specs.Float.{fin}
use Rattle.std.specs.Float.Ieee.{neg, lt}
use Rattle.float.specs.RootOf.{root_of}
use Rattle.geometry.specs.Operations.{◌⊕◌, ◌⊖◌, square}
use Rattle.geometry.specs.Distance.{to_coord}
use Rattle.shapes.specs.declared.sphere.Sphere.{Sphere}
use Rattle.shapes.specs.declared.torus.Torus.{Torus}

unfoldable pub to_sphere : Sphere → Float → Float → Float → Float
to_sphere s x y z = to_coord s.centre x y z ⊖ s.radius

-- the root with the sign of what it is taken of
unfoldable pub signed_root : Float → Float
signed_root s = cond (lt s (fin false 0 (pos 0))) (neg (root_of (neg s))) (root_of s)

unfoldable pub to_torus : Torus → Float → Float → Float → Float
to_torus s x y z =
    signed_root (square (s.r ⊖ root_of (square (x ⊖ s.centre.x) ⊕ square (z ⊖ s.centre.z))) ⊕ square (y ⊖ s.centre.y) ⊖ square s.t)
