-- Document 01's cases P1 to P4: rows of one table, with one claim, by computation. Assumes nothing.
use mathlib.Core.Path.{◌≡◌, refl}
use mathlib.Core.Bool.{true, false}
use mathlib.Core.List.{List, [], ◌∷◌, map}
use lib.IntN.{pos, negsuc}
use lib.Ieee.{Float, fin, add, sub, mul, neg, lt}
use Rattle.float.specs.RootOf.{root_of}
use Rattle.geometry.specs.Distance.{to_coord_squared, to_coord}
use Rattle.geometry.specs.Vector.{origin}
use Rattle.geometry.proofs.Cases.{n0, n1, n3, Row, row, asked, answer}
use Rattle.shapes.specs.declared.sphere.Sphere.{Sphere}
use Rattle.shapes.specs.declared.torus.Torus.{Torus}
use Rattle.shapes.specs.Distance.{to_sphere, signed_root, to_torus}

abbrev n4 : Float
n4 = fin false 1 (pos 2)

abbrev n5 : Float
n5 = fin false 5 (pos 0)

abbrev ball : Sphere
ball = record { centre = origin; radius = n1 }

abbrev ring : Torus
ring = record { centre = origin; r = n5; t = n1 }

pub table : List Row
table =
    -- P1
    row (to_sphere ball n3 n4 n0) n4
    -- P2; with Y and Z swapped it would be the root of 19
    ∷ row (to_torus ring n3 n0 n4) (fin true 1 (pos 0))
    -- P3
    ∷ row (to_torus ring n5 n1 n0) n0
    -- P4
    ∷ row (root_of (fin false 1 (negsuc 1073))) (fin false 1 (negsuc 536))
    ∷ []

pub claim : map asked table ≡ map answer table
unfolding table to_sphere to_coord to_coord_squared to_torus signed_root root_of add sub mul neg lt
claim = refl
