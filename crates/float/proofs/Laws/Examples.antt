-- Worked examples of the root, of min and of max, by computation: rows of one table, with one claim. No function's proof cites these. Assumes nothing.
use mathlib.Core.Path.{◌≡◌, refl}
use mathlib.Core.Bool.{true, false}
use mathlib.Core.List.{List, [], ◌∷◌, map}
use lib.IntN.{pos, negsuc}
use lib.Ieee.{Float, nan, inf, fin}
use Rattle.float.specs.RootOf.{root_of}
use Rattle.float.specs.Extrema.{minimum_number, maximum_number}

-- what is asked, and what comes
pub data Row : Type 0 where
  row : Float → Float → Row

abbrev pub asked : Row → Float
asked (row a b) = a

abbrev pub answer : Row → Float
answer (row a b) = b

abbrev +0 : Float
+0 = fin false 0 (pos 0)

abbrev -0 : Float
-0 = fin true 0 (pos 0)

abbrev one : Float
one = fin false 1 (pos 0)

pub table : List Row
table =
    -- 5e-324, 1.5e-323, 2.225073858507201e-308
    row (root_of (fin false 1 (negsuc 1073))) (fin false 1 (negsuc 536))
    ∷ row (root_of (fin false 3 (negsuc 1073))) (fin false 3900231685776981 (negsuc 587))
    ∷ row (root_of (fin false 4503599627370495 (negsuc 1073))) (fin false 9007199254740991 (negsuc 563))
    -- 2, 4, 25, and the doubles just below 4, above 1 and below 1
    ∷ row (root_of (fin false 1 (pos 1))) (fin false 6369051672525773 (negsuc 51))
    ∷ row (root_of (fin false 1 (pos 2))) (fin false 1 (pos 1))
    ∷ row (root_of (fin false 25 (pos 0))) (fin false 5 (pos 0))
    ∷ row (root_of (fin false 9007199254740991 (negsuc 50))) (fin false 9007199254740991 (negsuc 51))
    ∷ row (root_of (fin false 4503599627370497 (negsuc 51))) one
    ∷ row (root_of (fin false 9007199254740991 (negsuc 52))) (fin false 9007199254740991 (negsuc 52))
    -- 1.7976931348623157e+308, 0.1
    ∷ row (root_of (fin false 9007199254740991 (pos 971))) (fin false 9007199254740991 (pos 459))
    ∷ row (root_of (fin false 3602879701896397 (negsuc 54))) (fin false 5696652996790543 (negsuc 53))
    ∷ row (root_of +0) +0
    ∷ row (root_of -0) -0
    ∷ row (root_of (fin true 1 (pos 0))) nan
    ∷ row (root_of (inf false)) (inf false)
    ∷ row (root_of (inf true)) nan
    ∷ row (root_of nan) nan
    ∷ row (minimum_number nan one) one
    ∷ row (minimum_number one nan) one
    ∷ row (minimum_number nan nan) nan
    ∷ row (minimum_number +0 -0) -0
    ∷ row (minimum_number -0 +0) -0
    ∷ row (maximum_number nan one) one
    ∷ row (maximum_number one nan) one
    ∷ row (maximum_number +0 -0) +0
    ∷ row (maximum_number -0 +0) +0
    ∷ row (maximum_number (inf true) one) one
    ∷ []

pub claim : map asked table ≡ map answer table
unfolding table root_of minimum_number maximum_number
claim = refl
