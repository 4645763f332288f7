-- Tests as facts. Assumes nothing.
use mathlib.Core.Path.{◌≡◌, refl, sym, subst, ◌∙◌}
use mathlib.Core.Bool.{Bool, true, false, ◌&&◌}
use mathlib.Core.List.{List, [], ◌∷◌, ◌++◌}
use lib.Dec.{T}
use Rattle.model.specs.View.{every}

pub apart : {b : Bool} → b ≡ true → b ≡ false → ⊥
apart p q = subst T (sym p ∙ q) tt

pub and_left : (a b : Bool) → (a && b) ≡ true → a ≡ true
and_left true b e = refl
and_left false b e = e

pub and_right : (a b : Bool) → (a && b) ≡ true → b ≡ true
and_right true b e = e
and_right false b e = absurd (apart e refl)

pub and_true : {a b : Bool} → a ≡ true → b ≡ true → (a && b) ≡ true
and_true p q = rw (p, q)

pub and_false : (a : Bool) {b : Bool} → b ≡ false → (a && b) ≡ false
and_false true q = q
and_false false q = refl

pub every_append : (xs : List Bool) (b : Bool) → every (xs ++ (b ∷ [])) ≡ (every xs && b)
every_append [] true = refl
every_append [] false = refl
every_append (true ∷ xs) b = every_append xs b
every_append (false ∷ xs) b = refl
