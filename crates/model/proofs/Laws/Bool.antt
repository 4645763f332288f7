-- Tests as facts. Assumes nothing.
use mathlib.Core.Path.{◌≡◌, refl, sym, subst}
use mathlib.Core.Bool.{Bool, true, false, not, ◌&&◌}
use lib.Dec.{T}

pub T→true : (b : Bool) → T b → b ≡ true
T→true true h = refl
T→true false h = absurd h

pub true→T : (b : Bool) → b ≡ true → T b
true→T b e = subst T (sym e) tt

pub and_T : (a b : Bool) → T a → T b → T (a && b)
and_T true b h k = k
and_T false b h k = absurd h

pub and_T₁ : (a b : Bool) → T (a && b) → T a
and_T₁ true b h = tt
and_T₁ false b h = h

pub and_T₂ : (a b : Bool) → T (a && b) → T b
and_T₂ true b h = h
and_T₂ false b h = absurd h

pub not_false : (b : Bool) → not b ≡ false → b ≡ true
not_false true e = refl
not_false false e = absurd (true→T false (sym e))
