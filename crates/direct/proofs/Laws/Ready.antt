-- A component whose places are served: which components they name. Assumes nothing.
use Prim.Native.Nat.{ℕ, zero, suc, ◌<◌}
use native.Mathlib.Omega.{arith}
use mathlib.Core.Path.{◌≡◌, refl}
use mathlib.Core.Bool.{Bool, true, false}
use mathlib.Core.List.{List}
use mathlib.Core.Option.{none, some}
use lib.ListN.{length, get_or, replicate}
use Rattle.model.specs.Model.{Place, inputs}
use Rattle.finding.specs.Rows.{tag_of}
use Rattle.standing.specs.declared.Wire.{Wire}
use Rattle.standing.specs.declared.Wire.TheVariants.{To, Past, Open}
use Rattle.standing.specs.Standing.{wire_at, Leads, Stands}
use Rattle.direct.specs.Along.{Served, Ready}

-- what stands at first in each place
pub at_first : {A : Type 0} (d : A) (n i : ℕ) → get_or (replicate n d) i d ≡ d
at_first d zero i = refl
at_first d (suc n) zero = refl
at_first d (suc n) (suc i) = at_first d n i

-- the place q names a component, one of n, which is done
pub record Serves (s : List ℕ) (done : List Bool) (n : ℕ) (l : List Place) (q : ℕ) : Type 0 where
  pub row : ℕ
  pub below : row < n
  pub marked : get_or done row false ≡ true
  pub named : get_or l q none ≡ some (tag_of s row)

pub serves : {s : List ℕ} {w : List (List Wire)} {done : List Bool} {n x : ℕ} → Ready w done n x → (g : Stands s n w) → (q : ℕ) → q < length (inputs g.model (tag_of s x))
    → Serves s done n (inputs g.model (tag_of s x)) q
serves {s} {w} {done} {n} {x} r g q h = go (wire_at w x q) (g.wired x q r.below three_at_most) (r.each q three_at_most)
  where
    three_at_most : q < 3
    three_at_most = omega (arith, g.short x r.below)

    go : (v : Wire) → Leads s n (inputs g.model (tag_of s x)) q v → Served done v → Serves s done n (inputs g.model (tag_of s x)) q
    go (To v) l d = record { row = v; below = l.0; marked = d; named = l.2 }
    go Past l d = absurd (let z : ⊥ = omega (arith, l) in z)
    go Open l d = absurd d
