-- Numbers worked along a line. What the helpers of evaluate_in promise. Definitions only.
use Rattle.std.specs.Prelude.{ℕ, ◌<◌, ◌≡◌, Bool, true, false, ⊤, List, Float, get_or, Option, Some, None}
use Rattle.std.proofs.Math.Option.{some}
use Rattle.std.specs.Float.{nan}
use Rattle.geometry.specs.declared.vec3f.Vec3.{Vec3}
use Rattle.component.specs.Value.{compute}
use Rattle.component.specs.declared.model_component.Component.{Component}
use Rattle.model.specs.Form.{Number}
use Rattle.model.specs.Walk.{clear, walk_from}
use Rattle.finding.specs.Rows.{component_row, tag_of}
use Rattle.standing.specs.declared.Wire.{Wire}
use Rattle.standing.specs.declared.Wire.TheVariants.{To, Past, Open}
use Rattle.standing.specs.Standing.{wire_at, Stands}

-- the number v that a wire brings, of those that are worked
abbrev pub Brings : List (Option Float) → Wire → Float → Type 0
Brings numbers (To r) v = get_or numbers r None ≡ Some v
Brings numbers Past v = v ≡ nan
Brings numbers Open v = ⊥

-- the value of the component at x, one of n, on the numbers that its wires bring
pub record Value (s : List ℕ) (n : ℕ) (w : List (List Wire)) (numbers : List (Option Float)) (x : ℕ) (p : Vec3) (v : Float) : Type 0 where
  pub below : x < n
  pub component : Component
  pub is : component_row s x ≡ some component
  pub input : ℕ → Float
  pub brings : (q : ℕ) → q < 3 → Brings numbers (wire_at w x q) (input q)
  pub value : v ≡ compute component p (input 0) (input 1) (input 2)

-- v is the number of the component at t, whichever model stands there
abbrev pub Works : List ℕ → ℕ → List (List Wire) → Vec3 → ℕ → Float → Type 0
Works s n w p t v = (g : Stands s n w) → Number g.model p (tag_of s t) v

-- there is no such place, or its component is done
abbrev pub Served : List Bool → Wire → Type 0
Served done (To r) = get_or done r false ≡ true
Served done Past = ⊤
Served done Open = ⊥

-- the component at x, one of n, has its three places served
pub record Ready (w : List (List Wire)) (done : List Bool) (n x : ℕ) : Type 0 where
  pub below : x < n
  pub each : (q : ℕ) → q < 3 → Served done (wire_at w x q)

-- the walk of `add_input` from the component at `from` meets neither the one at `target` nor a gap, whichever model stands there
abbrev pub Clear : List (List Wire) → ℕ → ℕ → ℕ → Type 0
Clear w n target from = (s : List ℕ) (g : Stands s n w) → target < n → walk_from g.model (tag_of s target) (tag_of s from) ≡ clear
