-- What stands in the bytes of a model: names of components, lists of components, wires. What the functions here promise. Definitions only.
use Rattle.std.specs.Prelude.{ℕ, ◌+◌, ◌*◌, ◌-◌, ◌≤◌, ◌<◌, ◌≡◌, ◌≢◌, ◌⊎◌, min, false, List, [], T, ⊤, length, get_or, take, drop, Option, Some, None, Result, Ok, Err}
use Rattle.std.proofs.Math.Option.{none, some}
use Rattle.tag.specs.Tags.{Tag, overlong}
use Rattle.component.specs.Value.{input_count}
use Rattle.component.specs.declared.model_component.Component.{Component}
use Rattle.model.specs.Model.{Place, Model, component, inputs, valid}
use Rattle.layout.specs.Words.{word, text}
use Rattle.model_bytes.specs.ModelBytes.{model_in}
use Rattle.finding.specs.Rows.{component_at, list_place_at, component_row, tag_of, RowSought}
use Rattle.standing.specs.declared.Untold.{Untold}
use Rattle.standing.specs.declared.Wire.{Wire}
use Rattle.standing.specs.declared.Wire.TheVariants.{To, Past, Open}

-- the row r, of n, has the tag t
pub record Names (s : List ℕ) (n : ℕ) (t : Tag) (r : ℕ) : Type 0 where
  pub below : r < n
  pub tag : tag_of s r ≡ t

-- the place at byte `at` is assigned, and the row r, of n, has its tag
pub record PlaceNames (s : List ℕ) (n at r : ℕ) : Type 0 where
  pub assigned : 0 < word s at
  pub names : Names s n (take (word s at - 1) (drop (at + 8) s)) r

-- a list of the component i among n lists whose keys are known
abbrev pub Listing : List ℕ → List ℕ → ℕ → ℕ → ℕ → Result (Option ℕ) Untold → Type 0
Listing s keys n k i (Ok (Some r)) = (r < n) × (text s (list_place_at r) ≡ tag_of s i)
Listing s keys n k i (Ok None) = (j : ℕ) → j < n → get_or keys j 0 ≢ k
Listing s keys n k i (Err e) = ⊤

-- each of the first n lists has a place
abbrev pub Filled : List ℕ → ℕ → Type 0
Filled s n = (j : ℕ) → j < n → 0 < word s (5736 + 168 * j)

-- the default is none, or names one of n components
abbrev pub DefaultNamed : List ℕ → ℕ → Type 0
DefaultNamed s n = (word s 24 ≡ 0) ⊎ ((r : ℕ) × PlaceNames s n 24 r)

-- what stands in the place p of the list o
abbrev pub Stood : List ℕ → ℕ → ℕ → ℕ → Wire → Type 0
Stood s n o p (To r) = (p < word s (5736 + 168 * o)) × PlaceNames s n (5744 + 168 * o + 40 * p) r
Stood s n o p Past = word s (5736 + 168 * o) ≤ p
Stood s n o p Open = ⊤

-- the component i takes so many inputs
abbrev pub Takes : List ℕ → ℕ → ℕ → Type 0
Takes s i n = (c : Component) → component_row s i ≡ some c → input_count c ≡ n

-- the three wires of the component i, one of n, whose key is k: it takes no inputs and is without a list, or a list is its own, among m whose keys are known, with as many places as it takes inputs
pub data Owned (s : List ℕ) (n : ℕ) (lists : List ℕ) (m k i : ℕ) (w : List Wire) : Type 0 where
  unlisted : ((j : ℕ) → j < m → get_or lists j 0 ≢ k) → Takes s i 0 → ((p : ℕ) → p < 3 → get_or w p Open ≡ Past) → Owned s n lists m k i w
  listed : (o : ℕ) → o < m → text s (list_place_at o) ≡ tag_of s i → Takes s i 0 ⊎ Takes s i (word s (5736 + 168 * o)) → ((p : ℕ) → p < 3 → Stood s n o p (get_or w p Open)) → Owned s n lists m k i w

-- three wires for each of n components, whose keys are known
pub record Wires (s : List ℕ) (n : ℕ) (lists : List ℕ) (m : ℕ) (keys : List ℕ) (w : List (List Wire)) : Type 0 where
  pub size : length w ≡ 64
  pub each : (i : ℕ) → i < n → Owned s n lists m (get_or keys i 0) i (get_or w i [])

-- what a wire leads to, in the place p of a list of the model
abbrev pub Leads : List ℕ → ℕ → List Place → ℕ → Wire → Type 0
Leads s n l p (To v) = (v < n) × (p < length l) × (get_or l p none ≡ some (tag_of s v))
Leads s n l p Past = length l ≤ p
Leads s n l p Open = ⊤

-- the wire in the place p of the component i
abbrev pub wire_at : List (List Wire) → ℕ → ℕ → Wire
wire_at w i p = get_or (get_or w i []) p Open

-- the bytes hold a model that 7 lets pass, with n components, whose wires are w
pub record Stands (s : List ℕ) (n : ℕ) (w : List (List Wire)) : Type 0 where
  pub model : Model
  pub is : model_in s ≡ some model
  pub sound : T (valid model)
  pub count : n ≡ word s 8
  pub few : n ≤ 64
  pub component : (i : ℕ) (c : Component) → i < n → component_row s i ≡ some c → component model (tag_of s i) ≡ some c
  pub short : (i : ℕ) → i < n → length (inputs model (tag_of s i)) ≤ 3
  pub wired : (i p : ℕ) → i < n → p < 3 → Leads s n (inputs model (tag_of s i)) p (wire_at w i p)

-- the bytes hold a model that 7 lets pass
pub record Passing (s : List ℕ) : Type 0 where
  pub model : Model
  pub is : model_in s ≡ some model
  pub sound : T (valid model)

-- so; and t, which is no longer than a tag may be, stands in the row r of its components
pub record RowOfComponent (s : List ℕ) (t : Tag) (r : ℕ) : Type 0 where
  pub passing : Passing s
  pub short : overlong t ≡ false
  pub row : RowSought s component_at (min (word s 8) 64) t (Some r)
