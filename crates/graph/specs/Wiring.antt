-- The wires of nodes, made of those of the lists. Definitions only.
use Rattle.std.specs.Prelude.{ℕ, ◌<◌, ◌≤◌, ◌≡◌, ◌≢◌, List, [], ◌∷◌, length, get_or, Some}
use Rattle.nodes.specs.declared.Wire.{Wire}
use Rattle.nodes.specs.declared.Wire.TheVariants.{Past}
use Rattle.nodes.specs.Nodes.{wires_of}
use Rattle.resolving.specs.declared.slots.ListWires.{ListWires}
use Rattle.resolving.specs.Slots.{no_wires, owner_of}

-- what stands in the places of a list
abbrev pub places_in : List ListWires → ℕ → List Wire
places_in found l = (get_or found l no_wires).places

-- each list has a node of its own
pub record Owned (found : List ListWires) (n : ℕ) : Type 0 where
  pub n_le : n ≤ 128
  pub small : (l : ℕ) → l < n → (x : ℕ) × (owner_of found l ≡ Some x)
  pub apart : (l k : ℕ) → l < n → k < n → owner_of found l ≡ owner_of found k → l ≡ k

-- a list's node has the list's places; any other node has none
pub record Wired (found : List ListWires) (n : ℕ) (w : List (List Wire)) : Type 0 where
  pub w_length : length w ≡ 192
  pub own : (l x : ℕ) → l < n → owner_of found l ≡ Some x → wires_of w x ≡ places_in found l
  pub free : (x : ℕ) → x < 192 → ((l : ℕ) → l < n → owner_of found l ≢ Some x) → wires_of w x ≡ Past ∷ Past ∷ Past ∷ []
