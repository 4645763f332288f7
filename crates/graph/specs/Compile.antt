-- Document 01's compile as a promise about the record that it answers with. Definitions only.
use Rattle.std.specs.Prelude.{ℕ, ◌≤◌, ◌<◌, min, ◌≡◌, Bool, true, false, Some, Result, Ok, Err, length, get_or, take}
use mathlib.Core.List.{List, [], map, Memᴰ}
use Rattle.tag.specs.Tags.{Tag, empty, overlong}
use Rattle.tag.specs.View.{bytes_of}
use Rattle.model.specs.declared.implicit_model.InputList.{InputList}
use Rattle.model.specs.declared.implicit_model.Model.{Model as Record}
use Rattle.model.specs.declared.model_error.Refusal.{Refusal}
use Rattle.model.specs.Answer.{number_of, refusal_of}
use Rattle.model.specs.Edit.{refused}
use Rattle.model.specs.Model.{inputs}
use Rattle.model.specs.Form.{ordered, stopped, Compiled}
use Rattle.model.specs.View.{components_of, view, passes}
use Rattle.graph.specs.declared.computation_graph.Graph.{Graph}
use Rattle.nodes.specs.declared.Wire.{Wire}
use Rattle.nodes.specs.declared.Wire.TheVariants.{Past}
use Rattle.nodes.specs.Nodes.{LaysOut, Marks, Copied}
use Rattle.resolving.specs.declared.slots.ListWires.{ListWires}
use Rattle.resolving.specs.Slots.{place_want, node_of, settled, Resolved}
use Rattle.graph.specs.Wiring.{Wired}

-- the tag held at a position of the component table
abbrev pub tag_at : Record → ℕ → Tag
tag_at m i = get_or (map (λ e. e.0) (components_of m)) i []

-- the positions of an order, as many as its count
abbrev pub positions_of : Graph → List ℕ
positions_of g = take g.count g.order

-- an order, read as the tags held at its positions
pub record OrdersAs (m : Record) (t : Tag) (g : Graph) : Type 0 where
  pub passing : passes m ≡ true
  pub compiled : Compiled (view m) t ordered (map (tag_at m) (positions_of g))
  -- the count is the number of positions, 64 at most, and each is that of a component
  pub counted : length (positions_of g) ≡ g.count
  pub few : g.count ≤ 64
  pub held : (i : ℕ) → Memᴰ i (positions_of g) → i < length (components_of m)
  -- the wire in each place of a component of the order: to a component; Past where its list has no such place
  pub wired : (i p : ℕ) → Memᴰ i (positions_of g) → p < 3 → get_or (get_or g.inputs i []) p Past ≡ settled m (place_want (inputs (view m) (tag_at m i)) p)

-- a refusal: 7 first, then what document 01 defines
pub record RefusesAs (m : Record) (t : Tag) (r : Refusal) : Type 0 where
  pub fitting : passes m ≡ true → Compiled (view m) t (stopped (number_of r.error) (bytes_of r.tag) r.index) []
  pub unfit : passes m ≡ false → refusal_of r ≡ refused 7 empty 0

abbrev pub CompilesAs : Record → Tag → Result Graph Refusal → Type 0
CompilesAs m t (Ok g) = OrdersAs m t g
CompilesAs m t (Err r) = RefusesAs m t r

-- ---- what the helpers promise

-- 64 positions, of which the first are those of an order, as far as they go
pub record Filled (xs r : List ℕ) : Type 0 where
  pub r_length : length r ≡ 64
  pub same : take (length xs) r ≡ take 64 xs

-- an order, with its wires
pub record Placing (xs : List ℕ) (w : List (List Wire)) (g : Graph) : Type 0 where
  pub count : g.count ≡ length xs
  pub order : Filled xs g.order
  pub inputs : Copied 64 w g.inputs

-- the form of a target that 7, 1 and 14 let pass: its lists resolved, its wires drawn, its reach laid out
pub record Formed (no : InputList) (m : Record) (t : Tag) (found : List ListWires) (w : List (List Wire)) (xs : List ℕ) (whole : Bool) (seen : List Bool) : Type 0 where
  pub fits : passes m ≡ true
  pub short : overlong t ≡ false
  pub live : min m.list_count (length m.lists) ≡ min m.list_count 128
  pub node : node_of m t < 192
  pub resolved : Resolved no m found
  pub wires : Wired found (min m.list_count 128) w
  pub reach : List ℕ
  pub laid : LaysOut w (node_of m t) reach (Some xs) whole
  pub marked : Marks reach seen

-- an answer to every target that has this form
abbrev pub Judged : InputList → Record → List ListWires → List (List Wire) → List ℕ → List Bool → Result Graph Refusal → Type 0
Judged d m found w xs seen r = (t : Tag) → Formed d m t found w xs false seen → CompilesAs m t r
