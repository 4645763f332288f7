-- From the record to nodes and wires: what the helpers of compile promise of tags. Definitions only.
use Rattle.std.specs.Prelude.{ℕ, zero, suc, ◌+◌, ◌<◌, min, ◌≡◌, List, [], ◌∷◌, length, get_or, Option, Some, None}
use Rattle.std.proofs.Math.Option.{none, some}
use Rattle.tag.specs.Tags.{Tag}
use Rattle.tag.specs.View.{bytes_of}
use Rattle.model.specs.declared.implicit_model.InputList.{InputList}
use Rattle.model.specs.declared.implicit_model.Model.{Model as Record}
use Rattle.model.specs.Model.{Place}
use Rattle.model.specs.View.{place_of, rows, components_of, lists_of}
use Rattle.held.specs.Search.{position}
use Rattle.nodes.specs.declared.Wire.{Wire}
use Rattle.nodes.specs.declared.Wire.TheVariants.{Gap, Past}
use Rattle.nodes.specs.Nodes.{target, wire_to}
use Rattle.resolving.specs.declared.slots.ListWires.{ListWires}

-- ---- nodes

abbrev pub node_at : Option ℕ → Option ℕ → ℕ
node_at (Some i) g = i
node_at None (Some l) = 64 + l
node_at None None = 192

-- the node of a tag: its component's position; else 64 and on for its list's; else 192
unfoldable pub node_of : Record → Tag → ℕ
node_of m a = node_at (position a 0 (components_of m)) (position a 0 (lists_of m))

-- the node that a search answers, or that the tag has none
abbrev pub NodeOf : Record → Tag → Option ℕ → Type 0
NodeOf m a (Some x) = (x < 192) × (x ≡ node_of m a)
NodeOf m a None = 192 ≡ node_of m a

-- ---- what stands in a place of a list: a tag to look up, a gap, or nothing

pub data Want : Type 0 where
  look : Tag → Want
  unassigned : Want
  no_place : Want

-- a place names a tag, is unassigned, or is past the end
unfoldable pub place_want : List Place → ℕ → Want
place_want [] p = no_place
place_want (none ∷ l) zero = unassigned
place_want (some a ∷ l) zero = look a
place_want (q ∷ l) (suc p) = place_want l p

-- the wire that it comes to
abbrev pub settled : Record → Want → Wire
settled m (look a) = wire_to (node_of m a)
settled m unassigned = Gap
settled m no_place = Past

-- ---- lists

-- the wires of a list: that of its own tag, and those in its three places
pub record Settled (m : Record) (l : InputList) (wires : ListWires) : Type 0 where
  pub own : wires.own ≡ wire_to (node_of m (bytes_of l.tag))
  pub size : length wires.places ≡ 3
  pub each : (p : ℕ) → p < 3 → get_or wires.places p Past ≡ settled m (place_want (rows place_of l.count l.places) p)

-- what is read past the end of the lists' wires, which nothing does
abbrev pub no_wires : ListWires
no_wires = record { own = Past; places = [] }

-- `no` stands for what is read past a table's end, which nothing does
pub record Resolved (no : InputList) (m : Record) (found : List ListWires) : Type 0 where
  pub found-length : length found ≡ 128
  pub each : (l : ℕ) → l < min m.list_count 128 → Settled m (get_or m.lists l no) (get_or found l no_wires)

-- the node of the tag of a list, by its wires
abbrev pub owner_of : List ListWires → ℕ → Option ℕ
owner_of found l = target (get_or found l no_wires).own
