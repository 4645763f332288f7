-- Document 01, "The wires": the model, when two are the same, and what 7 refuses. Definitions only.
use Rattle.std.specs.Prelude.{◌≡◌, Bool, true, false, not, ◌&&◌, List, [], ◌∷◌, ℕ, zero, suc, leb, eqb, length}
use Rattle.std.proofs.Math.Option.{Option, none, some, get_or}
use Rattle.tag.specs.Tags.{Tag, overlong}
use Rattle.component.specs.Value.{input_count}
use Rattle.component.specs.declared.model_component.Component.{Component}
use Rattle.model.specs.Table.{all, Table, find, held, distinct}

-- Document 01's place of a list: unassigned (none), or a tag.
abbrev pub Place : Type 0
Place = Option Tag

-- Document 01's model: components and input lists are separate tables, each found by tag.
pub record Model : Type 0 where
  pub components : Table Component
  pub lists : Table (List Place)
  pub default : Option Tag

-- a new model holds nothing and has no default
unfoldable pub new : Model
new = record { components = []; lists = []; default = none }

abbrev pub component : Model → Tag → Option Component
component m t = find t m.components

-- A list counts for its tag even where that tag has a constant or nothing.
abbrev pub list : Model → Tag → Option (List Place)
list m t = find t m.lists

-- the places of a tag; a tag with no list has no inputs
abbrev pub inputs : Model → Tag → List Place
inputs m t = get_or (list m t) []

-- Two models are the same when they hold the same components, lists and default, at any table positions.
pub record Same (m n : Model) : Type 0 where
  pub components : (t : Tag) → component m t ≡ component n t
  pub lists : (t : Tag) → list m t ≡ list n t
  pub default : m.default ≡ n.default

-- ---- 7: the model breaks a size, holds a tag twice in one table, or has an operation without a list of its count, a list of no places, or a default that names no component

abbrev pub short_tag : {A : Type 0} → Tag × A → Bool
short_tag e = not (overlong e.0)

abbrev pub short_place : Place → Bool
short_place none = true
short_place (some t) = not (overlong t)

-- one to three places, each unassigned or a tag within its size
abbrev pub good_list : Tag × List Place → Bool
good_list e = leb 1 (length e.1) && (leb (length e.1) 3 && all short_place e.1)

-- what takes n inputs has a list of n places; what takes none may have any list, or none
abbrev pub counted : ℕ → Option (List Place) → Bool
counted zero l = true
counted (suc n) none = false
counted (suc n) (some l) = eqb (length l) (suc n)

abbrev pub listed : Table (List Place) → Tag × Component → Bool
listed ls e = counted (input_count e.1) (find e.0 ls)

abbrev pub named : Table Component → Option Tag → Bool
named cs none = true
named cs (some t) = held t cs

abbrev pub tests : Model → List Bool
tests m =
    leb (length m.components) 64
    ∷ leb (length m.lists) 128
    ∷ all short_tag m.components
    ∷ all short_tag m.lists
    ∷ all good_list m.lists
    ∷ distinct m.components
    ∷ distinct m.lists
    ∷ all (listed m.lists) m.components
    ∷ named m.components m.default
    ∷ []

-- 7 lets the model pass
unfoldable pub valid : Model → Bool
valid m = all (λ b. b) (tests m)
