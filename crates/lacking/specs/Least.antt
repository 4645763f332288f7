-- The least tag in byte order of those that the lists show: what the helpers of compile promise for 12 and 13. Definitions only.
use Rattle.std.specs.Prelude.{ℕ, ◌≤◌, ◌<◌, ◌≡◌, Bool, true, false, not, ltb, min, List, get_or, take, ◌++◌, Option, Some, None}
use Rattle.std.specs.Bool.{then_some}
use Rattle.std.specs.Option.{option_map, option_to_list}
use Rattle.std.specs.List.{filter, filter_map, zip, reduce, position}
use Rattle.std.specs.Ordering.{nat_cmp, min_by_ordering}
use Rattle.std.specs.Cmp.Lexicographic.{slice_cmp}
use Rattle.std.proofs.Math.Option.{some}
use Rattle.tag.specs.Tags.{Tag, before}
use Rattle.tag.specs.View.{bytes_of}
use Rattle.tag.specs.declared.Tag.{Tag as Label}
use Rattle.model.specs.declared.implicit_model.InputList.{InputList}
use Rattle.model.specs.declared.implicit_model.Model.{Model as Record}
use Rattle.model.specs.View.{place_of, rows}
use Rattle.model.specs.Walk.{gap}
use Rattle.lacking.specs.declared.least.Gap.{Gap as Found}
use Rattle.nodes.specs.declared.Wire.{Wire}
use Rattle.nodes.specs.declared.Wire.TheVariants.{To, Absent, Gap, Past}
use Rattle.resolving.specs.declared.slots.ListWires.{ListWires}
use Rattle.resolving.specs.Slots.{look, place_want, node_of, owner_of}

-- the mark of a node
abbrev pub marked_at : List Bool → Option ℕ → Bool
marked_at seen (Some x) = get_or seen x false
marked_at seen None = false

-- a wire leads to a component
abbrev pub component_at : Wire → Bool
component_at (To x) = ltb x 64
component_at Absent = false
component_at Gap = false
component_at Past = false

abbrev pub gap_at : Wire → Bool
gap_at (To x) = false
gap_at Absent = false
gap_at Gap = true
gap_at Past = false

-- b is the least of S by its tag
pub record LeastIs {A : Type 0} (tag : A → Tag) (S : A → Type 0) (b : A) : Type 0 where
  pub found : S b
  pub least : (a : A) → S a → before (tag a) (tag b) ≡ false

-- the least of S by its tag, or none where S is empty
abbrev pub LeastOf : {A : Type 0} → (A → Tag) → (A → Type 0) → Option A → Type 0
LeastOf tag S (Some b) = LeastIs tag S b
LeastOf tag S None = (a : _) → ¬ S a

-- a list shows its own tag, and those in its places
pub data Shows (l : InputList) (a : Tag) : Type 0 where
  own : bytes_of l.tag ≡ a → Shows l a
  placed : (p : ℕ) → p < 3 → place_want (rows place_of l.count l.places) p ≡ look a → Shows l a

-- a marked list shows a, which has no component
pub record AbsentShown (no : InputList) (m : Record) (found : List ListWires) (seen : List Bool) (a : Tag) : Type 0 where
  pub list : ℕ
  pub below : list < min m.list_count 128
  pub marked : marked_at seen (owner_of found list) ≡ true
  pub shows : Shows (get_or m.lists list no) a
  pub absent : 64 ≤ node_of m a

-- a marked list has the tag, and its first gap is at the index
pub record GapShown (no : InputList) (m : Record) (found : List ListWires) (seen : List Bool) (g : Tag × ℕ) : Type 0 where
  pub list : ℕ
  pub below : list < min m.list_count 128
  pub marked : marked_at seen (owner_of found list) ≡ true
  pub tag : bytes_of (get_or m.lists list no).tag ≡ g.0
  pub gap : gap 0 (rows place_of (get_or m.lists list no).count (get_or m.lists list no).places) ≡ some g.1

abbrev pub gap_of : Found → Tag × ℕ
gap_of g = (bytes_of g.tag, g.index)

-- ---- what the helpers promise

-- the least of tags
abbrev pub least : List Label → Option Label
least ts = reduce (λ s t. min_by_ordering (slice_cmp nat_cmp (bytes_of s) (bytes_of t)) s t) ts

-- the tags without a component that a list shows: its own, and those in its places
abbrev pub absents : InputList → ListWires → List Label
absents l w = option_to_list (then_some (not (component_at w.own)) l.tag) ++ filter_map (λ x. x.0) (filter (λ x. not (component_at x.1)) (zip (take l.count l.places) w.places))

-- a list's tag with its first gap
abbrev pub gap_in : InputList → ListWires → Option Found
gap_in l w = option_map (λ p. record { tag = l.tag; index = p }) (position gap_at w.places)
