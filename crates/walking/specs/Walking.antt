-- What the walk's code holds: the rows of lists that have been in line, in their sequence. Definitions only.
use Rattle.std.specs.Prelude.{◌≡◌, true, List, [], ◌∷◌, ◌++◌, ℕ, ◌<◌, length, get_or, Result, MatchResult}
use Rattle.std.proofs.Math.Option.{none}
use Rattle.tag.specs.Tags.{Tag}
use Rattle.model.specs.declared.implicit_model.Model.{Model as Record}
use Rattle.model.specs.Table.{Table, find}
use Rattle.model.specs.Model.{Place}
use Rattle.model.specs.View.{lists_of, view, passes}
use Rattle.model.specs.Walk.{Walked, clear, met, gapped, walk_from}
use Rattle.nodes.specs.Nodes.{◌∈◌}
use Rattle.walking.specs.declared.Blocked.{Blocked}
use Rattle.walking.specs.declared.Blocked.TheVariants.{Target, Gap}

-- row r of the table is t's, and holds a
pub record Row {A : Type 0} (table : Table A) (r : ℕ) (t : Tag) (a : A) : Type 0 where
  pub within : r < length table
  pub entry : (d : Tag × A) → get_or table r d ≡ (t, a)

-- a tag joins the line if it has a list that has not been in it
pub data Joined (lists : Table (List Place)) (t : Tag) (line r : List ℕ) : Type 0 where
  absent : find t lists ≡ none → r ≡ line → Joined lists t line r
  again : {q : ℕ} {l : List Place} → Row lists q t l → q ∈ line → r ≡ line → Joined lists t line r
  joins : {q : ℕ} {l : List Place} → Row lists q t l → ¬ (q ∈ line) → r ≡ line ++ (q ∷ []) → Joined lists t line r

-- a model that 7 lets pass, and two of its lists
pub record Walkable (m : Record) (target from : ℕ) : Type 0 where
  pub passing : passes m ≡ true
  pub ends : target < length (lists_of m)
  pub starts : from < length (lists_of m)

-- why the walk is not clear
abbrev pub Stops : Table (List Place) → Walked → Blocked → Type 0
Stops lists w Target = w ≡ met
Stops lists w (Gap r i) = (t : Tag) × (l : List Place) × Row lists r t l × (w ≡ gapped t i)

-- what the walk's ending says
abbrev pub Says : {A : Type 0} → Table (List Place) → Result A Blocked → Walked → Type 0
Says lists r w = MatchResult r (λ _. w ≡ clear) (Stops lists w)

-- the tag of a row
abbrev pub tag_at : Table (List Place) → ℕ → Tag
tag_at lists r = (get_or lists r ([], [])).0

-- the walk from the one row's tag to the other's
abbrev pub Walks : {A : Type 0} → Record → ℕ → ℕ → Result A Blocked → Type 0
Walks m target from r = Says (lists_of m) r (walk_from (view m) (tag_at (lists_of m) target) (tag_at (lists_of m) from))

-- a model that 7 lets pass, and one of its lists
pub record Startable (m : Record) (target : ℕ) : Type 0 where
  pub passing : passes m ≡ true
  pub ends : target < length (lists_of m)

-- the walk from a tag to the row's
abbrev pub Wires : {A : Type 0} → Record → ℕ → Tag → Result A Blocked → Type 0
Wires m target source r = Says (lists_of m) r (walk_from (view m) (tag_at (lists_of m) target) source)
