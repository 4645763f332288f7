-- Document 01, the walk of `add_input`: breadth first from the source, inputs in index order, each tag once. Definitions only.
use Rattle.std.specs.Prelude.{true, false, cond, List, [], ◌∷◌, ◌++◌, ℕ, zero, suc, ◌+◌, length}
use Rattle.std.proofs.Math.Option.{Option, none, some}
use Rattle.tag.specs.Tags.{Tag, is}
use Rattle.model.specs.Table.{any, Table}
use Rattle.model.specs.Model.{Place, Model, inputs}

-- the first unassigned place of a list, lowest index first, where its head has index i
unfoldable pub gap : ℕ → List Place → Option ℕ
gap i [] = none
gap i (none ∷ l) = some i
gap i (some t ∷ l) = gap (suc i) l

-- the tags of a list, in index order
unfoldable pub tags : List Place → List Tag
tags [] = []
tags (none ∷ l) = tags l
tags (some t ∷ l) = t ∷ tags l

-- those of the tags that have not been in the line, each once
unfoldable pub fresh : List Tag → List Tag → List Tag
fresh seen [] = []
fresh seen (t ∷ ts) = cond (any (is t) seen) (fresh seen ts) (t ∷ fresh (t ∷ seen) ts)

-- the walk found neither, the target, or an unassigned place
pub data Walked : Type 0 where
  clear : Walked
  met : Walked
  gapped : Tag → ℕ → Walked

-- `line` waits, and `seen` has been in it. A tag is met at its turn: if it is the target, the walk ends; else a gap in its list ends it; only then do its inputs join the line.
unfoldable pub walk : ℕ → Model → Tag → List Tag → List Tag → Walked
walk zero m target seen line = clear
walk (suc k) m target seen [] = clear
walk (suc k) m target seen (t ∷ line) =
    elim (is t target) [
      | true ↦ met
      | false ↦ elim (gap 0 (inputs m t)) [
        | some i ↦ gapped t i
        | none ↦ let more = fresh seen (tags (inputs m t)) in walk k m target (more ++ seen) (line ++ more)
      ]
    ]

-- how many places the lists have
unfoldable pub total : Table (List Place) → ℕ
total [] = 0
total (e ∷ r) = length e.1 + total r

-- No more tags can join the line than there are places, so that these turns are enough: the walk ends by itself (`proofs/Theorems/Walk.antt`).
unfoldable pub walk_from : Model → Tag → Tag → Walked
walk_from m target source = walk (suc (suc (total m.lists))) m target (source ∷ []) (source ∷ [])
