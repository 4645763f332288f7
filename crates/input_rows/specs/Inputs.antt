-- The inputs that `add_operation` is handed, and the list made of them. Definitions only.
use Rattle.std.specs.Prelude.{◌≡◌, Bool, true, false, List, [], ◌∷◌, map, ℕ, ◌-◌, ◌≤◌, T, eqb, take, replicate, Option as Given, Some, None}
use Rattle.std.proofs.Math.Option.{Option, none, some}
use Rattle.tag.specs.declared.Tag.{Tag as Label}
use Rattle.tag.specs.Tags.{Tag, empty, overlong}
use Rattle.tag.specs.View.{tag_fits}
use Rattle.model.specs.declared.implicit_model.InputList.{InputList}
use Rattle.model.specs.Table.{any}
use Rattle.model.specs.Model.{Place}
use Rattle.model.specs.View.{place_of, rows, list_fits}
use Rattle.input_rows.specs.declared.Inputs.{Inputs}

-- n tags are given, of which the first three are a, b and d; the others are never looked at
unfoldable pub tags_given : ℕ → Tag → Tag → Tag → List Tag
tags_given n a b d = take n (a ∷ b ∷ d ∷ replicate (n - 3) empty)

-- the tags of inputs
abbrev pub tags_of : Inputs → List Tag
tags_of i = tags_given i.count i.first.now i.second.now i.third.now

-- the inputs of a call: none given, or so many tags
unfoldable pub inputs_of : Given Inputs → Option (List Tag)
inputs_of (Some i) = some (tags_of i)
inputs_of None = none

-- as many inputs as the operation takes are given, or none
abbrev pub fitting : Given Inputs → ℕ → Bool
fitting (Some i) k = eqb i.count k
fitting None k = true

-- the first k, three at most
abbrev pub named : ℕ → Inputs → List Tag
named k i = take k (i.first.now ∷ i.second.now ∷ i.third.now ∷ [])

-- of k inputs, three at most, none is overlong
pub record Short (k : ℕ) (i : Inputs) : Type 0 where
  pub few : k ≤ 3
  pub short : any overlong (named k i) ≡ false

-- the places of the operation's list: the inputs given, or unassigned places
abbrev pub asked : Given Inputs → ℕ → List Place
asked (Some i) k = map some (named k i)
asked None k = replicate k none

-- the row of a list with these places
pub record RowOf (t : Label) (ps : List Place) (r : InputList) : Type 0 where
  pub tag : r.tag ≡ t
  pub places : rows place_of r.count r.places ≡ ps
  pub fits : tag_fits t ≡ true → T (list_fits r)
