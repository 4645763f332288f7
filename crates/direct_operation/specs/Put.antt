-- The rows of a new operation written into the bytes of a model. Definitions only.
use Rattle.std.specs.Prelude.{ℕ, ◌+◌, ◌≤◌, ◌<◌, min, ◌≡◌, ◌⊎◌, List, Option, Some, None}
use Rattle.std.proofs.Math.Option.{some}
use Rattle.tag.specs.Tags.{Tag}
use Rattle.component.specs.declared.model_component.Component.{Component}
use Rattle.model.specs.Model.{Place}
use Rattle.layout.specs.Words.{word}
use Rattle.rows.specs.Written.{Wrote}
use Rattle.model_bytes.specs.ModelBytes.{list_in}
use Rattle.finding.specs.Rows.{list_place_at, RowSought}
use Rattle.direct_adding.specs.Put.{More}

-- the row j of the lists holds ps under t
abbrev pub ListWrote : ℕ → Tag → List Place → List ℕ → List ℕ → Type 0
ListWrote j t ps s u = Wrote (λ v. list_in v (list_place_at j)) (some (t, ps)) (list_place_at j) 168 s u

-- and where it is the next one, j + 1 lists are counted
pub record RowPut (j : ℕ) (t : Tag) (ps : List Place) (s u : List ℕ) : Type 0 where
  pub over : j < word s 16 → ListWrote j t ps s u
  pub more : word s 16 ≤ j → (v : List ℕ) × ListWrote j t ps s v × Wrote (λ x. word x 16) (j + 1) 16 8 v u

-- the list, and the component
pub record OperationPut (n j : ℕ) (t : Tag) (c : Component) (ps : List Place) (d : Tag) (s u : List ℕ) : Type 0 where
  pub listed : List ℕ
  pub row : RowPut j t ps s listed
  pub more : More n t c d listed u

-- the list of t, among those counted
abbrev pub ListSought : List ℕ → Tag → Option ℕ → Type 0
ListSought s t row = RowSought s list_place_at (min (word s 16) 128) t row

-- the row for the list of t: the one that t has, or the next one, where there is room
abbrev pub RowFor : List ℕ → Tag → Option ℕ → Type 0
RowFor s t (Some j) = ListSought s t (Some j) ⊎ (ListSought s t None × ((j ≡ min (word s 16) 128) × (j < 128)))
RowFor s t None = ListSought s t None × (128 ≤ min (word s 16) 128)
