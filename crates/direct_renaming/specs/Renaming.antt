-- What the helpers of rename_component_in promise. Definitions only.
use Rattle.std.specs.Prelude.{ℕ, ◌≤◌, ◌<◌, min, ◌≡◌, ◌≢◌, List, length, Option, Some, None}
use Rattle.std.proofs.Math.Option.{some}
use Rattle.tag.specs.Tags.{Tag}
use Rattle.layout.specs.Words.{word, text}
use Rattle.rows.specs.Rows.{tag_in}
use Rattle.rows.specs.Written.{Writes}
use Rattle.finding.specs.Rows.{component_at, list_place_at, RowSought}
use Rattle.standing.specs.Standing.{Passing}

-- the bytes hold a model whose component t stands in the row r, and no component and no list of it has the tag u
pub record Renamable (s : List ℕ) (t u : Tag) (r : ℕ) : Type 0 where
  pub passing : Passing s
  pub short : length t ≤ 32
  pub short_new : length u ≤ 32
  pub free : (i : ℕ) → i < min (word s 8) 64 → text s (component_at i) ≢ u
  pub free-list : (j : ℕ) → j < min (word s 16) 128 → text s (list_place_at j) ≢ u
  pub row : RowSought s component_at (min (word s 8) 64) t (Some r)

-- the list in a row, where it stands in the bytes, is under the tag u; there is no other change, and none where there is no such row
abbrev pub ListRenamed : Option ℕ → Tag → List ℕ → List ℕ → Type 0
ListRenamed (Some j) u s v = Writes (λ x. tag_in x (list_place_at j)) (some u) (list_place_at j) 40 s v
ListRenamed None u s v = v ≡ s
