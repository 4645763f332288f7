-- What is written in the rows of a model in bytes. Definitions only.
use Rattle.std.specs.Prelude.{ℕ, ◌+◌, ◌*◌, ◌≤◌, ◌<◌, ◌≡◌, List, length}
use Rattle.std.proofs.Math.Option.{some}
use Rattle.tag.specs.View.{bytes_of}
use Rattle.model.specs.declared.implicit_model.ComponentEntry.{ComponentEntry}
use Rattle.model.specs.declared.implicit_model.InputList.{InputList}
use Rattle.model.specs.Model.{Place}
use Rattle.rows.specs.Rows.{place_in, places_of}
use Rattle.rows.specs.Written.{Wrote}
use Rattle.model_bytes.specs.ModelBytes.{entry_in, list_in}
use Rattle.finding.specs.Rows.{component_at, list_place_at}

-- the row i of the components of a model's bytes holds e; there is no other change, and none where there is no such row
pub record PutEntry (i : ℕ) (e : ComponentEntry) (s u : List ℕ) : Type 0 where
  pub wrote : length s ≡ 27200 → i < 64 → Wrote (λ v. entry_in v (component_at i)) (some (bytes_of e.tag, e.component)) (component_at i) 88 s u
  pub narrow : (length s ≡ 27200 → ⊥) → u ≡ s
  pub past : 64 ≤ i → u ≡ s

-- the row j of the lists, of at most three places
pub record PutList (j : ℕ) (l : InputList) (s u : List ℕ) : Type 0 where
  pub wrote : length s ≡ 27200 → j < 128 → l.count ≤ 3 → Wrote (λ v. list_in v (list_place_at j)) (some (bytes_of l.tag, places_of l.count l)) (list_place_at j) 168 s u
  pub narrow : (length s ≡ 27200 → ⊥) → u ≡ s
  pub past : 128 ≤ j → u ≡ s
  pub many : 3 < l.count → u ≡ s

-- the place p of the row j
pub record PutPlace (j p : ℕ) (q : Place) (s u : List ℕ) : Type 0 where
  pub wrote : length s ≡ 27200 → j < 128 → p < 3 → Wrote (λ v. place_in v (5744 + 168 * j + 40 * p)) (some q) (5744 + 168 * j + 40 * p) 40 s u
  pub narrow : (length s ≡ 27200 → ⊥) → u ≡ s
  pub past : 128 ≤ j → u ≡ s
  pub many : 3 ≤ p → u ≡ s
