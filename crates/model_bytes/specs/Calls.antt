-- What decoding answers, and bytes that hold a model. Definitions only.
use Rattle.std.specs.Prelude.{ℕ, ◌+◌, ◌*◌, ◌≤◌, ◌<◌, ◌≡◌, true, List, length, get_or, Option}
use Rattle.std.proofs.Math.Option.{some}
use Rattle.model.specs.declared.implicit_model.Model.{Model as Record}
use Rattle.model.specs.Model.{Model, Same, valid}
use Rattle.model.specs.View.{view, fits}
use Rattle.model_bytes.specs.ModelBytes.{model_in}
use Rattle.model_bytes.specs.Steps.{Read}

-- decoded: a record within its sizes of the model that the bytes hold; or that they hold none
abbrev pub Decodes : List ℕ → Option Record → Type 0
Decodes s r = Read view fits (model_in s) r

-- t is s but for the header and the first n and k rows of its tables
pub record Spares (n k : ℕ) (s t : List ℕ) : Type 0 where
  pub size : length t ≡ length s
  pub components : (i : ℕ) → 64 + 88 * n ≤ i → i < 5696 → get_or t i 0 ≡ get_or s i 0
  pub lists : (i : ℕ) → 5696 + 168 * k ≤ i → get_or t i 0 ≡ get_or s i 0

-- The bytes t hold the model m, at any table positions, and 7 lets it pass. Rows past its counts are as they were in s.
pub record Holds (m : Model) (s t : List ℕ) : Type 0 where
  pub model : Model
  pub held : model_in t ≡ some model
  pub same : Same m model
  pub passing : valid model ≡ true
  pub rows : Spares (length model.components) (length model.lists) s t
