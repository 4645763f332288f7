-- What the helpers of decoding answer. Definitions only.
use Rattle.std.specs.Prelude.{ℕ, ◌≡◌, Bool, true, List, Option, Some, None}
use Rattle.std.proofs.Math.Option.{Option as Maybe, none, some}
use Rattle.model.specs.View.{rows, every}

-- what was read: a record r, which seen through g is what stands there and is within its sizes; or that nothing stands there
abbrev pub Read : {A B : Type 0} → (A → B) → (A → Bool) → Maybe B → Option A → Type 0
Read g sized there None = there ≡ none
Read g sized there (Some r) = (there ≡ some (g r)) × (sized r ≡ true)

-- the first n rows of a table are within their sizes
abbrev pub all_fit : {A : Type 0} → (A → Bool) → ℕ → List A → Bool
all_fit sized n table = every (rows sized n table)
