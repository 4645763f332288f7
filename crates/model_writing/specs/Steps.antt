-- What the helpers of encoding answer. Definitions only.
use Rattle.std.specs.Prelude.{ℕ, ◌≡◌, List}
use Rattle.std.proofs.Math.Option.{some}
use Rattle.model.specs.View.{PlaceRecord, place_of}
use Rattle.layout.specs.Words.{word}
use Rattle.layout.specs.Writing.{Kept}
use Rattle.rows.specs.Rows.{place_in}

-- the header, written into the first 64 bytes: n components, k lists and the default d
pub record Header (n k : ℕ) (d : PlaceRecord) (s t : List ℕ) : Type 0 where
  pub kept : Kept s t 0 64
  pub version : word t 0 ≡ 1
  pub components : word t 8 ≡ n
  pub lists : word t 16 ≡ k
  pub default : place_in t 24 ≡ some (place_of d)
