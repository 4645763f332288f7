-- Whether something stands in bytes. Definitions only.
use Rattle.std.specs.Prelude.{◌≡◌}
use Rattle.std.proofs.Math.Option.{Option, some}

-- something stands there
pub record Held {A : Type 0} (there : Option A) : Type 0 where
  pub held : A
  pub is : there ≡ some held
