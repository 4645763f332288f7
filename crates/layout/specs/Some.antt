-- Whether something is there. Definitions only.
use Rattle.std.specs.Prelude.{Bool, true, false}
use Rattle.std.proofs.Math.Option.{Option, none, some}

-- there is one
abbrev pub is_some : {A : Type 0} → Option A → Bool
is_some none = false
is_some (some a) = true
