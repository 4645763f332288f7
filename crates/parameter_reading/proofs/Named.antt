-- The data under a name, or else another's. Assumes nothing.
use Rattle.std.proofs.Common.{◌≡◌, refl, Bool, true, false, cond}
use Rattle.std.specs.Prelude.{Option, Some}
use Rattle.std.specs.Option.{option_or}
use Rattle.component.specs.declared.parameter.Data.{Data}

pub or_under : (b : Bool) (x : Data) (o p : Option Data) → option_or (cond b (Some x) o) p ≡ cond b (Some x) (option_or o p)
or_under true x o p = refl
or_under false x o p = refl
