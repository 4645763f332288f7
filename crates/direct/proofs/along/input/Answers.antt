-- `input` meets its contract. Assumes nothing.
use mathlib.Core.Path.{refl, sym, subst}
use lib.Ieee.{of_bits, of_fields, odd}
use Rattle.standing.specs.declared.Wire.{Wire}
use Rattle.direct.specs.Along.{Brings}
use Rattle.direct.proofs.along.input.Goals as goal

pub returns-in-Past : goal.returns-in-Past
unfolding of_bits of_fields odd
returns-in-Past c = subst (λ (w : Wire). Brings c.args.numbers.now w _) (sym c.in-Past.is) refl
