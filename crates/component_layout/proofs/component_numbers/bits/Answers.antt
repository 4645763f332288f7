-- `bits` meets its contract. Assumes nothing.
use mathlib.Core.Path.{sym, ap, subst, ◌∙◌}
use lib.Dec.{T}
use lib.Ieee.{binary64, of_bits}
use lib.Ieee.Bits.{of_bits-to_bits}
use Rattle.component_layout.proofs.component_numbers.bits.Goals as goal

pub returns : goal.returns
returns c =
    (c.bits_of.ensures, ap (of_bits binary64) c.bits_of.ensures ∙ of_bits-to_bits binary64 c.args.x (subst T (sym c.well_formed.0.1) tt))
