-- `component_of` meets its contract. Assumes nothing.
use native.Mathlib.Omega.{arith}
use mathlib.Core.Path.{sym}
use mathlib.Core.Option.{none}
use lib.ListN.{get_or-eq_default}
use Rattle.component_layout.specs.Components.{kinds, component_of}
use Rattle.component_layout.proofs.component_words.component_of.Goals as goal

pub returns-in_default : goal.returns-in_default
unfolding component_of
returns-in_default c = sym (get_or-eq_default (kinds _ _ _ _ _) none (omega arith))
