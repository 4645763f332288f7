-- Laws of kinds: what stands past the last. Assumes nothing.
use Prim.Native.Nat.{ℕ, ◌≤◌}
use mathlib.Core.Path.{◌≡◌, ap, ◌∙◌}
use mathlib.Core.Option.{none}
use lib.ListN.{get_or, get_or-eq_default}
use lib.Ieee.{Float}
use Rattle.component_layout.specs.declared.component_words.DataWords.{DataWords}
use Rattle.component_layout.specs.Components.{kinds, component_of, booleans, settings, data_from}

-- a kind from 15 on is no component's
pub component_beyond : (k : ℕ) (a b c d e : Float) → 15 ≤ k → component_of k a b c d e ≡ none
unfolding component_of
component_beyond k a b c d e h = get_or-eq_default (kinds a b c d e) none h

-- a kind from 3 on is no setting's
pub data-beyond : (w : DataWords) → 3 ≤ w.kind → data_from w ≡ none
unfolding data_from
data-beyond w h = get_or-eq_default (settings w.a w.b w.c) none h

-- a word from 2 on is no boolean's
pub no_boolean : (w : DataWords) → w.kind ≡ 2 → 2 ≤ w.a → data_from w ≡ none
unfolding data_from
no_boolean w e h = ap (λ (k : ℕ). get_or (settings w.a w.b w.c) k none) e ∙ get_or-eq_default booleans none h
