-- `input_rows::Inputs::too_long` meets its contract. Assumes nothing.
use mathlib.Core.Path.{◌∙◌}
use mathlib.Core.List.{[], ◌∷◌}
use Rattle.std.proofs.Common.{rules, Bor}
use Rattle.std.proofs.lemmas.Iterator.{YieldsList-from_slice, YieldsList-from_take}
use Rattle.std.proofs.lemmas.Iterator.Search.{any_from_yields_List}
use Rattle.tag.specs.Tags.{Tag, overlong}
use Rattle.input_rows.proofs.Laws.Inputs.{any_given}
use Rattle.input_rows.proofs.Inputs.too_long.Goals as goal

pub returns : goal.returns
unfolding overlong
returns c =
    let i = c.args.self in
    any_from_yields_List (λ (x : Bor Tag). overlong x.now) _ _ _ c.any.ensures.ran (YieldsList-from_take i.count (YieldsList-from_slice (i.first ∷ i.second ∷ i.third ∷ []) cc) cc) (λ x b q k. search rules)
    ∙ any_given i.count i.first i.second i.third
