-- `sound_components::components_sound` meets its contract. Assumes nothing.
use mathlib.Core.Path.{◌∙◌}
use Rattle.std.proofs.Common.{rules}
use Rattle.std.proofs.lemmas.Iterator.{YieldsList-from_slice}
use Rattle.std.proofs.lemmas.Iterator.Search.{all_from_yields_List}
use Rattle.model.specs.View.{lists_of}
use Rattle.sound_components.specs.Sound.{entry_sound}
use Rattle.held.proofs.Laws.Rows.{every_rows}
use Rattle.sound_components.proofs.components_sound.Goals as goal

pub returns : goal.returns
returns c =
    let sound = entry_sound (lists_of c.args.m.now) in
    let entries = c.live_components.result.now in
    all_from_yields_List sound _ _ _ c.all.ensures.ran (YieldsList-from_slice entries cc) (λ x b q k. search rules)
    ∙ every_rows sound c.args.m.now.components c.args.m.now.component_count c.live_components.ensures.rows
