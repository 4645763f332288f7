-- `sound_lists::lists_sound` meets its contract. Assumes nothing.
use mathlib.Core.Path.{◌∙◌}
use Rattle.std.proofs.Common.{rules}
use Rattle.std.proofs.lemmas.Iterator.{YieldsList-from_slice}
use Rattle.std.proofs.lemmas.Iterator.Search.{all_from_yields_List}
use Rattle.sound_lists.specs.Sound.{list_sound}
use Rattle.held.proofs.Laws.Rows.{every_map}
use Rattle.sound_lists.proofs.lists_sound.Goals as goal

pub returns : goal.returns
returns c =
    let lists = c.args.lists.now in
    all_from_yields_List list_sound _ _ _ c.all.ensures.ran (YieldsList-from_slice lists cc) (λ x b q k. search rules) ∙ every_map list_sound lists
