-- `sound_components::entry_sound` meets its contract: `Laws/Entries.antt`. Assumes nothing.
use Rattle.std.proofs.Common.{rules}
use Rattle.tag.proofs.Laws.View.{fits_len}
use Rattle.sound_components.proofs.Laws.Entries.{judged}
use Rattle.sound_components.proofs.entry_sound.Goals as goal

pub returns-else-takes-eq0 : goal.returns-else-takes-eq0
returns-else-takes-eq0 c =
    judged c.args.m.now c.args.e.now (fits_len c.args.e.now.tag (search rules)) _ c.input_count-takes.ensures c.if-takes-eq0.false _ _
    (λ l k. search rules)
    c.get_inputs.ensures c.is_some_and.ensures
