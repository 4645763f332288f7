-- `dw_set_parameter` meets its contract. Assumes nothing.
use mathlib.Core.Path.{sym, ap, ◌∙◌}
use Rattle.model.specs.Edit.{set_parameter}
use Rattle.direct_words.proofs.Laws.Direct.{takes_as, taken-done, not_taken}
use Rattle.calls.proofs.edits.dw_set_parameter.Goals as goal

pub returns-then-is_some : goal.returns-then-is_some
returns-then-is_some c =
    taken-done ((takes_as (ap (set_parameter c.args.tag.now c.args.name.now) c.data_of-v.ensures) c.set_parameter_in.ensures).taken (sym c.is_some.ensures ∙ c.if-is_some.true)) c.tell.ensures

pub returns : goal.returns
returns c =
    not_taken (takes_as (ap (set_parameter c.args.tag.now c.args.name.now) c.data_of-v.ensures) c.set_parameter_in.ensures) (sym c.is_some.ensures ∙ c.if-is_some.false) c.set_parameter.ensures
