-- `set_parameter_in` meets its contract. Assumes nothing.
use native.Mathlib.Omega.{arith}
use mathlib.Core.Path.{sym}
use Rattle.direct_rows.proofs.Laws.Took.{takes_yes}
use Rattle.direct_setting.proofs.Laws.Setting.{changed, parameter_set}
use Rattle.direct_setting.proofs.set_parameter_in.Goals as goal

pub returns : goal.returns
returns c =
    let a = c.args in
    takes_yes (parameter_set a.tag.now a.name.now a.«data» c.in_ok-i.i c.in_ok-i.ensures c.in_ok-c.c c.in_ok-changed.changed (sym (c.in_ok-c.ensures (omega (arith, c.in_ok-i.ensures.row.found.0)))) (changed c.set_parameter.result c.set_parameter.ensures c.in_ok-changed.ensures.value) c.write_component.ensures)
