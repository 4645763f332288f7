-- `float::root::placed` meets its contract: `Laws/Even.antt`. Assumes nothing.
use native.Mathlib.Omega.{arith}
use Rattle.float.proofs.Laws.Even.{a_ge, a_le, is_root}
use Rattle.float.proofs.root.placed.Goals as goal

pub digits-r-requires : goal.digits-r-requires
digits-r-requires c =
    let l = a_ge c.args.q c.args.j c.requires.0 c.requires.1 in
    let u = a_le c.args.q c.args.j c.requires.0 c.requires.1 in
    (omega arith, omega arith)

pub returns : goal.returns
returns c = is_root c.args.q c.args.j c.requires.0 c.requires.1 c.digits-r.result c.requires.2 c.digits-r.ensures
