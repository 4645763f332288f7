-- `naming::parameter` meets its contract. Assumes nothing.
use Rattle.naming.proofs.Entries.{described}
use Rattle.naming.proofs.parameter.Goals as goal

pub returns : goal.returns
returns c =
    let found = c.in_ok-name.ensures.lookup in
    described c.args.c _ c.args.i _ _ c.parameters.ensures found.3.0 found.1 c.tag_of.ensures
