-- `nodes::is_whole` meets its contract: `Laws/Wires.antt`. Assumes nothing.
use Rattle.std.proofs.Common.{◌≡◌, true, false, rules}
use Rattle.std.proofs.lemmas.Iterator.{cases_from_all, YieldsList-from_slice}
use borrow.Author.Tests.{tests}
use Rattle.nodes.specs.Nodes.{wires_of, filled_of}
use Rattle.nodes.proofs.Laws.Wires.{whole_tested}
use Rattle.nodes.proofs.is_whole.Goals as goal

pub returns-then-i-lt64 : goal.returns-then-i-lt64
returns-then-i-lt64 c = whole_tested c.args.w.now c.args.i c.if-i-lt64.true c.all.result
    (cases_from_all _ _ _ (λ e. filled_of e ≡ true) (λ e. filled_of e ≡ false) c.all.ensures.ran (YieldsList-from_slice (wires_of c.args.w.now c.args.i) cc) (λ x q k. search (rules, tests)) (λ x q k. search (rules, tests)))
