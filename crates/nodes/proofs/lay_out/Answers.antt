-- `nodes::lay_out` meets its contract. Assumes nothing.
use Rattle.std.proofs.Common.{◌≡◌, ℕ, true, false, subst, rules}
use Rattle.std.proofs.lemmas.Iterator.{cases_from_all, YieldsList-from_slice}
use borrow.Author.Tests.{tests}
use Rattle.nodes.specs.Nodes.{whole_of}
use Rattle.nodes.proofs.Laws.Wires.{Tested, each_passes}
use Rattle.nodes.proofs.lay_out.Goals as goal

module _ (c : goal.After-all-whole) where
  abbrev IsWhole : ℕ → Type 0
  IsWhole x = whole_of c.args.w.now x ≡ true

  abbrev NotWhole : ℕ → Type 0
  NotWhole x = whole_of c.args.w.now x ≡ false

  tested : Tested IsWhole NotWhole c.reach-reach.result c.all-whole.result
  tested = subst (λ l. Tested IsWhole NotWhole l c.all-whole.result) c.nodes.ensures.same (cases_from_all _ _ _ IsWhole NotWhole c.all-whole.ensures.ran (YieldsList-from_slice c.nodes.result.now cc) (λ x q k. search (rules, tests)) (λ x q k. search (rules, tests)))

pub returns : goal.returns
returns c = λ h. record { reached = c.reach-reach.ensures; laid = c.lay-order.ensures; test = each_passes 0 (IsWhole c) (NotWhole c) c.reach-reach.result c.all-whole.result (tested c) }
