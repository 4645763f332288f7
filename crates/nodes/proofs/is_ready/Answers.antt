-- `nodes::is_ready` meets its contract: `Laws/Wires.antt`. Assumes nothing.
use Rattle.std.proofs.Common.{ℕ, ◌≡◌, Some, rules}
use Rattle.std.proofs.lemmas.Iterator.{cases_from_all, YieldsList-from_slice}
use borrow.Author.Tests.{tests}
use Rattle.nodes.specs.declared.Wire.{Wire}
use Rattle.nodes.specs.declared.Wire.TheVariants.{Past}
use Rattle.nodes.specs.Nodes.{◌∈◌, target, wires_of}
use Rattle.nodes.proofs.Laws.Wires.{Tested, each_passes, one_fails, input_wire, wire_input}
use Rattle.nodes.proofs.is_ready.Goals as goal

module _ (c : goal.After-all) where
  abbrev Served : Wire → Type 0
  Served e = (x : ℕ) → target e ≡ Some x → x ∈ c.args.placed.now

  abbrev NotServed : Wire → Type 0
  NotServed e = (x : ℕ) × (target e ≡ Some x) × (¬ (x ∈ c.args.placed.now))

  tested : Tested Served NotServed (wires_of c.args.w.now c.args.i) c.all.result
  tested = cases_from_all _ _ _ Served NotServed c.all.ensures.ran (YieldsList-from_slice (wires_of c.args.w.now c.args.i) cc) (λ x q k. search (rules, tests)) (λ x q k. search (rules, tests))

pub returns-clause-yes : goal.returns-clause-yes
returns-clause-yes c = λ e b m. let (d, k, q) = input_wire c.args.w.now c.args.i m in each_passes Past (Served c) (NotServed c) (wires_of c.args.w.now c.args.i) c.all.result (tested c) e d k b q

pub returns-clause-no : goal.returns-clause-no
returns-clause-no c = λ e. let (d, k, missing) = one_fails Past (Served c) (NotServed c) (wires_of c.args.w.now c.args.i) c.all.result (tested c) e in (missing.0, wire_input c.args.w.now c.args.i d k missing.1, missing.2)
