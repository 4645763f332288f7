-- `removing::swapping::place_swapped` meets its contract. Assumes nothing.
use mathlib.Core.Path.{sym, ◌∙◌}
use Rattle.tag.specs.View.{bytes_of}
use Rattle.removing.proofs.Laws.Swapping.{swap_hit, swap_miss, swap-none}
use Rattle.removing.proofs.swapping.place_swapped.Goals as goal

pub returns-in-Some : goal.returns-in-Some
returns-in-Some c = let a = c.args in rw c.in-Some.is (swap_hit (bytes_of a.t) a.by c.in-Some.u (sym (rw c.in-Some.is at c.eq.ensures) ∙ c.if-eq.true))

pub returns-in_default : goal.returns-in_default
returns-in_default c = let a = c.args in rw c.in-Some.is (swap_miss (bytes_of a.t) a.by c.in-Some.u (sym (rw c.in-Some.is at c.eq.ensures) ∙ c.if-eq.false))

pub returns-in_default-2 : goal.returns-in_default-2
returns-in_default-2 c = rw c.in_default.is (swap-none (bytes_of c.args.t) c.args.by)
