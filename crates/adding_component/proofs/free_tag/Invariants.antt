-- `adding_component::free_tag` meets its contract. Assumes nothing.
use Prim.Native.Nat.{◌-◌}
use Rattle.tag.specs.View.{bytes_of}
use Rattle.model.specs.View.{components_of}
use Rattle.adding_component.proofs.Laws.Free.{Trying}
use Rattle.adding_component.proofs.free_tag.Given as goal

abbrev pub invariant-loop-k : goal.invariant-loop-k
invariant-loop-k l = Trying (components_of l.m) (bytes_of l.tag) (l.k-end - l.k) l.k
