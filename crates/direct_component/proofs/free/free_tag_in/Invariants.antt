-- `direct_component::free::free_tag_in` meets its contract. Assumes nothing.
use Rattle.tag.specs.View.{bytes_of}
use Rattle.direct_component.proofs.Laws.Free.{TryingIn, left}
use Rattle.direct_component.proofs.free.free_tag_in.Given as goal

abbrev pub invariant-loop-k : goal.invariant-loop-k
invariant-loop-k l = TryingIn l.s (bytes_of l.t) (left l.s l.k) l.k
