-- `wired` meets its contract. Assumes nothing.
use mathlib.Core.Path.{refl}
use Rattle.standing.proofs.Laws.Seven.{stands}
use Rattle.standing.proofs.wired.Goals as goal

pub returns : goal.returns
returns c = (
  refl,
  stands (record {
    held = c.holds.ensures c.if-not-holds.false;
    count = c.read-keys.ensures.0;
    lists-count = c.read-lists.ensures.0;
    keys = c.read-keys.ensures.1;
    apart = c.are_apart.ensures c.if-not-are_apart.false;
    list_keys = c.read-lists.ensures.1;
    lists-apart = c.are_apart-else-not-are_apart.ensures c.if-not-are_apart-2.false;
    filled = c.are_filled.ensures c.if-not-are_filled.false;
    default = c.default_stands.ensures c.if-not-default_stands.false;
    wires = c.in_ok-wires.ensures;
  }),
)
