-- `opened` meets its contract. Assumes nothing.
use Rattle.std.proofs.Common.{rules}
use Rattle.opened.proofs.Laws.Said.{leaves, opens}
use Rattle.opened.proofs.opened.Goals as goal

pub returns : goal.returns
returns c = opens _ _ _ _ (leaves _ _ c.decode.result _ c.decode.ensures c.filter.ensures (λ x b k. search rules)) c.plain.ensures c.ok_or.ensures.value
