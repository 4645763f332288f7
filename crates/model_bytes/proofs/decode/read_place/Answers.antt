-- `read_place` meets its contract. Assumes nothing.
use Prim.Native.Nat.{◌+◌}
use mathlib.Core.Path.{sym}
use native.Mathlib.Omega.{arith}
use Rattle.row_reading.proofs.Laws.{blank_as}
use Rattle.model_bytes.proofs.Laws.Reading.{place-blank, place-untold, place-text}
use Rattle.model_bytes.proofs.decode.read_place.Goals as goal

pub returns-then-n-eq0 : goal.returns-then-n-eq0
returns-then-n-eq0 c = rw c.then_some.ensures (place-blank c.args.s.now c.args.at c.read_word-n.ensures c.if-n-eq0.true c.is_blank.result (sym (blank_as c.args.s.now (c.args.at + 8) (c.args.at + 40) 32 c.is_blank.ensures (omega arith))))

pub returns-in_err-tag : goal.returns-in_err-tag
returns-in_err-tag c = rw c.from_residual.ensures (place-untold c.args.s.now c.args.at c.read_word-n.ensures c.if-n-eq0.false c.in_err-tag.ensures)

pub returns : goal.returns
returns c = place-text c.args.s.now c.args.at c.read_word-n.ensures c.if-n-eq0.false c.in_ok-tag.tag c.in_ok-tag.ensures
