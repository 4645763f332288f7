-- `write_text` meets its contract. Assumes nothing.
use native.Mathlib.Omega.{arith}
use mathlib.Core.Path.{refl, ap}
use Prim.Native.Nat.{◌+◌, ◌-◌}
use lib.ListN.{length}
use borrow.Rule.Slice.PartMut.{put_mid}
use Rattle.rows.proofs.Laws.Writing.{copied, text-wrote}
use Rattle.rows.proofs.writing.write_text.Goals as goal

pub returns : goal.returns
returns c =
    let b = c.args.b.now in
    let at = c.args.at in
    text-wrote c.requires.1 (copied c.args.s.now b at (length b) (omega arith) refl (omega arith) (ap (put_mid at (at + length b - at) c.args.s.now) c.copy_from_slice.ensures.after)) c.clear.ensures
