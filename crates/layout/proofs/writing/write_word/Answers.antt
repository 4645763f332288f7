-- `write_word` meets its contract: `Put.antt`. Assumes nothing.
use Rattle.std.proofs.Common.{◌+◌, ◌-◌, sym, ap, ◌∙◌}
use borrow.Author.Tests.{leb-true, leb-false}
use borrow.Rule.Slice.PartMut.{put_mid}
use Rattle.layout.specs.Writing.{bytes8}
use Rattle.layout.proofs.Put.{word-short, word-put, put_part, le_bytes8, length-bytes8}
use Rattle.layout.proofs.writing.write_word.Goals as goal

pub returns-then-has_room : goal.returns-then-has_room
returns-then-has_room c =
    let s = c.args.s.now in
    let at = c.args.at in
    ap (put_mid at (at + 8 - at) s) (c.copy_from_slice.ensures.after ∙ c.to_le_bytes.ensures ∙ le_bytes8 c.args.x) ∙ put_part s at (bytes8 c.args.x) (length-bytes8 c.args.x) ∙ word-put _ _ _ (leb-true _ _ (sym c.has_room.ensures ∙ c.if-has_room.true))

pub returns-else-has_room : goal.returns-else-has_room
returns-else-has_room c = word-short _ _ _ (leb-false _ _ (sym c.has_room.ensures ∙ c.if-has_room.false))
