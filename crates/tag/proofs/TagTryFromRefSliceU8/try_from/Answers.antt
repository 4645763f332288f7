-- `tag::Tag::try_from` meets its contract. Assumes nothing.
use Rattle.std.proofs.Common.{length}
use borrow.Author.Tests.{lt-ltb}
use Rattle.tag.specs.Tags.{overlong}
use Rattle.tag.proofs.Laws.View.{length-short, made_whole}
use Rattle.tag.proofs.TagTryFromRefSliceU8.try_from.Goals as goal

pub returns-then-t-gt32 : goal.returns-then-t-gt32
unfolding overlong
returns-then-t-gt32 c = lt-ltb 32 (length c.args.t.now) c.if-t-gt32.true

pub returns : goal.returns
returns c =
    let short = length-short c.args.t.now c.if-t-gt32.false in
    (short, made_whole _ _ short c.tag_of.ensures)
