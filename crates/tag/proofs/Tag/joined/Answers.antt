-- `tag::Tag::joined` meets its contract: the bytes stand behind those of the tag, and the others stay 0. Assumes nothing.
use Prim.Native.Nat.{◌^◌, ◌<◌, ◌≤◌}
use mathlib.Core.Path.{◌≡◌}
use mathlib.Core.List.{◌++◌}
use native.Mathlib.Omega.{arith}
use borrow.Author.Rules.{rules}
use borrow.Author.Tests.{lt-ltb}
use lib.ListN.{length, length-append}
use Rattle.tag.specs.Tags.{overlong}
use Rattle.tag.specs.View.{bytes_of}
use Rattle.tag.proofs.Laws.View.{length-short, copied, joined}
use Rattle.tag.proofs.Tag.joined.Goals as goal

pub overflow_add-end : goal.overflow_add-end
overflow_add-end c =
    let few : length c.args.more.now < 2 ^ 63 = search rules in
    let copy = copied c.args.self.now c.tag_of-tag.result _ (search rules) (search rules) c.as_bytes.ensures.same c.tag_of-tag.ensures in
    omega arith

pub returns-then-end-gt32 : goal.returns-then-end-gt32
unfolding overlong
returns-then-end-gt32 c =
    let s = bytes_of c.args.self.now in
    let copy = copied c.args.self.now c.tag_of-tag.result _ (search rules) (search rules) c.as_bytes.ensures.same c.tag_of-tag.ensures in
    lt-ltb 32 (length (s ++ c.args.more.now)) (rw (length-append s c.args.more.now) (omega arith))

pub returns : goal.returns
returns c =
    let s = bytes_of c.args.self.now in
    let more = c.args.more.now in
    let r = c.tag_of-tag.result in
    let size : length r.bytes ≡ 32 = search rules in
    let copy = copied c.args.self.now r _ (search rules) size c.as_bytes.ensures.same c.tag_of-tag.ensures in
    let short : length (s ++ more) ≤ 32 = rw (length-append s more) (omega arith) in
    (length-short (s ++ more) short, joined s more c.copy_from_slice.new.self r size c.copy_from_slice.ensures.after copy.0 (omega arith))
