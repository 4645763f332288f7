-- `tag::Tag::as_bytes` meets its contract. Assumes nothing.
use borrow.Author.Rules.{rules}
use Rattle.tag.proofs.Laws.View.{bytes_of-clamped}
use Rattle.tag.proofs.Tag.as_bytes.Goals as goal

pub returns-clause-same : goal.returns-clause-same
returns-clause-same c = bytes_of-clamped c.args.self.now (search rules) c.min.result c.min.ensures
