-- `is_alone` meets its contract: `Laws/Behind.antt`. Assumes nothing.
use mathlib.Core.Path.{◌∙◌, ap}
use lib.ListN.{length-drop}
use lib.Seq.{take_all}
use Rattle.std.proofs.Common.{rules}
use Rattle.std.specs.List.{position}
use Rattle.tag.specs.Tags.{is}
use Rattle.tag.specs.View.{bytes_of}
use Rattle.distinct_tags.proofs.Laws.Behind.{alone_is}
use Rattle.distinct_tags.proofs.is_alone.Goals as goal

pub returns : goal.returns
returns g c = alone_is g.R.Tagged.tag_bytes c.args.table.now c.args.i c.args.row.now {t = bytes_of c.tag.result.now} c.tag.ensures c.is_none.ensures (c.position_of.ensures ∙ ap (λ xs. position (λ y. is (g.R.Tagged.tag_bytes y) (bytes_of c.tag.result.now)) xs) (search (rules, length-drop, take_all)))
