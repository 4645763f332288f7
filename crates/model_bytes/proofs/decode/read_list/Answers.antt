-- `read_list` meets its contract. Assumes nothing.
use mathlib.Core.Path.{◌∙◌}
use native.Mathlib.Omega.{arith}
use Rattle.model_bytes.proofs.Laws.Reading.{list_no_tag, list-many as lists-many3, list_dirty, list-unread, list_is, places_rest, list_sized}
use Rattle.model_bytes.proofs.decode.read_list.Goals as goal
use Rattle.model_bytes.proofs.decode.read_list.Goals.{then-count-gt3-via-then-count-gt3, then-count-gt3-via-else-count-gt3+then-not-is_blank}

pub returns-in_err-tag : goal.returns-in_err-tag
returns-in_err-tag c = rw c.from_residual.ensures (list_no_tag _ _ c.in_err-tag.ensures)

pub returns-then-count-gt3 : goal.returns-then-count-gt3
returns-then-count-gt3 c = elim c.then-count-gt3.branch [
  | then-count-gt3-via-then-count-gt3 w ↦ lists-many3 _ _ c.read_word-count.ensures w.if-count-gt3.true
  | then-count-gt3-via-else-count-gt3+then-not-is_blank w ↦ list_dirty _ _ c.read_word-count.ensures w.if-count-gt3.false (places_rest c.args.s.now c.args.at c.read_word-count.result w.if-count-gt3.false w.is_blank.ensures ∙ w.if-not-is_blank.true)
]

pub returns-in_err-places : goal.returns-in_err-places
returns-in_err-places c =
    rw c.from_residual-in_err-places.ensures (list-unread _ _ c.read_word-count.ensures (omega arith) (places_rest c.args.s.now c.args.at c.read_word-count.result (omega arith) c.is_blank.ensures ∙ c.if-not-is_blank.false) c.in_err-places.ensures)

pub returns : goal.returns
returns c = (
  list_is _ _ c.read_word-count.ensures (omega arith) (places_rest c.args.s.now c.args.at c.read_word-count.result (omega arith) c.is_blank.ensures ∙ c.if-not-is_blank.false) c.in_ok-tag.ensures.0 c.in_ok-places.ensures.0,
  list_sized _ c.in_ok-tag.ensures.1 (omega arith) c.in_ok-places.ensures.1,
)
