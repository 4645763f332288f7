-- `are_edits` meets its contract. Assumes nothing.
use native.Mathlib.Omega.{arith}
use mathlib.Core.Path.{sym, ap, ◌∙◌}
use Prim.Native.Nat.{◌%◌}
use lib.ListN.{length}
use Rattle.std.proofs.Common.{rules, ◌≡◌}
use Rattle.std.proofs.lemmas.Iterator.{YieldsList-from_slice}
use Rattle.std.proofs.lemmas.Iterator.Search.{all_from_yields_List}
use Rattle.layout.specs.Some.{is_some}
use Rattle.edit_rows.specs.EditRows.{edit_at}
use Rattle.edit_rows.proofs.Laws.{edits_part, edits_whole, rows_tested}
use Rattle.edit_rows.proofs.edit_row.are_edits.Goals as goal

pub returns-in_default : goal.returns-in_default
returns-in_default c = sym (ap is_some (edits_part _ (λ e. omega (arith, c.in_default.len_at_least, c.as_chunks.ensures.back_len, e))))

pub returns : goal.returns
returns c =
    let s = c.args.s.now in
    let whole : length s % 256 ≡ 0 = omega (arith, c.in_default-empty.len_below, c.as_chunks.ensures.back_len) in
    all_from_yields_List (λ r. is_some (edit_at r 0)) _ _ _ c.all.ensures.ran (YieldsList-from_slice c.as_chunks.result.0.now c.iter.ensures.rest) (λ x b q k. search rules)
    ∙ rows_tested c.as_chunks.result.0.now
    ∙ sym (ap is_some (rw c.as_chunks.ensures.front (edits_whole s whole)))
