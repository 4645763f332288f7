-- `row_of` meets its contract. Assumes nothing.
use Rattle.std.proofs.Common.{rules, ◌≡◌}
use Rattle.std.proofs.lemmas.Iterator.{first_from_Range}
use mathlib.Core.Logic.{◌≢◌}
use Rattle.std.specs.Cmp.Lexicographic.{same_text, other_text}
use Rattle.layout.specs.Words.{text}
use Rattle.finding.specs.Rows.{row_at, counted, RowSought}
use Rattle.finding.proofs.Laws.Rows.{row_sought}
use Rattle.finding.proofs.Table.row_of.Goals as goal

pub returns : goal.returns
returns c =
    let s = c.args.s.now in
    let at = row_at c.args.self in
    let sought : RowSought s at (counted c.args.self s) c.args.t.now c.find.result =
    row_sought s at c.args.t.now c.count.ensures c.find.result
    (first_from_Range _ _ _ _ (λ i. text s (at i) ≡ c.args.t.now) (λ i. text s (at i) ≢ c.args.t.now) c.find.ensures.ran
    (λ x q k. same_text _ _ (search rules))
    (λ x q k. (search rules, other_text _ _ (search rules)))) in
    search rules
