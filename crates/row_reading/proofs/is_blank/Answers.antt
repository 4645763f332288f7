-- `is_blank` meets its contract. Assumes nothing.
use mathlib.Core.Path.{◌≡◌, refl, ap, subst, ◌∙◌}
use Rattle.std.proofs.Common.{rules}
use Rattle.std.specs.Slice.{IsGetRangeResult}
use Rattle.std.proofs.lemmas.Iterator.{cases_from_all, YieldsList-from_slice}
use Rattle.row_reading.proofs.Laws.{part_is, blank_found}
use Rattle.row_reading.proofs.is_blank.Goals as goal

pub returns : goal.returns
returns c =
    let s = c.args.s.now in
    let start = c.args.start in
    let bytes = c.unwrap_or-there.result.now in
    let part = ap (λ b. b.now) c.unwrap_or-there.ensures ∙ part_is s start c.args.end c.get.result _ refl (subst (λ n. IsGetRangeResult s start n c.get.result) c.min.ensures c.get.ensures.lookup) in
    blank_found s start c.args.end bytes c.all.result part
    (cases_from_all _ _ _ (λ x. x ≡ 0) (λ x. x ≡ 0 → ⊥) c.all.ensures.ran (YieldsList-from_slice bytes cc) (λ x q k. search rules) (λ x q k. search rules))
