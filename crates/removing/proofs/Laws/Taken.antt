-- A row taken off a table, the last one put in its place. Assumes nothing.
use mathlib.Core.Path.{◌≡◌, sym, ◌∙◌, ap, subst}
use mathlib.Core.Bool.{Bool}
use mathlib.Core.List.{List}
use Prim.Native.Nat.{ℕ, suc, ◌-◌, ◌<◌, ◌≤◌}
use native.Mathlib.Omega.{arith}
use lib.Dec.{T}
use lib.ListN.{length, take, get_or, set}
use Rattle.tag.specs.Tags.{Tag}
use Rattle.model.specs.Table.{Table, cut, distinct}
use Rattle.model.specs.View.{rows, every}
use Rattle.held.proofs.Laws.Rows.{rows-length, rows-set, rows_at, rows_less}
use Rattle.held.proofs.Laws.Search.{RowAt}
use Rattle.held.proofs.Laws.Changes.{Becomes, removed}
use Rattle.held.proofs.Laws.Standing.{every_set, every_take}
use Rattle.edit.proofs.Laws.Stored.{Stored, row_fits}

rows_taken : {A C : Type 0} (g : A → C) (table : List A) (n k i : ℕ) (x : A) → i < n → k ≤ n → rows g k (set table i x) ≡ take k (set (rows g n table) i (g x))
rows_taken g table n k i x h l = rows_less g (set table i x) n k l ∙ ap (take k) (rows-set g table n i x h)

module _ {A B : Type 0} (g : A → Tag × B) (ok : A → Bool) (table : List A) (n : ℕ) (t : Tag)
    (once : T (distinct (rows g n table))) (all : T (every (rows ok n table))) where
  pub less_row : (i : ℕ) (d : A) → RowAt g table n i t d → n ≤ length table → Stored g ok (cut t (rows g n table)) (n - 1) (set table i (get_or table (n - 1) d))
  less_row i d at few =
      let k = n - 1 in
      let last = get_or table k d in
      let low = at.below in
      let len : length (rows g n table) ≡ suc k = omega (arith, rows-length g table n) in
      let kn : k < n = omega arith in
      let kl : k < length table = omega arith in
      record {
        becomes = subst (λ (r : Table B). Becomes (cut t (rows g n table)) r)
            (ap (λ (x : Tag × B). take k (set (rows g n table) i x)) (rows_at g table n k d (omega arith)) ∙ sym (rows_taken g table n k i last low (omega arith)))
            (removed (g d) (rows g n table) i k t once at.within (ap (λ (x : Tag × B). x.0) (rows_at g table n i d at.within) ∙ at.tag) len);
        fits = subst (λ (bs : List Bool). T (every bs)) (sym (rows_taken ok table n k i last low (omega arith)))
            (every_take k (set (rows ok n table) i (ok last)) (every_set (rows ok n table) i (ok last) all (row_fits ok table n k d all kn kl)));
      }
