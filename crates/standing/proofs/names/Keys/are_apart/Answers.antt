-- `are_apart` meets its contract. Assumes nothing.
use Rattle.std.proofs.Common.{rules, tests, arith, ◌<◌, ◌≤◌, ◌≡◌, ℕ, Bool, false, true, List, nat_eq, length, take, get_or}
use Rattle.std.proofs.lemmas.List.{get_or-take}
use Rattle.std.specs.List.{list_any}
use Rattle.std.proofs.lemmas.List.Folds.{list_any_at}
use mathlib.Core.Logic.{◌≢◌}
use mathlib.Core.Bool.{not, true≢false}
use mathlib.Core.Path.{sym, ◌∙◌}
use Rattle.model_holding.proofs.Laws.{all_below}
use Rattle.standing.proofs.names.Keys.are_apart.Goals as goal

none_before : (xs : List ℕ) (i j x : ℕ) → i < j → j ≤ length xs → list_any (λ y. nat_eq y x) (take j xs) ≡ false → get_or xs i 0 ≢ x
none_before xs i j x l h f e =
    let t : nat_eq (get_or (take j xs) i 0) x ≡ true = grind (arith, tests, get_or-take) in
    let z : ⊥ = true≢false (sym (list_any_at (λ y. nat_eq y x) (take j xs) i 0 (search rules) t) ∙ f) in z

-- what the closure answers of `contains`
not_true : {a b c : Bool} → true ≡ c → c ≡ not b → b ≡ a → a ≡ false
not_true {b = false} p q r = sym r
not_true {b = true} p q r = let z : true ≡ false = p ∙ q in absurd (true≢false z)

pub returns : goal.returns
returns c e j l i h =
    let of = c.args.self.now.of in
    all_below (λ j. (i : ℕ) → i < j → j ≤ length of → get_or of i 0 ≢ get_or of j 0) c.args.self.now.count _ _ _ c.all.ensures.ran
    (λ j q k. (search rules, λ i l f. none_before of i j _ l f (search (rules, not_true)))) e j l i h (search rules)
