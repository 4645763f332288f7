-- What spells a number is read as one. Assumes nothing.
use Rattle.std.proofs.Common.{rules, ◌≡◌, ℕ, Bool, true, false, Some, None, refl, ap, ◌∙◌}
use Rattle.std.specs.Prelude.{Option}
use Rattle.std.specs.Bool.{then_some}
use Rattle.std.specs.Option.{MatchOption}
use Rattle.std.specs.Result.{result_ok}
use Rattle.std.proofs.lemmas.Option.{none-some}
use Rattle.recorded.specs.Number.{spells}
use Rattle.recorded.proofs.Spelled.{read}
use Rattle.recorded.proofs.number.Goals as goal

-- what is kept of a value that is there wherever the test holds
module _ (r : Option ℕ) {P : ℕ → Bool → Type 0} where
  found : (o : Option ℕ) (s : Bool) (n : ℕ) → (s ≡ true → o ≡ Some n) → ((x : ℕ) (b : Bool) → P x b → b ≡ s)
      → MatchOption o (r ≡ None) (λ x. (b : Bool) × P x b × (r ≡ then_some b x)) → MatchOption r (s ≡ false) (λ _. s ≡ true)
  found None true n h is k = absurd (none-some n (h refl))
  found None false n h is k = rw k refl
  found (Some x) true n h is (b, p, k) = rw (k, is x b p) refl
  found (Some x) false n h is (b, p, k) = rw (k, is x b p) refl

pub returns-clause-found : goal.returns-clause-found
returns-clause-found c =
    found c.filter.result c.ok.result (spells c.args.word.now) _
    (λ spelled. c.ok.ensures.value ∙ ap result_ok (read c.args.word.now c.from_str_radix.result spelled c.from_str_radix.ensures.value))
    (λ x b p. search rules) c.filter.ensures
