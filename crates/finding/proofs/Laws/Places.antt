-- The tag that is read in a place. Assumes nothing.
use Rattle.std.specs.Prelude.{Option, Some, None, MatchOption}
use Rattle.std.specs.List.{slice_range}
use Prim.Native.Nat.{ℕ, ◌+◌, ◌-◌, ◌≤◌, ◌<◌}
use native.Mathlib.Omega.{arith}
use mathlib.Core.Path.{◌≡◌, refl, ◌∙◌}
use mathlib.Core.Logic.{◌⊎◌, inl, inr, ◌≢◌}
use mathlib.Core.List.{List}
use lib.ListN.{length, take, drop, length-drop}
use lib.Seq.{take_all, drop-drop}
use denote.Bor.{Bor}
use Rattle.layout.specs.Words.{word}
use Rattle.finding.specs.Rows.{Tagged, Untagged}

module _ (s : List ℕ) (at : ℕ) {n : ℕ} {rest : List ℕ} (count : n ≡ word s at) (some : n ≢ 0) (few : n ≤ 33) (is : rest ≡ slice_range s at (length s)) (size : length rest + at ≡ length s) where
  pub place_read : (r : Option (Bor (List ℕ))) → MatchOption r ((7 + n < 8) ⊎ (length rest < 7 + n)) (λ t. (8 ≤ 7 + n) × (7 + n ≤ length rest) × (t.now ≡ slice_range rest 8 (7 + n)) × (length t.now + 8 ≡ 7 + n))
      → MatchOption r (Untagged s at) (λ t. Tagged s at t.now)
  place_read None (inl h) = absurd (let z : ⊥ = omega (arith, some) in z)
  place_read None (inr h) = inr (inr (omega (arith, count, size)))
  place_read (Some t) h = record { assigned = omega (arith, count, some); few = omega (arith, count); is = h.2 ∙ there }
    where
      whole : rest ≡ drop at s
      whole = is ∙ take_all (length s - at) (drop at s) (omega (arith, length-drop at s))

      there : slice_range rest 8 (7 + n) ≡ take (word s at - 1) (drop (at + 8) s)
      there =
          let k : 7 + n - 8 ≡ word s at - 1 = omega (arith, count) in
          rw (k, whole, drop-drop 8 at s) refl
