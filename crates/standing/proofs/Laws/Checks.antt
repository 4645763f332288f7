-- What the checks of the bytes, and of a tag's length, show. Assumes nothing.
use Rattle.std.specs.Prelude.{Option, Some, None, Result, Ok, Err, MatchResult, IfSome, min}
use Rattle.std.specs.Result.{result_ok}
use Prim.Native.Nat.{ℕ, zero, suc, ◌<◌}
use native.Mathlib.Omega.{arith}
use mathlib.Core.Path.{◌≡◌, sym, ap, subst, ◌∙◌}
use mathlib.Core.Bool.{true, false}
use mathlib.Core.List.{List}
use mathlib.Core.Option.{some}
use Rattle.tag.specs.declared.Tag.{Tag as Label}
use Rattle.tag.specs.declared.TagTooLong.{TagTooLong}
use Rattle.tag.specs.Tags.{Tag, overlong}
use Rattle.tag.specs.View.{Made}
use Rattle.component.specs.Value.{input_count}
use Rattle.component.specs.declared.model_component.Component.{Component}
use Rattle.layout.specs.Words.{word, text}
use Rattle.finding.specs.Rows.{component_at, list_place_at, component_row, tag_of, RowSought}
use Rattle.standing.specs.declared.Untold.{Untold}
use Rattle.standing.specs.Standing.{Listing, Takes, Passing, RowOfComponent}

-- a list that is told
pub list_told : (s keys : List ℕ) (n k i : ℕ) {o : ℕ} (r : Result (Option ℕ) Untold) → Listing s keys n k i r → ◌≡◌ {A = Option (Option ℕ)} (Some (Some o)) (result_ok r)
    → (o < n) × (text s (list_place_at o) ≡ tag_of s i)
list_told s keys n k i {o} (Ok (Some r)) h e = let q : r ≡ o = cc in subst (λ (x : ℕ). (x < n) × (text s (list_place_at x) ≡ tag_of s i)) q h
list_told s keys n k i (Ok None) h e = cc
list_told s keys n k i (Err u) h e = cc

pub takes : (s : List ℕ) (i : ℕ) {n m : ℕ} {d : Component} → component_row s i ≡ some d → n ≡ input_count d → n ≡ m → Takes s i m
takes s i {d = d} p q e c r = let z : d ≡ c = cc in ap input_count (sym z) ∙ sym q ∙ e

-- a fact of each of three
pub three : (P : ℕ → Type 0) → P 0 → P 1 → P 2 → (p : ℕ) → p < 3 → P p
three P a b c zero h = a
three P a b c (suc zero) h = b
three P a b c (suc (suc zero)) h = c
three P a b c (suc (suc (suc p))) h = absurd (let z : ⊥ = omega arith in z)

-- the tag of bytes that are not too many for one
pub fitted : {t : Tag} {x : Label} (r : Result Label TagTooLong) → MatchResult r (λ y. (overlong t ≡ false) × Made t y) (λ _. overlong t ≡ true) → Some x ≡ result_ok r → (overlong t ≡ false) × Made t x
fitted {t} {x} (Ok y) m e = let q : y ≡ x = cc in subst (λ (z : Label). (overlong t ≡ false) × Made t z) q m
fitted (Err z) m e = cc

-- a row that is found is a component's
pub row_told : {s : List ℕ} {t : Tag} → Passing s → overlong t ≡ false → (r : Option ℕ) → RowSought s component_at (min (word s 8) 64) t r → IfSome r (RowOfComponent s t)
row_told p h (Some r) q = record { passing = p; short = h; row = q }
row_told p h None q = tt
