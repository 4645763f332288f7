-- What is read at a place: bytes that are 0. Assumes nothing.
use Prim.Native.Nat.{ℕ, zero, suc, ◌+◌, ◌-◌, ◌<◌, min}
use mathlib.Core.Path.{◌≡◌, sym, ap, subst, ◌∙◌}
use mathlib.Core.Logic.{◌⊎◌, inl, inr}
use mathlib.Core.Bool.{Bool, true, false, ◌&&◌, true≢false}
use mathlib.Core.List.{List, []}
use native.Mathlib.Nat.{eq-or-lt_of_le, le_of_suc-le-suc}
use native.Mathlib.Decide.{dec_lt, ℕ_discrete}
use native.Mathlib.Omega.{arith}
use denote.Ref.{Bor}
use lib.Dec.{eqb}
use lib.ListN.{length, get_or, take, drop, length-take, length-drop, get_or-eq_default}
use lib.Seq.{get_or-take, get_or-drop}
use borrow.Author.Tests.{ne_eqb}
use Rattle.std.specs.Prelude.{Option, Some, None, unwrap_or}
use Rattle.std.specs.Bool.{MatchBool}
use Rattle.std.specs.List.{AllWithin, HoldsAt}
use Rattle.std.specs.Slice.{IsGetRangeResult}
use Rattle.rows.specs.Rows.{blank}
use Rattle.rows.proofs.Laws.Tests.{and_false}
use Rattle.rows.proofs.Laws.Reading.{zeros_blank}

-- ---- bytes

pub blank_fail : (s : List ℕ) (at i n : ℕ) → i < n → (get_or s (at + i) 0 ≡ 0 → ⊥) → blank s at n ≡ false
unfolding blank
blank_fail s at i zero h q = absurd (omega arith)
blank_fail s at i (suc n) h q = go (eq-or-lt_of_le (le_of_suc-le-suc h)) (λ l. blank_fail s at i n l q)
  where
    go : i ≡ n ⊎ i < n → (i < n → blank s at n ≡ false) → (blank s at n && eqb (get_or s (at + n) 0) 0) ≡ false
    go (inl e) r = and_false (blank s at n) (ap (λ (k : ℕ). eqb (get_or s (at + k) 0) 0) (sym e) ∙ ne_eqb (get_or s (at + i) 0) 0 q)
    go (inr l) r = ap (λ (b : Bool). b && eqb (get_or s (at + n) 0) 0) (r l)

pub blank-zero : (s : List ℕ) (at n i : ℕ) → blank s at n ≡ true → i < n → get_or s (at + i) 0 ≡ 0
blank-zero s at n i b h = go (ℕ_discrete (get_or s (at + i) 0) 0)
  where
    go : Dec (get_or s (at + i) 0 ≡ 0) → get_or s (at + i) 0 ≡ 0
    go (yes e) = e
    go (no z) = absurd (true≢false (sym b ∙ blank_fail s at i n h z))

-- the bytes from a place up to another, as far as they are there
module _ (s : List ℕ) (start end : ℕ) where
  abbrev there : List ℕ
  there = take (min end (length s) - start) (drop start s)

  pub part_is : (r : Option (Bor (List ℕ))) (d : Bor (List ℕ)) → d.now ≡ [] → IsGetRangeResult s start (min end (length s)) r → (unwrap_or r d).now ≡ there
  part_is None d e (h, _) = e ∙ sym (ap (λ (n : ℕ). take n (drop start s)) (none h))
    where
      none : (min end (length s) < start) ⊎ (length s < min end (length s)) → min end (length s) - start ≡ 0
      none (inl l) = omega arith
      none (inr l) = omega arith
  part_is (Some x) d e (h, _) = h.2

  at_byte : (j : ℕ) → j < min end (length s) - start → get_or there j 0 ≡ get_or s (start + j) 0
  at_byte j h = get_or-take (min end (length s) - start) (drop start s) j 0 h ∙ get_or-drop start s j 0

  blank_there : (r : Bool) → MatchBool r (AllWithin (λ x. x ≡ 0) there 0 (length there)) ((k : ℕ) × (k < length there) × HoldsAt (λ x. x ≡ 0 → ⊥) there k) → r ≡ blank s start (end - start)
  blank_there true h = sym (zeros_blank s start (end - start) (λ j l. go j (dec_lt (start + j) (length s)) l))
    where
      go : (j : ℕ) → Dec (start + j < length s) → j < end - start → get_or s (start + j) 0 ≡ 0
      go j (yes b) l = sym (at_byte j (omega arith)) ∙ h j 0 (omega arith) (omega (arith, length-take (min end (length s) - start) (drop start s), length-drop start s))
      go j (no b) l = get_or-eq_default s 0 (omega arith)
  blank_there false (k, l, h) =
      let below : k < min end (length s) - start = omega (arith, length-take (min end (length s) - start) (drop start s)) in
      sym (blank_fail s start k (end - start) (omega arith) (λ z. h 0 (at_byte k below ∙ z)))

  pub blank_found : (bytes : List ℕ) (r : Bool) → bytes ≡ there → MatchBool r (AllWithin (λ x. x ≡ 0) bytes 0 (length bytes)) ((k : ℕ) × (k < length bytes) × HoldsAt (λ x. x ≡ 0 → ⊥) bytes k) → r ≡ blank s start (end - start)
  blank_found bytes r e h =
      blank_there r (subst (λ (l : List ℕ). MatchBool r (AllWithin (λ x. x ≡ 0) l 0 (length l)) ((k : ℕ) × (k < length l) × HoldsAt (λ x. x ≡ 0 → ⊥) l k)) e h)

pub blank_as : (s : List ℕ) (at end n : ℕ) {b : Bool} → b ≡ blank s at (end - at) → end - at ≡ n → blank s at n ≡ b
blank_as s at end n e q = ap (blank s at) (sym q) ∙ sym e
