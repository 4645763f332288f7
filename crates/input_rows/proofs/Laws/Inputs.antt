-- The inputs given: whether one is too long, whether they are as many as asked for, and the list made of them. Assumes nothing.
use mathlib.Core.Path.{◌≡◌, refl, sym, ◌∙◌, ap}
use mathlib.Core.Bool.{Bool, true, false, ◌||◌, ◌&&◌}
use mathlib.Core.List.{List, [], ◌∷◌, map}
use mathlib.Core.Option.{none, some}
use Prim.Native.Nat.{ℕ, zero, suc, ◌-◌, ◌≤◌, min}
use native.Mathlib.Omega.{arith}
use lib.Dec.{T, leb, eqb}
use lib.ListN.{length, take, replicate, length-map, length-take, length-replicate}
use borrow.Author.Tests.{le-leb, eq-eqb, eqb-true}
use Rattle.tag.specs.declared.Tag.{Tag as Label}
use Rattle.tag.specs.Tags.{Tag, empty, overlong}
use Rattle.tag.specs.View.{tag_fits, Made}
use Rattle.component.specs.Value.{input_count}
use Rattle.component.specs.declared.model_component.Component.{Component}
use Rattle.std.specs.Prelude.{Option as Given, Some, None, IfSome}
use Rattle.std.specs.List.{list_any}
use Rattle.std.proofs.Common.{Bor}
use Rattle.model.specs.Table.{any}
use Rattle.model.specs.Model.{Place}
use Rattle.model.specs.Edit.{looked_at, new_places}
use Rattle.model.specs.View.{PlaceRecord, every, place_of, rows, place_fits, list_fits}
use Rattle.tag.proofs.Laws.View.{made_whole}
use Rattle.model.proofs.Laws.Bool.{true→T, and_T}
use Rattle.model.proofs.Laws.Valid.{unpassed}
use Rattle.input_rows.specs.declared.Inputs.{Inputs}
use Rattle.input_rows.specs.Inputs.{tags_given, tags_of, inputs_of, fitting, named, Short, asked, RowOf}

-- ---- whether one is too long

-- a test of the first n of three lent tags is one of the tags that are looked at
pub any_given : (n : ℕ) (a b d : Bor Tag) → list_any (λ (x : Bor Tag). overlong x.now) (take n (a ∷ b ∷ d ∷ [])) ≡ any overlong (looked_at (some (tags_given n a.now b.now d.now)))
unfolding tags_given
any_given zero a b d = refl
any_given (suc zero) a b d = refl
any_given (suc (suc zero)) a b d = refl
any_given (suc (suc (suc zero))) a b d = refl
any_given (suc (suc (suc (suc k)))) a b d = refl

-- ---- whether they are as many as asked for

-- n tags, three of them named, are n tags
given-length : (n : ℕ) (a b d : Tag) → length (tags_given n a b d) ≡ n
unfolding tags_given
given-length n a b d =
    length-take n (a ∷ b ∷ d ∷ replicate (n - 3) empty) ∙ ap (λ (k : ℕ). min n (suc (suc (suc k)))) (length-replicate (n - 3) empty) ∙ (let z : min n (suc (suc (suc (n - 3)))) ≡ n = omega arith in z)

pub count_is : (o : Given Inputs) (c : Component) → eqb (length (new_places c (inputs_of o))) (input_count c) ≡ fitting o (input_count c)
unfolding inputs_of
count_is None c = ap (λ (k : ℕ). eqb k (input_count c)) (length-replicate (input_count c) none) ∙ eq-eqb (input_count c) (input_count c) refl
count_is (Some i) c = ap (λ (k : ℕ). eqb k (input_count c)) (length-map (tags_of i) some ∙ given-length i.count i.first.now i.second.now i.third.now)

given_few : (k : ℕ) (a b d : Tag) → k ≤ 3 → tags_given k a b d ≡ take k (a ∷ b ∷ d ∷ [])
unfolding tags_given
given_few zero a b d h = refl
given_few (suc zero) a b d h = refl
given_few (suc (suc zero)) a b d h = refl
given_few (suc (suc (suc zero))) a b d h = refl
given_few (suc (suc (suc (suc k)))) a b d h = absurd (let y : ⊥ = omega arith in y)

-- k inputs, where as many are given, are the first k tags
tags-named : (i : Inputs) (k : ℕ) → k ≤ 3 → eqb i.count k ≡ true → tags_of i ≡ named k i
tags-named i k h f =
    ap (λ (n : ℕ). tags_given n i.first.now i.second.now i.third.now) (eqb-true i.count k f) ∙ given_few k i.first.now i.second.now i.third.now h

-- the places asked for are the definition's
pub asked_are : (o : Given Inputs) (c : Component) → input_count c ≤ 3 → fitting o (input_count c) ≡ true → asked o (input_count c) ≡ new_places c (inputs_of o)
unfolding inputs_of
asked_are None c h f = refl
asked_are (Some i) c h f = ap (λ (ts : List Tag). map some ts) (sym (tags-named i (input_count c) h f))

-- none of those that are put into the list is too long
pub asked-short : (o : Given Inputs) (k : ℕ) → any overlong (looked_at (inputs_of o)) ≡ false → fitting o k ≡ true → k ≤ 3 → IfSome o (Short k)
unfolding inputs_of
asked-short None k e f h = tt
asked-short (Some i) k e f h = record {
  few = h;
  short = ap (any overlong) (sym (looked k h) ∙ ap (take 3) (sym (tags-named i k h f))) ∙ e;
}
  where
    looked : (k : ℕ) → k ≤ 3 → take 3 (named k i) ≡ named k i
    looked zero h = refl
    looked (suc zero) h = refl
    looked (suc (suc zero)) h = refl
    looked (suc (suc (suc zero))) h = refl
    looked (suc (suc (suc (suc k)))) h = absurd (let y : ⊥ = omega arith in y)

-- ---- the list

row_fits : (t : Label) (k : ℕ) (ps : List PlaceRecord) → k ≤ 3 → T (every (rows place_fits k ps)) → tag_fits t ≡ true → T (list_fits (record { tag = t; count = k; places = ps }))
unfolding list_fits
row_fits t k ps h o f = unpassed (tag_fits t ∷ leb k 3 ∷ every (rows place_fits k ps) ∷ []) (true→T _ f, (true→T _ (le-leb k 3 h), (o, tt)))

module _ (t : Label) where
  gaps : (k : ℕ) → k ≤ 3 → rows place_of k (None ∷ None ∷ None ∷ []) ≡ replicate k none
  unfolding rows place_of
  gaps zero h = refl
  gaps (suc zero) h = refl
  gaps (suc (suc zero)) h = refl
  gaps (suc (suc (suc zero))) h = refl
  gaps (suc (suc (suc (suc k)))) h = absurd (let y : ⊥ = omega arith in y)

  gaps_fit : (k : ℕ) → k ≤ 3 → T (every (rows place_fits k (None ∷ None ∷ None ∷ [])))
  unfolding rows place_fits
  gaps_fit zero h = tt
  gaps_fit (suc zero) h = tt
  gaps_fit (suc (suc zero)) h = tt
  gaps_fit (suc (suc (suc zero))) h = tt
  gaps_fit (suc (suc (suc (suc k)))) h = absurd (let y : ⊥ = omega arith in y)

  pub unassigned_row : (k : ℕ) → k ≤ 3
      → RowOf t (replicate k none) (record { tag = t; count = k; places = None ∷ None ∷ None ∷ [] })
  unassigned_row k h = record { tag = refl; places = gaps k h; fits = row_fits t k _ h (gaps_fit k h) }

or_left : (a b : Bool) → (a || b) ≡ false → a ≡ false
or_left true b e = e
or_left false b e = refl

or_right : (a b : Bool) → (a || b) ≡ false → b ≡ false
or_right true b e = absurd (true→T false (sym e))
or_right false b e = e

-- a place that names the tag of a slice
module _ (a : Tag) (x : Label) (mx : Made (take 32 a) x) (e : overlong a ≡ false) where
  names : place_of (Some x) ≡ some a
  unfolding place_of
  names = ap some (made_whole a x e mx).labelled.bytes

  names_fit : T (place_fits (Some x))
  unfolding place_fits
  names_fit = true→T _ (made_whole a x e mx).labelled.short

module _ (a b d : Tag) (x y z : Label) (mx : Made (take 32 a) x) (my : Made (take 32 b) y) (mz : Made (take 32 d) z) where
  names_first : (k : ℕ) → k ≤ 3 → any overlong (take k (a ∷ b ∷ d ∷ [])) ≡ false
      → (rows place_of k (Some x ∷ Some y ∷ Some z ∷ []) ≡ map some (take k (a ∷ b ∷ d ∷ [])))
      × T (every (rows place_fits k (Some x ∷ Some y ∷ Some z ∷ [])))
  unfolding rows
  names_first zero h e = (refl, tt)
  names_first (suc zero) h e =
      let p = or_left (overlong a) false e in
      (ap (λ (o : Place). o ∷ []) (names a x mx p), and_T (place_fits (Some x)) true (names_fit a x mx p) tt)
  names_first (suc (suc zero)) h e =
      let p = or_left (overlong a) (overlong b || false) e in
      let q = or_left (overlong b) false (or_right (overlong a) (overlong b || false) e) in (
        rw (names a x mx p, names b y my q),
        and_T (place_fits (Some x)) (place_fits (Some y) && true) (names_fit a x mx p)
            (and_T (place_fits (Some y)) true (names_fit b y my q) tt),
      )
  names_first (suc (suc (suc zero))) h e =
      let p = or_left (overlong a) (overlong b || (overlong d || false)) e in
      let f = or_right (overlong a) (overlong b || (overlong d || false)) e in
      let q = or_left (overlong b) (overlong d || false) f in
      let s = or_left (overlong d) false (or_right (overlong b) (overlong d || false) f) in (
        rw (names a x mx p, names b y my q, names d z mz s),
        and_T (place_fits (Some x)) (place_fits (Some y) && (place_fits (Some z) && true)) (names_fit a x mx p)
            (and_T (place_fits (Some y)) (place_fits (Some z) && true) (names_fit b y my q)
            (and_T (place_fits (Some z)) true (names_fit d z mz s) tt)),
      )
  names_first (suc (suc (suc (suc k)))) h e = absurd (let y : ⊥ = omega arith in y)

  first_row : (t : Label) (k : ℕ) → k ≤ 3 → any overlong (take k (a ∷ b ∷ d ∷ [])) ≡ false
      → RowOf t (map some (take k (a ∷ b ∷ d ∷ []))) (record { tag = t; count = k; places = Some x ∷ Some y ∷ Some z ∷ [] })
  first_row t k h e =
      let n = names_first k h e in
      record { tag = refl; places = n.0; fits = row_fits t k _ h n.1 }

pub given_row : (i : Inputs) (x y z : Label) → Made (take 32 i.first.now) x → Made (take 32 i.second.now) y → Made (take 32 i.third.now) z
    → (t : Label) (k : ℕ) → Short k i → RowOf t (map some (named k i)) (record { tag = t; count = k; places = Some x ∷ Some y ∷ Some z ∷ [] })
given_row i x y z mx my mz t k s = first_row i.first.now i.second.now i.third.now x y z mx my mz t k s.few s.short
