-- A tag in bytes: it is the string there, no longer than 32, and its key is its own. Assumes nothing.
use Prim.Native.Nat.{ℕ, zero, suc, ◌+◌, ◌-◌, ◌≤◌, ◌<◌}
use native.Mathlib.Omega.{arith}
use native.Mathlib.Decide.{dec_lt}
use mathlib.Core.Path.{◌≡◌, refl, sym, ap, subst, ◌∙◌}
use mathlib.Core.Logic.{◌≢◌}
use mathlib.Core.Bool.{Bool, true, false, ◌&&◌, cond, not}
use mathlib.Core.List.{List}
use mathlib.Core.Option.{Option, none, some, map}
use lib.Dec.{T, leb}
use lib.ListN.{length, get_or, take, drop, length-take, get_or-eq_default}
use lib.Seq.{get_or-take, get_or-drop}
use borrow.Author.Tests.{leb-true, le-ltb}
use Rattle.tag.specs.Tags.{Tag, overlong}
use Rattle.model.specs.Model.{Place, short_place}
use Rattle.model.proofs.Laws.Bool.{true→T}
use Rattle.model.proofs.Laws.Valid.{some_some, none_some}
use Rattle.layout.specs.Words.{four, word, text}
use Rattle.rows.specs.Rows.{blank, text_in, tag_in, place_from, place_in}
use Rattle.rows.proofs.Laws.Tests.{and_left, and_right}
use Rattle.row_reading.proofs.Laws.{blank-zero}
use Rattle.standing.specs.Names.{key_in}

-- what a conditional string shows
pub cond_some : {A : Type 0} (b : Bool) {x y : A} → cond b (some x) none ≡ some y → (b ≡ true) × (x ≡ y)
cond_some true e = (refl, some_some e)
cond_some false e = none_some e

-- the bytes of a string, and 0 past them
module _ (n : ℕ) (s : List ℕ) (a : ℕ) (b : blank s (a + n) (32 - n) ≡ true) where
  byte_same : (i : ℕ) → i < 32 → get_or s (a + i) 0 ≡ get_or (take n (drop a s)) i 0
  byte_same i h = go (dec_lt i n)
    where
      go : Dec (i < n) → get_or s (a + i) 0 ≡ get_or (take n (drop a s)) i 0
      go (yes l) = sym (get_or-take n (drop a s) i 0 l ∙ get_or-drop a s i 0)
      go (no l) =
          let q : a + n + (i - n) ≡ a + i = omega arith in
          ap (λ (k : ℕ). get_or s k 0) (sym q) ∙ blank-zero s (a + n) (32 - n) (i - n) b (omega arith)
          ∙ sym (get_or-eq_default (take n (drop a s)) 0 {n = i} (omega (arith, length-take n (drop a s))))

module _ (s t : List ℕ) (a b : ℕ) where
  four_shift : ((i : ℕ) → i < 4 → get_or s (a + i) 0 ≡ get_or t (b + i) 0) → four s a ≡ four t b
  unfolding four
  four_shift f =
      let z : a + 0 ≡ a = omega arith in
      let y : b + 0 ≡ b = omega arith in
      let e : get_or s a 0 ≡ get_or t b 0 = ap (λ (k : ℕ). get_or s k 0) (sym z) ∙ f 0 (omega arith) ∙ ap (λ (k : ℕ). get_or t k 0) y in
      let p : a + 2 + 1 ≡ a + 3 = omega arith in
      let q : b + 2 + 1 ≡ b + 3 = omega arith in
      let g : get_or s (a + 2 + 1) 0 ≡ get_or t (b + 2 + 1) 0 = ap (λ (k : ℕ). get_or s k 0) p ∙ f 3 (omega arith) ∙ ap (λ (k : ℕ). get_or t k 0) (sym q) in
      rw (e, f 1 (omega arith), f 2 (omega arith), g)

word_shift : (s t : List ℕ) (a b : ℕ) → ((i : ℕ) → i < 8 → get_or s (a + i) 0 ≡ get_or t (b + i) 0) → word s a ≡ word t b
unfolding word
word_shift s t a b f =
    let low : four s a ≡ four t b = four_shift s t a b (λ i h. f i (omega arith)) in
    let high : four s (a + 4) ≡ four t (b + 4) = four_shift s t (a + 4) (b + 4) (λ i h.
    let p : a + 4 + i ≡ a + (4 + i) = omega arith in
    let q : b + 4 + i ≡ b + (4 + i) = omega arith in
    ap (λ (k : ℕ). get_or s k 0) p ∙ f (4 + i) (omega arith) ∙ ap (λ (k : ℕ). get_or t k 0) (sym q)) in
    rw (low, high)

key_shift : (s t : List ℕ) (a b : ℕ) → ((i : ℕ) → i < 32 → get_or s (a + i) 0 ≡ get_or t (b + i) 0) → key_in s a ≡ key_in t b
unfolding key_in
key_shift s t a b f =
    let at : (k : ℕ) → k + 8 ≤ 32 → word s (a + k) ≡ word t (b + k) = λ k l. word_shift s t (a + k) (b + k) (λ i h.
    let p : a + k + i ≡ a + (k + i) = omega arith in
    let q : b + k + i ≡ b + (k + i) = omega arith in
    ap (λ (j : ℕ). get_or s j 0) p ∙ f (k + i) (omega arith) ∙ ap (λ (j : ℕ). get_or t j 0) (sym q)) in
    let low : word s a ≡ word t b = word_shift s t a b (λ i h. f i (omega arith)) in
    rw (low, at 8 (omega arith), at 16 (omega arith), at 24 (omega arith))

-- ---- what stands at a place

pub record Text (n : ℕ) (s : List ℕ) (a : ℕ) (t : Tag) : Type 0 where
  pub is : take n (drop a s) ≡ t
  pub short : T (not (overlong t))
  pub key : key_in s a ≡ key_in t 0

pub text_shows : (n : ℕ) (s : List ℕ) (a : ℕ) {t : Tag} → text_in n s a ≡ some t → Text n s a t
unfolding text_in overlong
text_shows n s a {t} e =
    let c = cond_some (leb n 32 && blank s (a + n) (32 - n)) e in
    let h : n ≤ 32 = leb-true n 32 (and_left (leb n 32) (blank s (a + n) (32 - n)) c.0) in
    let b = and_right (leb n 32) (blank s (a + n) (32 - n)) c.0 in
    record {
      is = c.1;
      short = true→T _ (ap not (le-ltb 32 (length t) (omega (arith, ap length c.1, length-take n (drop a s)))));
      key = key_shift s (take n (drop a s)) a 0 (λ i l. byte_same n s a b i l ∙ ap (λ (k : ℕ). get_or (take n (drop a s)) k 0) (let z : i ≡ 0 + i = omega arith in z)) ∙ ap (λ (u : Tag). key_in u 0) c.1;
    }

-- a tag
pub record Tagged (s : List ℕ) (a : ℕ) (t : Tag) : Type 0 where
  pub is : text s a ≡ t
  pub short : T (not (overlong t))
  pub key : key_in s (a + 8) ≡ key_in t 0

pub tag_shows : (s : List ℕ) (a : ℕ) {t : Tag} → tag_in s a ≡ some t → Tagged s a t
unfolding tag_in text
tag_shows s a e = let x = text_shows (word s a) s (a + 8) e in record { is = x.is; short = x.short; key = x.key }

-- unequal keys, unequal tags
pub tags-apart : {s : List ℕ} {a b : ℕ} {t u : Tag} → Tagged s a t → Tagged s b u → key_in s (a + 8) ≢ key_in s (b + 8) → t ≢ u
tags-apart p q h e = h (p.key ∙ ap (λ (v : Tag). key_in v 0) e ∙ sym q.key)

-- a place
place_from_short : (n : ℕ) (s : List ℕ) (a : ℕ) {q : Place} → place_from n s a ≡ some q → T (short_place q)
unfolding place_from
place_from_short zero s a e = let c = cond_some (blank s a 32) e in subst (λ (q : Place). T (short_place q)) c.1 tt
place_from_short (suc n) s a {q} e = go (text_in n s a) refl e
  where
    go : (o : Option Tag) → text_in n s a ≡ o → map some o ≡ some q → T (short_place q)
    go none p f = none_some f
    go (some t) p f = subst (λ (x : Place). T (short_place x)) (some_some f) (text_shows n s a p).short

pub place_short : (s : List ℕ) (a : ℕ) {q : Place} → place_in s a ≡ some q → T (short_place q)
unfolding place_in
place_short s a e = place_from_short (word s a) s (a + 8) e

place_from_named : (n : ℕ) (s : List ℕ) (a : ℕ) {q : Place} → 0 < n → place_from n s a ≡ some q → q ≡ some (take (n - 1) (drop a s))
unfolding place_from
place_from_named zero s a h e = absurd (let z : ⊥ = omega arith in z)
place_from_named (suc n) s a {q} h e = go (text_in n s a) refl e
  where
    go : (o : Option Tag) → text_in n s a ≡ o → map some o ≡ some q → q ≡ some (take (suc n - 1) (drop a s))
    go none p f = none_some f
    go (some t) p f = sym (some_some f) ∙ ap some (sym (text_shows n s a p).is ∙ ap (λ (k : ℕ). take k (drop a s)) (let z : n ≡ suc n - 1 = omega arith in z))

pub place-named : (s : List ℕ) (a : ℕ) {q : Place} → 0 < word s a → place_in s a ≡ some q → q ≡ some (take (word s a - 1) (drop (a + 8) s))
unfolding place_in
place-named s a h e = place_from_named (word s a) s (a + 8) h e

pub place_unnamed : (s : List ℕ) (a : ℕ) {q : Place} → word s a ≡ 0 → place_in s a ≡ some q → q ≡ none
unfolding place_in place_from
place_unnamed s a {q} z e = sym (cond_some (blank s (a + 8) 32) (sym (ap (λ (n : ℕ). place_from n s (a + 8)) z) ∙ e)).1
