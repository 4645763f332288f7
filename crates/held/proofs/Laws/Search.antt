-- A search by tag. Assumes nothing.
use mathlib.Core.Path.{◌≡◌, refl, sym, ◌∙◌, ap}
use mathlib.Core.Bool.{Bool, true, false, ◌||◌, cond}
use mathlib.Core.List.{List, [], ◌∷◌, map}
use mathlib.Core.Option.{some}
use Prim.Native.Nat.{ℕ, suc, ◌+◌, ◌-◌, ◌<◌, ◌≤◌, min}
use native.Mathlib.Numerals.{add-one}
use native.Mathlib.Nat.{sub-zero}
use native.Mathlib.Omega.{arith}
use lib.ListN.{take, length, get_or}
use Rattle.std.specs.Prelude.{Option, Some, None, is_some}
use Rattle.std.specs.List.{position as first_position, position_from}
use Rattle.std.proofs.lemmas.Iterator.Adapters.{position_from-zero}
use Rattle.tag.specs.Tags.{Tag, is}
use Rattle.tag.proofs.Laws.Is.{is_true}
use Rattle.model.specs.Table.{Table, find, held}
use Rattle.model.specs.View.{rows}
use Rattle.held.specs.Search.{position, Sought}
use Rattle.held.proofs.Laws.Rows.{rows-length, rows_at, rows-live}

-- a search of rows, each seen through g
position_seen : {A B : Type 0} (g : A → Tag × B) (t : Tag) (k : ℕ) (xs : List A) → position_from (λ x. is (g x).0 t) k xs ≡ position t k (map g xs)
unfolding position
position_seen g t k [] = refl
position_seen g t k (x ∷ xs) = ap (cond (is (g x).0 t) (Some k)) (rw add-one (position_seen g t (suc k) xs))

pub position-held : {A : Type 0} (t : Tag) (k i : ℕ) (r : Table A) → position t k r ≡ Some i → held t r ≡ true
unfolding position held
position-held t k i [] e = absurd (let z : ◌≡◌ {A = ℕ} 0 1 = cc in omega arith)
position-held t k i (x ∷ r) e = go (is x.0 t) (position-held t (suc k) i r) e
  where
    go : (b : Bool) → (position t (suc k) r ≡ Some i → held t r ≡ true) → cond b (Some k) (position t (suc k) r) ≡ Some i → b || held t r ≡ true
    go true h f = refl
    go false h f = h f

pub position-free : {A : Type 0} (t : Tag) (k : ℕ) (r : Table A) → position t k r ≡ None → held t r ≡ false
unfolding position held
position-free t k [] e = refl
position-free t k (x ∷ r) e = go (is x.0 t) (position-free t (suc k) r) e
  where
    go : (b : Bool) → (position t (suc k) r ≡ None → held t r ≡ false) → cond b (Some k) (position t (suc k) r) ≡ None → b || held t r ≡ false
    go true h f = absurd (let z : ◌≡◌ {A = ℕ} 0 1 = cc in omega arith)
    go false h f = h f

-- whether a search found something is whether the tag is held
pub searched : {A : Type 0} {r : Table A} {cap : ℕ} {t : Tag} (f : Option ℕ) → Sought r cap t f → is_some f ≡ held t r
searched {r = r} {t = t} (Some i) p = sym (position-held t 0 i r (sym p.at))
searched {r = r} {t = t} None p = sym (position-free t 0 r (sym p.at))

-- what is found at a position: within the table, the row there has the tag, and its entry is the one looked up
pub record Stands {A : Type 0} (t : Tag) (k i : ℕ) (d : Tag × A) (r : Table A) : Type 0 where
  pub from : k ≤ i
  pub within : i < k + length r
  pub tag : (get_or r (i - k) d).0 ≡ t
  pub entry : find t r ≡ some (get_or r (i - k) d).1

pub stands : {A : Type 0} (t : Tag) (k i : ℕ) (d : Tag × A) (r : Table A) → position t k r ≡ Some i → Stands t k i d r
unfolding position find
stands t k i d [] e = absurd (let z : ◌≡◌ {A = ℕ} 0 1 = cc in omega arith)
stands {A} t k i d (x ∷ r) e =
    let w = go (is x.0 t) refl (stands t (suc k) i d r) e in
    record { from = w.0; within = w.1; tag = w.2; entry = w.3 }
  where
    go :
        (b : Bool) → is x.0 t ≡ b → (position t (suc k) r ≡ Some i → Stands t (suc k) i d r) → cond b (Some k) (position t (suc k) r) ≡ Some i →
        (k ≤ i) × (i < k + suc (length r)) × ((get_or (x ∷ r) (i - k) d).0 ≡ t) × (cond b (some x.1) (find t r) ≡ some (get_or (x ∷ r) (i - k) d).1)
    go true s h f =
        let q : k ≡ i = cc in
        let z : i - k ≡ 0 = omega arith in
        (omega arith, omega arith, rw z (is_true x.0 t s), rw z)
    go false s h f =
        let w = h f in
        let z : i - k ≡ suc (i - suc k) = omega arith in
        (omega arith, omega arith, rw z w.tag, rw z w.entry)

-- the same with the table's head at 0
pub record Row {A : Type 0} (t : Tag) (i : ℕ) (d : Tag × A) (r : Table A) : Type 0 where
  pub within : i < length r
  pub tag : (get_or r i d).0 ≡ t
  pub entry : find t r ≡ some (get_or r i d).1

pub row : {A : Type 0} {t : Tag} {i : ℕ} (d : Tag × A) (r : Table A) → position t 0 r ≡ Some i → Row t i d r
row {t = t} {i = i} d r e =
    let s = stands t 0 i d r e in
    record { within = omega (arith, s.within); tag = rw sub-zero at s.tag; entry = rw sub-zero at s.entry }

pub position-within : {A : Type 0} (t : Tag) (k i : ℕ) (r : Table A) → position t k r ≡ Some i → i < k + length r
unfolding position
position-within t k i [] e = absurd (let z : ◌≡◌ {A = ℕ} 0 1 = cc in omega arith)
position-within t k i (x ∷ r) e = go (is x.0 t) (position-within t (suc k) i r) e
  where
    go : (b : Bool) → (position t (suc k) r ≡ Some i → i < suc k + length r) → cond b (Some k) (position t (suc k) r) ≡ Some i → i < k + suc (length r)
    go true h f = let q : k ≡ i = cc in omega arith
    go false h f = omega (arith, h f)

-- a search of a slice of the live rows
pub sought : {A B : Type 0} (g : A → Tag × B) (table : List A) (n cap : ℕ) (t : Tag) {xs : List A} {f : Option ℕ} → xs ≡ take n table → length xs ≡ min n cap → f ≡ first_position (λ x. is (g x).0 t) xs → Sought (rows g n table) cap t f
unfolding rows
sought g table n cap t {xs} e b q =
    let at = q ∙ (position_from-zero (λ x. is (g x).0 t) xs ∙ (position_seen g t 0 xs ∙ ap (position t 0) (ap (map g) e))) in
    record {
      at = at;
      within = λ i h. omega (arith, position-within t 0 i (rows g n table) (sym at ∙ h), (rows-live g table n cap e b).live);
    }

-- the live row that a search found: it stands within, has the tag, and holds what is looked up
pub record RowAt {A B : Type 0} (g : A → Tag × B) (table : List A) (n i : ℕ) (t : Tag) (d : A) : Type 0 where
  pub within : i < length (rows g n table)
  pub below : i < n
  pub tag : (g (get_or table i d)).0 ≡ t
  pub entry : find t (rows g n table) ≡ some (g (get_or table i d)).1

pub row_at : {A B : Type 0} (g : A → Tag × B) (table : List A) (n i : ℕ) {t : Tag} (d : A) → position t 0 (rows g n table) ≡ Some i → RowAt g table n i t d
row_at {B = B} g table n i {t = t} d e =
    let w = row (g d) (rows g n table) e in
    let q = rows_at g table n i d w.within in
    record {
      within = w.within;
      below = omega (arith, w.within, rows-length g table n);
      tag = ap (λ (x : Tag × B). x.0) (sym q) ∙ w.tag;
      entry = w.entry ∙ ap (λ (x : Tag × B). some x.1) q;
    }
