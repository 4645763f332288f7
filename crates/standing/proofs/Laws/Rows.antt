-- The rows of a table in bytes: what is found in it by tag. Assumes nothing.
use Prim.Native.Nat.{ℕ, zero, suc, ◌+◌, ◌<◌}
use native.Mathlib.Omega.{arith}
use native.Mathlib.Nat.{eq-or-lt_of_le, le_of_suc-le-suc}
use native.Mathlib.Numerals.{add-one}
use mathlib.Core.Path.{◌≡◌, refl, sym, ap, subst, ◌∙◌}
use mathlib.Core.Logic.{◌⊎◌, inl, inr, ◌≢◌}
use mathlib.Core.Bool.{Bool, true, false, ◌&&◌, cond}
use mathlib.Core.List.{List, [], ◌∷◌, ◌++◌}
use mathlib.Core.Option.{Option, none, some}
use lib.Dec.{T}
use lib.ListN.{length, get_or, length-append, get_or-append}
use lib.Seq.{get_or-append-add}
use Rattle.tag.specs.Tags.{Tag, is}
use Rattle.tag.proofs.Laws.Is.{is_refl, is_true, is_false}
use Rattle.model.specs.Table.{all, Table, find, distinct}
use Rattle.model.proofs.Laws.Bool.{and_T}
use Rattle.held.proofs.Laws.Changes.{appended}
use Rattle.model.proofs.Laws.Valid.{some_some, none_some}
use Rattle.rows.specs.Rows.{append, rows_in}

-- n rows, each of which holds something
pub data Built {A : Type 0} (row : ℕ → Option A) : ℕ → List A → Type 0 where
  no_row : Built row 0 []
  one_row : {n : ℕ} {xs : List A} {x : A} → Built row n xs → row n ≡ some x → Built row (suc n) (xs ++ (x ∷ []))

module _ {A : Type 0} (row : ℕ → Option A) where
  pub built : (n : ℕ) {xs : List A} → rows_in row n ≡ some xs → Built row n xs
  unfolding rows_in
  built zero e = subst (λ (l : List A). Built row 0 l) (some_some e) no_row
  built (suc n) {xs} e = go (rows_in row n) (row n) refl refl (λ ys q. built n q) e
    where
      go : (o : Option (List A)) (p : Option A) → rows_in row n ≡ o → row n ≡ p → ((ys : List A) → rows_in row n ≡ some ys → Built row n ys) → append o p ≡ some xs → Built row (suc n) xs
      go none p q r ih f = none_some f
      go (some ys) none q r ih f = none_some f
      go (some ys) (some x) q r ih f = subst (λ (l : List A). Built row (suc n) l) (some_some f) (one_row (ih ys q) r)

all-last : {A : Type 0} (p : A → Bool) (xs : List A) (x : A) → T (all p xs) → T (p x) → T (all p (xs ++ (x ∷ [])))
all-last p [] x h k = and_T (p x) true k tt
all-last {A} p (y ∷ xs) x h k = go (p y) (all-last p xs x) h
  where
    go : (b : Bool) → (T (all p xs) → T (p x) → T (all p (xs ++ (x ∷ [])))) → T (b && all p xs) → T (b && all p (xs ++ (x ∷ [])))
    go true ih l = ih l k
    go false ih l = l

-- i is below n, or n
below_or : (i n : ℕ) → i < suc n → (i ≡ n) ⊎ (i < n)
below_or i n h = eq-or-lt_of_le (le_of_suc-le-suc h)

module _ {A : Type 0} {row : ℕ → Option A} where
  pub built_length : {n : ℕ} {xs : List A} → Built row n xs → length xs ≡ n
  built_length no_row = refl
  built_length (one_row {xs = xs} {x = x} b e) = length-append xs (x ∷ []) ∙ (let z : length xs + 1 ≡ _ = add-one (length xs) in z) ∙ ap suc (built_length b)

  pub built_row : {n : ℕ} {xs : List A} → Built row n xs → (i : ℕ) → i < n → (x : A) × (row i ≡ some x)
  built_row no_row i h = absurd (let z : ⊥ = omega arith in z)
  built_row (one_row {n = n} {x = x} b e) i h = go (below_or i n h) (λ l. built_row b i l)
    where
      go : (i ≡ n) ⊎ (i < n) → (i < n → (x : A) × (row i ≡ some x)) → (x : A) × (row i ≡ some x)
      go (inl q) ih = (x, ap row q ∙ e)
      go (inr l) ih = ih l

  pub built_get_d : {n : ℕ} {xs : List A} → Built row n xs → (d : A) (i : ℕ) → i < n → row i ≡ some (get_or xs i d)
  built_get_d no_row d i h = absurd (let z : ⊥ = omega arith in z)
  built_get_d (one_row {n = n} {xs = xs} {x = x} b e) d i h = go (below_or i n h) (λ l. built_get_d b d i l)
    where
      last : get_or (xs ++ (x ∷ [])) n d ≡ x
      last = ap (λ (k : ℕ). get_or (xs ++ (x ∷ [])) k d) (let z : n ≡ length xs + 0 = omega (arith, built_length b) in z) ∙ get_or-append-add xs (x ∷ []) 0 d

      go : (i ≡ n) ⊎ (i < n) → (i < n → row i ≡ some (get_or xs i d)) → row i ≡ some (get_or (xs ++ (x ∷ [])) i d)
      go (inl q) ih = ap row q ∙ e ∙ ap some (sym last ∙ ap (λ (k : ℕ). get_or (xs ++ (x ∷ [])) k d) (sym q))
      go (inr l) ih = ih l ∙ ap some (sym (get_or-append xs (x ∷ []) d i (omega (arith, built_length b))))

  pub built_all : (p : A → Bool) {n : ℕ} {xs : List A} → Built row n xs → ((i : ℕ) (x : A) → row i ≡ some x → T (p x)) → T (all p xs)
  built_all p no_row f = tt
  built_all p (one_row {n = n} {xs = xs} {x = x} b e) f = all-last p xs x (built_all p b f) (f n x e)

-- ---- by tag

module _ {B : Type 0} where
  find-left : (t : Tag) (r : Table B) (x : Tag × B) {a : B} → find t r ≡ some a → find t (r ++ (x ∷ [])) ≡ some a
  unfolding find
  find-left t [] x e = none_some e
  find-left t (y ∷ r) x {a} e = go (is y.0 t) (find-left t r x) e
    where
      go : (b : Bool) → (find t r ≡ some a → find t (r ++ (x ∷ [])) ≡ some a) → cond b (some y.1) (find t r) ≡ some a → cond b (some y.1) (find t (r ++ (x ∷ []))) ≡ some a
      go true ih f = f
      go false ih f = ih f

  find_right : (t : Tag) (r : Table B) (x : Tag × B) → find t r ≡ none → find t (r ++ (x ∷ [])) ≡ cond (is x.0 t) (some x.1) none
  unfolding find
  find_right t [] x e = refl
  find_right t (y ∷ r) x e = go (is y.0 t) (find_right t r x) e
    where
      go : (b : Bool) → (find t r ≡ none → find t (r ++ (x ∷ [])) ≡ cond (is x.0 t) (some x.1) none) → cond b (some y.1) (find t r) ≡ none
          → cond b (some y.1) (find t (r ++ (x ∷ []))) ≡ cond (is x.0 t) (some x.1) none
      go true ih f = none_some (sym f)
      go false ih f = ih f

-- no two of the first n rows have the same tag
pub record RowsApart {B : Type 0} (row : ℕ → Option (Tag × B)) (n : ℕ) : Type 0 where
  pub differ : (j : ℕ) → j < n → (i : ℕ) → i < j → (x y : Tag × B) → row i ≡ some x → row j ≡ some y → x.0 ≢ y.0

fewer : {B : Type 0} {row : ℕ → Option (Tag × B)} {n : ℕ} → RowsApart row (suc n) → RowsApart row n
fewer d = record { differ = λ j h. d.differ j (omega arith) }

module _ {B : Type 0} {row : ℕ → Option (Tag × B)} where
  pub built_none : {n : ℕ} {xs : Table B} → Built row n xs → (t : Tag) → ((i : ℕ) (x : Tag × B) → i < n → row i ≡ some x → x.0 ≢ t) → find t xs ≡ none
  unfolding find
  built_none no_row t f = refl
  built_none (one_row {n = n} {xs = xs} {x = x} b e) t f =
      find_right t xs x (built_none b t (λ i y h q. f i y (omega arith) q)) ∙ ap (λ (c : Bool). cond c (some x.1) none) (is_false x.0 t (f n x (omega arith) e))

  -- what is found stands in a row
  pub built_find : {n : ℕ} {xs : Table B} → Built row n xs → (t : Tag) (a : B) → find t xs ≡ some a → (i : ℕ) × (i < n) × (row i ≡ some (t, a))
  unfolding find
  built_find no_row t a f = none_some f
  built_find (one_row {n = n} {xs = xs} {x = x} b e) t a f = go (find t xs) refl (λ q. built_find b t a q)
    where
      hit : (c : Bool) → is x.0 t ≡ c → cond c (some x.1) none ≡ some a → row n ≡ some (t, a)
      hit true q g = e ∙ ap some (λ i. (is_true x.0 t q i, some_some g i))
      hit false q g = none_some g

      go : (o : Option B) → find t xs ≡ o → (find t xs ≡ some a → (i : ℕ) × (i < n) × (row i ≡ some (t, a))) → (i : ℕ) × (i < suc n) × (row i ≡ some (t, a))
      go none q ih = (n, omega arith, hit (is x.0 t) refl (sym (find_right t xs x q) ∙ f))
      go (some y) q ih =
          let w = ih (q ∙ sym (find-left t xs x q) ∙ f) in
          (w.0, omega (arith, w.1), w.2)

  fresh : {n : ℕ} {xs : Table B} {x : Tag × B} → Built row n xs → row n ≡ some x → RowsApart row (suc n) → find x.0 xs ≡ none
  fresh {n} {xs} {x} b e d = built_none b x.0 (λ i y h q. d.differ n (omega arith) i h y x q e)

  pub built_once : {n : ℕ} {xs : Table B} → Built row n xs → RowsApart row n → T (distinct xs)
  unfolding distinct
  built_once no_row d = tt
  built_once (one_row {n = n} {xs = xs} {x = x} b e) d =
      (appended x.0 x.1 xs (fresh b e d) (built_once b (fewer d))).once

  -- a row is found by its tag
  pub built_at : {n : ℕ} {xs : Table B} → Built row n xs → RowsApart row n → (i : ℕ) (x : Tag × B) → i < n → row i ≡ some x → find x.0 xs ≡ some x.1
  built_at no_row d i y h q = absurd (let z : ⊥ = omega arith in z)
  built_at (one_row {n = n} {xs = xs} {x = x} b e) d i y h q = go (below_or i n h) (λ l. built_at b (fewer d) i y l q)
    where
      go : (i ≡ n) ⊎ (i < n) → (i < n → find y.0 xs ≡ some y.1) → find y.0 (xs ++ (x ∷ [])) ≡ some y.1
      go (inl p) ih =
          let w : y ≡ x = some_some (sym q ∙ ap row p ∙ e) in
          subst (λ (z : Tag × B). find z.0 (xs ++ (x ∷ [])) ≡ some z.1) (sym w)
          (find_right x.0 xs x (fresh b e d) ∙ ap (λ (c : Bool). cond c (some x.1) none) (is_refl x.0))
      go (inr l) ih = find-left y.0 xs x (ih l)
