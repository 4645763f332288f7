-- A table in bytes whose rows change: one of them, all, one more, one fewer. Assumes nothing.
use Prim.Native.Nat.{ℕ, zero, suc, ◌+◌, ◌≤◌, ◌<◌}
use native.Mathlib.Omega.{arith}
use native.Mathlib.Decide.{ℕ_discrete}
use native.Mathlib.Numerals.{add-one}
use mathlib.Core.Path.{◌≡◌, refl, sym, ap, subst, ◌∙◌}
use mathlib.Core.Logic.{◌≢◌}
use mathlib.Core.List.{List, [], ◌∷◌, ◌++◌, map}
use mathlib.Core.Option.{Option, some}
use lib.ListN.{length, get_or, set, take, length-set}
use lib.Seq.{take-suc, take_all, get_or-set_same, get_or-set_other}
use Rattle.tag.specs.Tags.{Tag}
use Rattle.model.specs.Table.{Table, each}
use Rattle.rows.specs.Rows.{append, rows_in}
use Rattle.standing.proofs.Laws.Rows.{Built, no_row, one_row, built_length, built_get_d}

module _ {A : Type 0} {row : ℕ → Option A} where
  pub built_rows : {n : ℕ} {xs : List A} → Built row n xs → rows_in row n ≡ some xs
  unfolding rows_in
  built_rows no_row = refl
  built_rows (one_row {n = n} {xs = xs} b e) = ap (λ (o : Option (List A)). append o (row n)) (built_rows b) ∙ ap (append (some xs)) e

  -- the first n of a list, which stand in the rows
  pub built_take : (d : A) (xs : List A) (n : ℕ) → n ≤ length xs → ((i : ℕ) → i < n → row i ≡ some (get_or xs i d)) → Built row n (take n xs)
  built_take d xs zero h f = no_row
  built_take d xs (suc n) h f =
      subst (Built row (suc n)) (sym (take-suc xs n d h)) (one_row (built_take d xs n (omega arith) (λ i l. f i (omega arith))) (f n (omega arith)))

  pub built_by : (d : A) (xs : List A) {n : ℕ} → length xs ≡ n → ((i : ℕ) → i < n → row i ≡ some (get_or xs i d)) → Built row n xs
  built_by d xs {n} e f = subst (Built row n) (take_all n xs (omega (arith, e))) (built_take d xs n (omega (arith, e)) f)

module _ {A : Type 0} {row row' : ℕ → Option A} where
  pub built_same : {n : ℕ} {xs : List A} → Built row n xs → ((i : ℕ) → i < n → row' i ≡ row i) → Built row' n xs
  built_same no_row f = no_row
  built_same (one_row {n = n} b e) f = one_row (built_same b (λ i h. f i (omega arith))) (f n (omega arith) ∙ e)

  pub built_set : {n : ℕ} {xs : List A} → Built row n xs → (i : ℕ) (x : A) → i < n → row' i ≡ some x → ((j : ℕ) → j < n → j ≢ i → row' j ≡ row j) → Built row' n (set xs i x)
  built_set {n} {xs} b i x h e f = built_by x (set xs i x) (length-set xs i x ∙ built_length b) (λ j l. go j l (ℕ_discrete j i))
    where
      go : (j : ℕ) → j < n → Dec (j ≡ i) → row' j ≡ some (get_or (set xs i x) j x)
      go j l (yes p) = ap row' p ∙ e ∙ ap some (sym (ap (λ (k : ℕ). get_or (set xs i x) k x) p ∙ get_or-set_same xs i x x (omega (arith, built_length b))))
      go j l (no q) = f j l q ∙ built_get_d b x j l ∙ ap some (sym (get_or-set_other xs i j x x q))

  pub built_more : {n : ℕ} {xs : List A} {x : A} → Built row n xs → ((i : ℕ) → i < n → row' i ≡ row i) → row' n ≡ some x → Built row' (n + 1) (xs ++ (x ∷ []))
  built_more {n} {xs} {x} b f e = subst (λ (k : ℕ). Built row' k (xs ++ (x ∷ []))) (sym (add-one n)) (one_row (built_same b f) e)

  pub built_map : (g : A → A) {n : ℕ} {xs : List A} → Built row n xs → ((i : ℕ) (x : A) → i < n → row i ≡ some x → row' i ≡ some (g x)) → Built row' n (map g xs)
  built_map g no_row f = no_row
  built_map g (one_row {n = n} {xs = xs} {x = x} b e) f =
      subst (Built row' (suc n)) (sym (map_last xs)) (one_row (built_map g b (λ i y h. f i y (omega arith))) (f n x (omega arith) e))
    where
      map_last : (ys : List A) → map g (ys ++ (x ∷ [])) ≡ map g ys ++ (g x ∷ [])
      map_last [] = refl
      map_last (y ∷ ys) = ap (◌∷◌ (g y)) (map_last ys)

  -- the last row taken off, after the row at i became what it was
  pub built_fewer : (d : A) {k : ℕ} {xs : List A} → Built row (suc k) xs → (i : ℕ) → ((j : ℕ) → j < k → row' j ≡ some (get_or (set xs i (get_or xs k d)) j d)) → Built row' k (take k (set xs i (get_or xs k d)))
  built_fewer d {k} {xs} b i f = built_take d (set xs i (get_or xs k d)) k (omega (arith, length-set xs i (get_or xs k d), built_length b)) f

pub each_map : {A : Type 0} (f : A → A) (r : Table A) → each f r ≡ map (λ (e : Tag × A). (e.0, f e.1)) r
unfolding each
each_map f [] = refl
each_map f (e ∷ r) = ap (◌∷◌ (e.0, f e.1)) (each_map f r)
