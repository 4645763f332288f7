-- One more entry stored, by a loop. Assumes nothing.
use Prim.Native.Nat.{ℕ, ◌+◌, ◌<◌}
use native.Mathlib.Omega.{arith}
use borrow.Author.Count.{below_more}
use mathlib.Core.Path.{sym, subst}
use mathlib.Core.List.{List}
use lib.ListN.{length, get_or, set}
use lib.Seq.{get_or-set_same, get_or-set_other}

-- a fact of each entry below i, and of the one stored at i
pub each_more : {A : Type 0} (P : ℕ → A → Type 0) (xs : List A) (i : ℕ) (x d : A) → i < length xs → ((j : ℕ) → j < i → P j (get_or xs j d)) → P i x → (j : ℕ) → j < i + 1 → P j (get_or (set xs i x) j d)
each_more P xs i x d h f p = below_more _ _ (λ j l. subst (P j) (sym (get_or-set_other xs i j x d (λ e. let z : ⊥ = omega (arith, e) in z))) (f j l)) (subst (P i) (sym (get_or-set_same xs i x d h)) p)
