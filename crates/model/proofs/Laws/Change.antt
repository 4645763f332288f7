-- What is found in a table after a change, taken back to what was found before it. Assumes nothing.
use mathlib.Core.Path.{◌≡◌, refl, sym, ◌∙◌, ap, subst}
use mathlib.Core.Logic.{◌⊎◌, inl, inr, ◌≢◌}
use mathlib.Core.Option.{Option, none, some, map}
use Prim.Native.Nat.{◌≤◌}
use native.Mathlib.Omega.{arith}
use lib.Dec.{T}
use lib.ListN.{length}
use Rattle.tag.specs.Tags.{Tag}
use Rattle.tag.proofs.Laws.Is.{same?}
use Rattle.model.specs.Table.{Table, find, distinct, cut, put, each, moved, move}
use Rattle.model.proofs.Laws.Table.{find-cut-same, find_cut_other, find-put-same, find_put_other, find-each}
use Rattle.model.proofs.Laws.Valid.{Found, some_some, none_some, cut-distinct, put-distinct, length-put, cut_lt}

module _ {A : Type 0} where
  -- a property of the entry put and of the others holds of what is found
  pub put_all : (P : Tag → A → Type 0) (u : Tag) (a : A) (r : Table A) → P u a → ((t : Tag) (b : A) → t ≢ u → find t r ≡ some b → P t b)
      → (t : Tag) (b : A) → find t (put u a r) ≡ some b → P t b
  put_all P u a r p h t b e = go (same? t u)
    where
      go : Dec (t ≡ u) → P t b
      go (yes q) =
          let k : a ≡ b = some_some (sym (find-put-same u a r) ∙ (ap (λ (x : Tag). find x (put u a r)) (sym q) ∙ e)) in
          subst (λ (x : Tag). P x b) (sym q) (subst (P u) k p)
      go (no n) = h t b n (sym (find_put_other t u a r n) ∙ e)

  pub cut-find : (t u : Tag) (r : Table A) {b : A} → find t (cut u r) ≡ some b → (t ≢ u) × (find t r ≡ some b)
  cut-find t u r {b} e = go (same? t u)
    where
      go : Dec (t ≡ u) → (t ≢ u) × (find t r ≡ some b)
      go (yes q) = none_some (sym (find-cut-same u r) ∙ (ap (λ (x : Tag). find x (cut u r)) (sym q) ∙ e))
      go (no n) = (n, sym (find_cut_other t u r n) ∙ e)

  pub found-put : (t u : Tag) (a : A) (r : Table A) → Found t r → Found t (put u a r)
  found-put t u a r f = go (same? t u)
    where
      go : Dec (t ≡ u) → Found t (put u a r)
      go (yes q) = (a, ap (λ (x : Tag). find x (put u a r)) q ∙ find-put-same u a r)
      go (no n) = (f.0, find_put_other t u a r n ∙ f.1)

  pub each-find : (f : A → A) (t : Tag) (r : Table A) {b : A} → find t (each f r) ≡ some b → (a : A) × (find t r ≡ some a) × (f a ≡ b)
  each-find f t r {b} e = go (find t r) refl
    where
      go : (o : Option A) → find t r ≡ o → (a : A) × (find t r ≡ some a) × (f a ≡ b)
      go none q = none_some (sym (find-each f t r ∙ ap (map f) q) ∙ e)
      go (some a) q = (a, q, some_some (sym (find-each f t r ∙ ap (map f) q) ∙ e))

-- ---- what t held is now under u

module _ {A : Type 0} (t u : Tag) (r : Table A) where
  pub move-none : find t r ≡ none → move t u r ≡ r
  unfolding move
  move-none e = subst (λ (o : Option A). moved t u r o ≡ r) (sym e) refl

  pub move_new : {a : A} → find t r ≡ some a → find u (move t u r) ≡ some a
  unfolding move
  move_new {a} e = subst (λ (o : Option A). find u (moved t u r o) ≡ some a) (sym e) (find-put-same u a (cut t r))

  pub move_old : {a : A} → t ≢ u → find t r ≡ some a → find t (move t u r) ≡ none
  unfolding move
  move_old {a} n e = subst (λ (o : Option A). find t (moved t u r o) ≡ none) (sym e) (find_put_other t u a (cut t r) n ∙ find-cut-same t r)

  pub move_other : (s : Tag) → s ≢ t → s ≢ u → find s (move t u r) ≡ find s r
  unfolding move
  move_other s h k = go (find t r)
    where
      go : (o : Option A) → find s (moved t u r o) ≡ find s r
      go none = refl
      go (some a) = find_put_other s u a (cut t r) k ∙ find_cut_other s t r h

  -- what is found after a move was found under the same tag, or under t and is now under u
  pub move-find : {s : Tag} {b : A} → find s (move t u r) ≡ some b → ((s ≡ u) × (find t r ≡ some b)) ⊎ (find s r ≡ some b)
  unfolding move
  move-find {s} {b} e = go (find t r) refl e
    where
      go : (o : Option A) → find t r ≡ o → find s (moved t u r o) ≡ some b → ((s ≡ u) × (find t r ≡ some b)) ⊎ (find s r ≡ some b)
      go none q e = inr e
      go (some a) q e =
          put_all (λ x y. ((x ≡ u) × (find t r ≡ some y)) ⊎ (find x r ≡ some y)) u a (cut t r) (inl (refl, q)) (λ x y n f. inr (cut-find x t r f).1) s b e

  pub move-length : length (move t u r) ≤ length r
  unfolding move
  move-length = go (find t r) refl
    where
      go : (o : Option A) → find t r ≡ o → length (moved t u r o) ≤ length r
      go none e = omega arith
      go (some a) e = omega (arith, length-put u a (cut t r), cut_lt t r (λ q. none_some (sym q ∙ e)))

  pub move-distinct : T (distinct r) → T (distinct (move t u r))
  unfolding move
  move-distinct d = go (find t r)
    where
      go : (o : Option A) → T (distinct (moved t u r o))
      go none = d
      go (some a) = put-distinct u a (cut t r) (cut-distinct t r d)
