-- Lists in which no tag stands twice: none is longer than a list that holds all its tags. Assumes nothing.
use mathlib.Core.Path.{◌≡◌, refl, sym, ◌∙◌, ap, subst}
use mathlib.Core.Logic.{◌⊎◌, inl, inr, ◌≢◌}
use mathlib.Core.Bool.{Bool, true, false, cond}
use mathlib.Core.List.Memᴰ
use mathlib.Core.List.{List, [], ◌∷◌, ◌++◌, map, Memᴰ}
use mathlib.Core.Option.{none, some}
use Prim.Native.Nat.{suc, ◌≤◌}
use native.Mathlib.Omega.{arith}
use lib.ListN.{length, length-map}
use Rattle.tag.specs.Tags.{Tag, is}
use Rattle.tag.proofs.Laws.Is.{is_true, same?}
use Rattle.model.specs.Table.{Table, find}

-- no tag stands twice
pub data Once : List Tag → Type 0 where
  no_tag : Once []
  one_more : {a : Tag} {l : List Tag} → ¬ Memᴰ a l → Once l → Once (a ∷ l)

pub mem? : (a : Tag) (l : List Tag) → Dec (Memᴰ a l)
mem? a [] = no (λ i. elim i [ ])
mem? a (b ∷ l) = go (same? a b) (mem? a l)
  where
    go : Dec (a ≡ b) → Dec (Memᴰ a l) → Dec (Memᴰ a (b ∷ l))
    go (yes e) d = yes (Memᴰ.head e)
    go (no n) (yes i) = yes (Memᴰ.tail i)
    go (no n) (no k) = no (λ i. ⊎_out (Memᴰ.cases_cons i))
      where
        ⊎_out : (a ≡ b) ⊎ Memᴰ a l → ⊥
        ⊎_out (inl e) = n e
        ⊎_out (inr i) = k i

-- the list without one of its tags
out : {a : Tag} {k : List Tag} → Memᴰ a k → List Tag
out (Memᴰ.head {xs = k} e) = k
out (Memᴰ.tail {x = b} i) = b ∷ out i

out_length : {a : Tag} {k : List Tag} (i : Memᴰ a k) → suc (length (out i)) ≡ length k
unfolding out
out_length (Memᴰ.head e) = refl
out_length (Memᴰ.tail i) = ap suc (out_length i)

out_other : {a b : Tag} {k : List Tag} (i : Memᴰ a k) → Memᴰ b k → b ≢ a → Memᴰ b (out i)
unfolding out
out_other (Memᴰ.head e) (Memᴰ.head f) n = absurd (n (f ∙ sym e))
out_other (Memᴰ.head e) (Memᴰ.tail j) n = j
out_other (Memᴰ.tail i) (Memᴰ.head f) n = Memᴰ.head f
out_other (Memᴰ.tail i) (Memᴰ.tail j) n = Memᴰ.tail (out_other i j n)

-- a list without repetition is no longer than one that holds its tags
pub once_le : {l k : List Tag} → Once l → ((a : Tag) → Memᴰ a l → Memᴰ a k) → length l ≤ length k
once_le no_tag h = omega arith
once_le (one_more {a = a} {l = l} n o) h =
    let i = h a (Memᴰ.head refl) in
    omega (arith, out_length i, once_le o (λ b j. out_other i (h b (Memᴰ.tail j)) (λ e. n (subst (λ (x : Tag). Memᴰ x l) e j))))

pub once_last : {l : List Tag} {a : Tag} → Once l → ¬ Memᴰ a l → Once (l ++ a ∷ [])
once_last {a = a} no_tag n = one_more {a = a} {l = []} (λ i. elim i [ ]) no_tag
once_last {a = a} (one_more {a = b} {l = l} m o) n =
    one_more {a = b} {l = l ++ a ∷ []} (λ i. either (Memᴰ.append_cases l i)) (once_last o (λ i. n (Memᴰ.tail i)))
  where
    either : Memᴰ b l ⊎ Memᴰ b (a ∷ []) → ⊥
    either (inl i) = m i
    either (inr i) = n (Memᴰ.head (sym (Memᴰ.eq_of_singleton i)))

-- ---- the tags of a table

abbrev pub keys : {A : Type 0} → Table A → List Tag
keys r = map (λ e. e.0) r

pub keys_length : {A : Type 0} (r : Table A) → length (keys r) ≡ length r
keys_length r = length-map r (λ e. e.0)

pub find_key : {A : Type 0} (t : Tag) (r : Table A) → ¬ (find t r ≡ none) → Memᴰ t (keys r)
unfolding find
find_key t [] h = absurd (h refl)
find_key t (e ∷ r) h = go (find_key t r) (is e.0 t) refl h
  where
    go : (¬ (find t r ≡ none) → Memᴰ t (keys r)) → (b : Bool) → is e.0 t ≡ b → ¬ (cond b (some e.1) (find t r) ≡ none) → Memᴰ t (e.0 ∷ keys r)
    go ih true q g = Memᴰ.head (sym (is_true e.0 t q))
    go ih false q g = Memᴰ.tail (ih g)
