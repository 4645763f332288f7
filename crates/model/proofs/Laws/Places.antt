-- The places of a list that 7 lets pass, after a change. Assumes nothing.
use mathlib.Core.Path.{◌≡◌, refl, sym, subst}
use mathlib.Core.Bool.{Bool, true, false, not, ◌&&◌, ◌||◌, cond}
use mathlib.Core.List.{List, [], ◌∷◌, map}
use mathlib.Core.Option
use mathlib.Core.Option.{Option, none, some}
use Prim.Native.Nat.{ℕ, zero, suc}
use lib.Dec.{T, leb, eqb}
use lib.ListN.{length, set, replicate, length-map}
use Rattle.tag.specs.Tags.{Tag, is, overlong}
use Rattle.component.specs.Value.{input_count}
use Rattle.component.specs.Kind.{is_operation}
use Rattle.component.specs.declared.model_component.Component.{Component}
use Rattle.component.proofs.Theorems.Count.{count_few}
use Rattle.model.specs.Table.{all, any}
use Rattle.model.specs.Model.{Place, short_place, good_list, counted}
use Rattle.model.specs.Edit.{swap}
use Rattle.model.proofs.Laws.Bool.{true→T, and_T, and_T₁, and_T₂}

pub false_not : (b : Bool) → b ≡ false → T (not b)
false_not true e = absurd (true→T false (sym e))
false_not false e = tt

pub or_false : (a b : Bool) → a || b ≡ false → (a ≡ false) × (b ≡ false)
or_false true b e = absurd (true→T false (sym e))
or_false false b e = (refl, e)

-- ---- places within their size

pub short-set : (l : List Place) (i : ℕ) (p : Place) → T (short_place p) → T (all short_place l) → T (all short_place (set l i p))
short-set [] i p h k = k
short-set (x ∷ l) zero p h k = and_T (short_place p) (all short_place l) h (and_T₂ (short_place x) (all short_place l) k)
short-set (x ∷ l) (suc i) p h k =
    and_T (short_place x) (all short_place (set l i p)) (and_T₁ (short_place x) (all short_place l) k) (short-set l i p h (and_T₂ (short_place x) (all short_place l) k))

short-swap : (s : Tag) (p x : Place) → T (short_place p) → T (short_place x) → T (short_place (swap s p x))
unfolding swap
short-swap s p none h k = tt
short-swap s p (some t) h k = go (is t s)
  where
    go : (b : Bool) → T (short_place (cond b p (some t)))
    go true = h
    go false = k

pub short-map : (s : Tag) (p : Place) (l : List Place) → T (short_place p) → T (all short_place l) → T (all short_place (map (swap s p) l))
short-map s p [] h k = tt
short-map s p (x ∷ l) h k =
    and_T (short_place (swap s p x)) (all short_place (map (swap s p) l)) (short-swap s p x h (and_T₁ (short_place x) (all short_place l) k))
    (short-map s p l h (and_T₂ (short_place x) (all short_place l) k))

pub short_none : (n : ℕ) → T (all short_place (replicate n none))
short_none zero = tt
short_none (suc n) = short_none n

pub short_some : (ts : List Tag) → any overlong ts ≡ false → T (all short_place (map some ts))
short_some [] h = tt
short_some (t ∷ ts) h = let k = or_false (overlong t) (any overlong ts) h in
    and_T (not (overlong t)) (all short_place (map some ts)) (false_not (overlong t) k.0) (short_some ts k.1)

-- ---- a list of one to three places within their size

module _ (t : Tag) (l : List Place) where
  pub good-list : T (leb 1 (length l)) → T (leb (length l) 3) → T (all short_place l) → T (good_list (t, l))
  good-list a b c = and_T (leb 1 (length l)) (leb (length l) 3 && all short_place l) a (and_T (leb (length l) 3) (all short_place l) b c)

  pub good_one : T (good_list (t, l)) → T (leb 1 (length l))
  good_one p = and_T₁ (leb 1 (length l)) (leb (length l) 3 && all short_place l) p

  pub good_three : T (good_list (t, l)) → T (leb (length l) 3)
  good_three p = and_T₁ (leb (length l) 3) (all short_place l) (and_T₂ (leb 1 (length l)) (leb (length l) 3 && all short_place l) p)

  pub good_short : T (good_list (t, l)) → T (all short_place l)
  good_short p = and_T₂ (leb (length l) 3) (all short_place l) (and_T₂ (leb 1 (length l)) (leb (length l) 3 && all short_place l) p)

-- as many places, each of them short
pub good_resized : (t : Tag) (l k : List Place) → length k ≡ length l → T (good_list (t, l)) → T (all short_place k) → T (good_list (t, k))
good_resized t l k e p s = good-list t k (subst (λ (n : ℕ). T (leb 1 n)) (sym e) (good_one t l p)) (subst (λ (n : ℕ). T (leb n 3)) (sym e) (good_three t l p)) s

-- a list of the operation's count whose places are short
pub good_new : (t : Tag) (c : Component) (l : List Place) → T (is_operation c) → length l ≡ input_count c → T (all short_place l) → T (good_list (t, l))
good_new t c l o e s = good-list t l (subst (λ (n : ℕ). T (leb 1 n)) (sym e) o) (subst (λ (n : ℕ). T (leb n 3)) (sym e) (count_few c)) s

-- ---- a list of a component's count

pub counted-zero : (n : ℕ) (o : Option (List Place)) → n ≡ 0 → T (counted n o)
counted-zero n o e = subst (λ (k : ℕ). T (counted k o)) (sym e) tt

-- what is content with no list is content with any
pub counted-any : (n : ℕ) (o : Option (List Place)) → T (counted n none) → T (counted n o)
counted-any zero o h = tt
counted-any (suc n) o h = absurd h

pub counted_some : (n : ℕ) (l : List Place) → T (eqb (length l) n) → T (counted n (some l))
counted_some zero l h = tt
counted_some (suc n) l h = h

pub counted_resized : (n : ℕ) (l k : List Place) → length k ≡ length l → T (counted n (some l)) → T (counted n (some k))
counted_resized zero l k e h = tt
counted_resized (suc n) l k e h = subst (λ (j : ℕ). T (eqb j (suc n))) (sym e) h

pub counted-map : (n : ℕ) (f : Place → Place) (o : Option (List Place)) → T (counted n o) → T (counted n (Option.map (map f) o))
counted-map zero f o h = tt
counted-map (suc n) f none h = h
counted-map (suc n) f (some l) h = subst (λ (k : ℕ). T (eqb k (suc n))) (sym (length-map l f)) h
