-- The wires in an array: which nodes stand in the places of one; and members of lists by their places. Assumes nothing.
use Prim.Native.Nat.{ℕ, zero, suc, ◌-◌, ◌≤◌, ◌<◌}
use native.Mathlib.Omega.{arith}
use native.Mathlib.Decide.{ℕ_discrete}
use mathlib.Core.Path.{◌≡◌, refl, sym, ap, subst, ◌∙◌}
use mathlib.Core.Logic.{⊎_elim}
use mathlib.Core.Bool.{Bool, true, false, cond, true≢false, false≢true}
use mathlib.Core.List.Memᴰ
use mathlib.Core.List.{List, [], ◌∷◌, reverse}
use lib.ListN.{length, get_or, take, length-reverse}
use lib.Dec.{ltb}
use borrow.Author.Tests.{ltb-true, lt-ltb, le-ltb}
use denote.Ref.{Bor}
use Rattle.std.specs.Prelude.{Option, Some, None}
use Rattle.std.specs.Bool.{MatchBool}
use Rattle.std.specs.Option.{MatchOption, option_copied}
use Rattle.std.proofs.lemmas.List.{get_or-reverse}
use Rattle.std.proofs.lemmas.Grind.{get_or_default_zero}
use Rattle.std.specs.List.{AllWithin, HoldsAt}
use Rattle.nodes.specs.declared.Wire.{Wire}
use Rattle.nodes.specs.declared.Wire.TheVariants.{To, Absent, Gap, Past}
use Rattle.nodes.specs.Nodes.{◌∈◌, Reaches, target, add, targets, wires_of, inputs_of, wire_to, Next, NotNext, NextIn, filled_of, all_filled, whole_of}
use Rattle.nodes.proofs.Laws.Order.{reach_in}

-- ---- the nodes that wires lead to

pub none_some : {A : Type 0} {x : A} → ◌≡◌ {A = Option A} None (Some x) → ⊥
none_some e = let z : ◌≡◌ {A = ℕ} 0 1 = cc in omega arith

pub some_is : {a b : ℕ} → ◌≡◌ {A = Option ℕ} (Some a) (Some b) → a ≡ b
some_is e = cc

pub target_small : (e : Wire) {x : ℕ} → target e ≡ Some x → x < 192
target_small (To y) {x} h = go (ltb y 192) refl h
  where
    go : (v : Bool) → ltb y 192 ≡ v → cond v (Some y) None ≡ Some x → x < 192
    go true e q = subst (λ (z : ℕ). z < 192) (some_is q) (ltb-true y 192 e)
    go false e q = absurd (none_some q)
target_small Absent h = absurd (none_some h)
target_small Gap h = absurd (none_some h)
target_small Past h = absurd (none_some h)

pub target_to : (x : ℕ) → x < 192 → target (wire_to x) ≡ Some x
target_to x h = simp (lt-ltb x 192 h)

pub to_none : (x : ℕ) → 192 ≤ x → wire_to x ≡ Absent
to_none x h = simp (le-ltb x 192 h)

-- the node of a wire that was made of a number
pub target_of : (x : ℕ) {y : ℕ} → target (wire_to x) ≡ Some y → x ≡ y
target_of x {y} e = go (ltb x 192) refl e
  where
    go : (v : Bool) → ltb x 192 ≡ v → target (cond v (To x) Absent) ≡ Some y → x ≡ y
    go true q f = some_is (sym (target_to_at q) ∙ f)
      where
        target_to_at : ltb x 192 ≡ true → target (To x) ≡ Some x
        target_to_at q = ap (λ (v : Bool). cond v (Some x) None) q
    go false q f = absurd (none_some f)

pub target_is : (P : ℕ → Type 0) (e : Wire) {x : ℕ} → target e ≡ Some x → P x → (y : ℕ) → target e ≡ Some y → P y
target_is P e {x} f p y g = let q : Some x ≡ Some y = sym f ∙ g in subst P (some_is q) p

pub target_none : (P : ℕ → Type 0) (e : Wire) → target e ≡ None → (y : ℕ) → target e ≡ Some y → P y
target_none P e f y g = absurd (none_some (sym f ∙ g))

-- each comes from a wire, and every wire's node is one
pub from_wire : {x : ℕ} (l : List Wire) → x ∈ targets l → (e : Wire) × (e ∈ l) × (target e ≡ Some x)
unfolding targets
from_wire [] m = absurd (Memᴰ.not-nil m)
from_wire {x} (d ∷ l) m = go (from_wire l) (target d) refl m
  where
    go : (x ∈ targets l → (e : Wire) × (e ∈ l) × (target e ≡ Some x)) → (o : Option ℕ) → target d ≡ o → x ∈ add o (targets l) → (e : Wire) × (e ∈ d ∷ l) × (target e ≡ Some x)
    go later (Some y) q k = ⊎_elim (λ f. (d, Memᴰ.head refl, q ∙ ap Some (sym f))) (λ j. let (e, i, p) = later j in (e, Memᴰ.tail i, p)) (Memᴰ.cases_cons k)
    go later None q k = let (e, i, p) = later k in (e, Memᴰ.tail i, p)

pub wire_node : {x : ℕ} (l : List Wire) (e : Wire) → e ∈ l → target e ≡ Some x → x ∈ targets l
unfolding targets
wire_node [] e m q = absurd (Memᴰ.not-nil m)
wire_node {x} (d ∷ l) e m q = ⊎_elim
    (λ f. let r : target d ≡ Some x = ap target (sym f) ∙ q in subst (λ (o : Option ℕ). x ∈ add o (targets l)) (sym r) (Memᴰ.head refl))
    (λ k. later (target d) (wire_node l e k q)) (Memᴰ.cases_cons m)
  where
    later : (o : Option ℕ) → x ∈ targets l → x ∈ add o (targets l)
    later (Some y) k = Memᴰ.tail k
    later None k = k

module _ (w : List (List Wire)) (i : ℕ) where
  pub input_wire : {b : ℕ} → b ∈ inputs_of w i → (e : Wire) × (e ∈ wires_of w i) × (target e ≡ Some b)
  unfolding inputs_of
  input_wire m = from_wire (wires_of w i) m

  pub wire_input : {b : ℕ} (e : Wire) → e ∈ wires_of w i → target e ≡ Some b → b ∈ inputs_of w i
  unfolding inputs_of
  wire_input e m q = wire_node (wires_of w i) e m q

-- ---- the numbers below n

pub up_to : ℕ → List ℕ
up_to zero = []
up_to (suc n) = n ∷ up_to n

pub length_up_to : (n : ℕ) → length (up_to n) ≡ n
unfolding up_to
length_up_to zero = refl
length_up_to (suc n) = ap suc (length_up_to n)

pub mem_up_to : (n a : ℕ) → a < n → a ∈ up_to n
unfolding up_to
mem_up_to zero a h = absurd (let z : ⊥ = omega arith in z)
mem_up_to (suc n) a h = by (mem_up_to n a) (ℕ_discrete a n)
  where
    by : (a < n → a ∈ up_to n) → Dec (a ≡ n) → a ∈ (n ∷ up_to n)
    by again (yes e) = Memᴰ.head e
    by again (no ne) = Memᴰ.tail (again (omega arith))

pub reach-small : (w : List (List Wire)) (t : ℕ) → t < 192 → (a : ℕ) → Reaches (inputs_of w) t a → a < 192
reach-small w t h = reach_in (inputs_of w) (λ (z : ℕ). z < 192) h (λ a b p m. let (e, k, q) = input_wire w a m in target_small e q)

-- an entry among the first n is a member, and every member is one
pub take_at : (l : List ℕ) (n k : ℕ) → k < n → n ≤ length l → get_or l k 0 ∈ take n l
take_at l zero k h f = absurd (let z : ⊥ = omega arith in z)
take_at [] (suc n) k h f = absurd (let z : ⊥ = omega arith in z)
take_at (x ∷ l) (suc n) zero h f = Memᴰ.head refl
take_at (x ∷ l) (suc n) (suc k) h f = Memᴰ.tail (take_at l n k (omega arith) (omega arith))

-- ---- a test of each of a list

module _ {A : Type 0} (d : A) where
  pub place_of : (l : List A) (a : A) → a ∈ l → (k : ℕ) × (k < length l) × (a ≡ get_or l k d)
  place_of [] a m = absurd (Memᴰ.not-nil m)
  place_of (x ∷ l) a m = ⊎_elim (λ e. (0, omega arith, e)) (λ m'. let (k, h, e) = place_of l a m' in (suc k, omega arith, e)) (Memᴰ.cases_cons m)

  pub member_at : (l : List A) (k : ℕ) → k < length l → get_or l k d ∈ l
  member_at [] k h = absurd (let z : ⊥ = omega arith in z)
  member_at (x ∷ l) zero h = Memᴰ.head refl
  member_at (x ∷ l) (suc k) h = Memᴰ.tail (member_at l k (omega arith))

-- what `all` says of a test of each of l
abbrev pub Tested : {A : Type 0} → (Yes No : A → Type 0) → List A → Bool → Type 0
Tested Yes No l r = MatchBool r (AllWithin Yes l 0 (length l)) ((k : ℕ) × (k < length l) × HoldsAt No l k)

module _ {A : Type 0} (d : A) (Yes No : A → Type 0) (l : List A) where
  pub each_passes : (r : Bool) → Tested Yes No l r → r ≡ true → (x : A) → x ∈ l → Yes x
  each_passes true t e x m = let (k, h, f) = place_of d l x m in subst Yes (sym f) (t k d (omega arith) h)
  each_passes false t e x m = absurd (false≢true e)

  pub one_fails : (r : Bool) → Tested Yes No l r → r ≡ false → (x : A) × (x ∈ l) × No x
  one_fails true t e = absurd (true≢false e)
  one_fails false t e = (get_or l t.0 d, member_at d l t.0 t.1, t.2 d)

-- ---- a search from the back

pub reversed_at : (l : List ℕ) (x k : ℕ) → k < length (reverse l) → x ≡ get_or (reverse l) k x → x ∈ l
reversed_at l x k h e = Memᴰ.cast (e ∙ get_or_default_zero (reverse l) k x h ∙ get_or-reverse l k 0 (omega (arith, length-reverse l))) (member_at 0 l (length l - 1 - k) (omega (arith, length-reverse l)))

module _ (w : List (List Wire)) (line xs : List ℕ) where
  pub found_next : (r : Option (Bor ℕ)) → MatchOption r (AllWithin (NotNext w xs) (reverse line) 0 (length (reverse line)))
      (λ x. Next w xs x.now × (i : ℕ) × (i < length (reverse line)) × HoldsAt (λ y. y ≡ x.now) (reverse line) i × AllWithin (NotNext w xs) (reverse line) 0 i)
      → NextIn w line xs (option_copied r)
  found_next None none = λ a m. let (k, h, e) = place_of 0 line a m in
      let f : get_or (reverse line) (length line - 1 - k) 0 ≡ get_or line k 0 = get_or-reverse line (length line - 1 - k) 0 (omega arith) ∙ ap (λ (z : ℕ). get_or line z 0) (omega arith) in
      subst (NotNext w xs) (f ∙ sym e) (none (length line - 1 - k) 0 (omega arith) (omega (arith, length-reverse line)))
  found_next (Some x) (n, i, h, at, before) = (reversed_at line x.now i h (sym (at x.now)), n)

-- ---- whole nodes

pub filled_each : (l : List Wire) → ((e : Wire) → e ∈ l → filled_of e ≡ true) → all_filled l ≡ true
unfolding all_filled
filled_each [] h = refl
filled_each (e ∷ l) h = ap (λ (b : Bool). cond b (all_filled l) false) (h e (Memᴰ.head refl)) ∙ filled_each l (λ d m. h d (Memᴰ.tail m))

pub each_filled : (l : List Wire) → all_filled l ≡ true → (e : Wire) → e ∈ l → filled_of e ≡ true
unfolding all_filled
each_filled [] h e m = absurd (Memᴰ.not-nil m)
each_filled (d ∷ l) h e m = go (each_filled l) (filled_of d) refl h
  where
    go : (all_filled l ≡ true → (e : Wire) → e ∈ l → filled_of e ≡ true) → (b : Bool) → filled_of d ≡ b → cond b (all_filled l) false ≡ true → filled_of e ≡ true
    go later true q k = ⊎_elim (λ f. ap filled_of f ∙ q) (λ j. later k e j) (Memᴰ.cases_cons m)
    go later false q k = absurd (false≢true k)

not_filled : (l : List Wire) (e : Wire) → e ∈ l → filled_of e ≡ false → all_filled l ≡ false
not_filled l e m q = go (all_filled l) refl
  where
    go : (b : Bool) → all_filled l ≡ b → b ≡ false
    go true h = absurd (true≢false (sym (each_filled l h e m) ∙ q))
    go false h = refl

module _ (w : List (List Wire)) (i : ℕ) (h : i < 64) where
  pub whole_tested : (r : Bool) → Tested (λ e. filled_of e ≡ true) (λ e. filled_of e ≡ false) (wires_of w i) r → r ≡ whole_of w i
  whole_tested true t = simp (lt-ltb i 64 h) (sym (filled_each (wires_of w i) (each_passes Past (λ e. filled_of e ≡ true) (λ e. filled_of e ≡ false) (wires_of w i) true t refl)))
  whole_tested false t = let (e, m, q) = one_fails Past (λ e. filled_of e ≡ true) (λ e. filled_of e ≡ false) (wires_of w i) false t refl in simp (lt-ltb i 64 h) (sym (not_filled (wires_of w i) e m q))
