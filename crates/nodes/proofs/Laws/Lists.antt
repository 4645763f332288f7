-- Distinct nodes below n, in an array with marks beside it: none, and one more. Assumes nothing.
use Prim.Native.Nat.{ℕ, ◌+◌, ◌-◌, ◌≤◌, ◌<◌}
use native.Mathlib.Numerals.{add-one}
use native.Mathlib.Omega.{arith}
use native.Mathlib.Decide.{ℕ_discrete}
use mathlib.Core.Path.{◌≡◌, refl, sym, ap, subst, ◌∙◌}
use mathlib.Core.Logic.{◌↔◌, ⊎_elim}
use mathlib.Core.Bool.{Bool, true, false, false≢true}
use mathlib.Core.List.Memᴰ
use mathlib.Core.List.{List, [], ◌∷◌, ◌++◌}
use lib.ListN.{length, get_or, take, drop, set, replicate, get_or-replicate, length-replicate, length-append, length-set}
use lib.Seq.{length-take-le, take-suc-set, get_or-set_same, get_or-set_other, drop-append_seam}
use Rattle.std.proofs.lemmas.List.{drop-replicate, drop-drop, drop-set-lt, take-append-drop}
use Rattle.nodes.specs.Nodes.{◌∈◌, Laid, AreDistinct, Listed, GivesBack, Pushed, stayed, joined, marked_with, marks_of, array_of}
use Rattle.nodes.proofs.Laws.Order.{laid_more, laid-length, no_cut}
use Rattle.nodes.proofs.Laws.Wires.{up_to, length_up_to, mem_up_to, member_at}

module _ {n : ℕ} where
  pub distinct_none : AreDistinct n []
  distinct_none = record { small = λ a m. absurd (Memᴰ.not-nil m); once = λ ahead a rest e. absurd (no_cut ahead a rest e) }

  module _ {xs : List ℕ} (d : AreDistinct n xs) where
    laid : Laid (λ (a : ℕ). []) xs
    laid = record { once = d.once; inputs = λ ahead a rest e b k. absurd (Memᴰ.not-nil k) }

    pub distinct_few : length xs ≤ n
    distinct_few = omega (arith, laid-length (λ (a : ℕ). []) xs laid (up_to n) (λ a m. mem_up_to n a (d.small a m)), length_up_to n)

    pub distinct_more : (x : ℕ) → x < n → ¬ (x ∈ xs) → AreDistinct n (xs ++ (x ∷ []))
    distinct_more x h new = record {
      small = λ a m. ⊎_elim (d.small a) (λ j. subst (λ (z : ℕ). z < n) (sym (Memᴰ.eq_of_singleton j)) h) (Memᴰ.append_cases xs m);
      once = (laid_more (λ (a : ℕ). []) laid x new (λ b k. absurd (Memᴰ.not-nil k))).once;
    }

  -- what was pushed joins where it is new
  pub pushed_new : {xs ys : List ℕ} {x : ℕ} → Pushed n xs x ys → x < n → ¬ (x ∈ xs) → ys ≡ xs ++ (x ∷ [])
  pushed_new (stayed old) h new = absurd (⊎_elim (λ k. let z : ⊥ = omega (arith, k, h) in z) new old)
  pushed_new (joined h' new') h new = refl

-- the node at i, as a look-up tells of it
pub record At (n : ℕ) (line : List ℕ) (i x : ℕ) : Type 0 where
  pub within : i < length line
  pub is : x ≡ get_or line i 0
  pub small : x < n
  pub early : i < n

pub node_at : {n : ℕ} {line nodes : List ℕ} {i x : ℕ} → AreDistinct n nodes → nodes ≡ line → (i < length nodes) × ((d : ℕ) → x ≡ get_or nodes i d) → At n line i x
node_at {nodes = nodes} {i} d e (k, f) = rw (← e) (record { within = k; is = f 0; small = rw (f 0) (d.small _ (member_at 0 nodes i k)); early = omega (arith, k, distinct_few d) })

-- one more marked
marks-more : (m : List Bool) (xs : List ℕ) (x : ℕ) → x < length m → (a : ℕ) → (get_or m a false ≡ true) ↔ (a ∈ xs) → Dec (a ≡ x) → (get_or (set m x true) a false ≡ true) ↔ (a ∈ xs ++ (x ∷ []))
marks-more m xs x h a g (yes e) = ((λ one. Memᴰ.append_right xs (Memᴰ.head e)), (λ k. ap (λ (z : ℕ). get_or (set m x true) z false) e ∙ get_or-set_same m x true false h))
marks-more m xs x h a g (no ne) = (
  (λ one. Memᴰ.append_left (x ∷ []) (g.0 (sym (get_or-set_other m x a true false ne) ∙ one))),
  (λ k. get_or-set_other m x a true false ne ∙ ⊎_elim (λ j. g.1 j) (λ j. absurd (ne (Memᴰ.eq_of_singleton j))) (Memᴰ.append_cases xs k)),
)

pub listed_none : (n : ℕ) → Listed n (replicate n 0) 0 (replicate n false)
listed_none n = record {
  at_length = length-replicate {A = ℕ} n 0;
  k_le = omega arith;
  nodes = distinct_none;
  marked = record {
    m_length = length-replicate {A = Bool} n false;
    marks = λ a h. ((λ one. absurd (false≢true (sym (get_or-replicate {A = Bool} n a false false h) ∙ one))), (λ m. absurd (Memᴰ.not-nil m)));
  };
}

module _ {n : ℕ} {at : List ℕ} {k : ℕ} {m : List Bool} (g : Listed n at k m) (x : ℕ) (h : x < n) (new : ¬ (x ∈ take k at)) where
  pub listed_room : k < n
  listed_room = omega (arith, distinct_few (distinct_more g.nodes x h new), length-append (take k at) (x ∷ []), length-take-le k at (omega (arith, g.at_length, g.k_le)))

  pub grown : take (k + 1) (set at k x) ≡ take k at ++ (x ∷ [])
  grown = rw add-one (take-suc-set at k x (omega (arith, listed_room, g.at_length)))

  pub listed_more : Listed n (set at k x) (k + 1) (set m x true)
  listed_more = record {
    at_length = length-set at k x ∙ g.at_length;
    k_le = omega (arith, listed_room);
    nodes = rw grown (distinct_more g.nodes x h new);
    marked = rw grown (record {
      m_length = length-set m x true ∙ g.marked.m_length;
      marks = λ a ha. marks-more m (take k at) x (omega (arith, g.marked.m_length, h)) a (g.marked.marks a ha) (ℕ_discrete a x);
    });
  }

-- the marks that one more gives back
marked_with_more : (m : List Bool) (xs : List ℕ) (x : ℕ) → marked_with m (xs ++ (x ∷ [])) ≡ set (marked_with m xs) x true
unfolding marked_with
marked_with_more m [] x = refl
marked_with_more m (y ∷ xs) x = marked_with_more (set m y true) xs x

-- none, and one more, where the nodes give back what they lie in
pub gives_back_none : (n : ℕ) → GivesBack n (replicate n 0) 0 (replicate n false)
unfolding marked_with
gives_back_none n = record {
  listed = listed_none n;
  count_back = length-take-le {A = ℕ} 0 (replicate n 0) (omega arith);
  array_back = ap (λ (z : ℕ). replicate {A = ℕ} z 0) (omega arith);
  marks_back = refl;
}

module _ {n : ℕ} {at : List ℕ} {k : ℕ} {m : List Bool} (g : GivesBack n at k m) (x : ℕ) (h : x < n) (new : ¬ (x ∈ take k at)) where
  room : k < n
  room = listed_room g.listed x h new

  -- zeros stand behind the nodes, also where one more has joined
  zeros : drop k at ≡ replicate (n - k) 0
  zeros = ap (drop k) (sym g.array_back) ∙ ap (λ (z : ℕ). drop z (array_of n (take k at))) (sym g.count_back) ∙ drop-append_seam (take k at) _ ∙ ap (λ (z : ℕ). replicate (n - z) 0) g.count_back

  zeros_more : drop (k + 1) (set at k x) ≡ replicate (n - (k + 1)) 0
  zeros_more = drop-set-lt (k + 1) at k x (omega arith) ∙ sym (drop-drop 1 k at) ∙ ap (drop 1) zeros ∙ drop-replicate 1 (n - k) 0 ∙ ap (λ (z : ℕ). replicate z 0) (omega arith)

  count_more : length (take (k + 1) (set at k x)) ≡ k + 1
  count_more = length-take-le (k + 1) (set at k x) (omega (arith, room, length-set at k x, g.listed.at_length))

  pub gives_back_more : GivesBack n (set at k x) (k + 1) (set m x true)
  gives_back_more = record {
    listed = listed_more g.listed x h new;
    count_back = count_more;
    array_back = ap (λ (z : List ℕ). take (k + 1) (set at k x) ++ z) (ap (λ (z : ℕ). replicate (n - z) 0) count_more ∙ sym zeros_more) ∙ take-append-drop (k + 1) (set at k x);
    marks_back = ap (marks_of n) (grown g.listed x h new) ∙ marked_with_more (replicate n false) (take k at) x ∙ ap (λ (z : List Bool). set z x true) g.marks_back;
  }
