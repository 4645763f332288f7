-- What is read of a line, part by part, is its start. Assumes nothing.
use Rattle.std.proofs.Common.{arith, ◌≡◌, ◌≢◌, ◌+◌, ◌-◌, ◌≤◌, ◌↔◌, ◌==◌, ℕ, zero, suc, Bool, true, false, List, [], ◌∷◌, ◌++◌, All, Option, None, Some, IfSome, OnSome, IsTrue, length, take, refl, sym, ap, subst, ◌∙◌, append_assoc, append-nil, length-take, take-append-drop, get_or-take, eqb-true, eq-eqb, true≢false}
use Rattle.std.specs.Prelude.{Contains}
use Rattle.std.specs.List.{position, position_or_len}
use Rattle.std.specs.Io.{StartsWith}
use Rattle.std.specs.Io.KnownBytes.{Consumes, IsAtEnd}
use Rattle.std.specs.Io.BufRead.{first_piece, drop_through, strip_last, DropsThrough}
use Rattle.std.proofs.BufReadLemmas.{take_through-append, drop_through-append}
use Rattle.std.proofs.KnownBytes.{Consumes-trans}
use Rattle.std.proofs.Transfers.{starts_with_of_append}
use Rattle.std.proofs.lemmas.Grind.{common_steps}
use Rattle.std.proofs.lemmas.List.{take_more, length_push, get_or_push}
use Rattle.std.proofs.lemmas.List.Elements.{All-append, All-contains, All-from_get_or, Contains-append_right}
use Rattle.std.proofs.lemmas.List.Sums.{fails_before_first}
use Rattle.std.proofs.lemmas.List.Quantifiers.{position-Some}
use Rattle.recorded.specs.Lines.{feed_of}

-- where a list has its first feed
pub at_feed : (xs : List ℕ) (i : ℕ) → position (λ b. b == 10) xs ≡ Some i → All (λ b. b ≢ 10) (take i xs) × StartsWith xs (take i xs ++ 10 ∷ [])
at_feed xs i e =
    let found = position-Some (λ b. b == 10) xs i 0 e in
    let long = length-take i xs in (
      All-from_get_or (λ b. b ≢ 10) (take i xs) 0 (λ k lt same. true≢false (sym (eq-eqb _ 10 (sym (get_or-take i xs k 0 (omega arith)) ∙ same)) ∙ found.2 k (omega arith))),
      subst (StartsWith xs) (take_more xs i 0 found.0 ∙ ap (λ b. take i xs ++ b ∷ []) (eqb-true _ _ found.1)) (starts_with_of_append xs _ _ (sym (take-append-drop (i + 1) xs))),
    )

-- a list with none
pub no_feed : (xs : List ℕ) → position (λ b. b == 10) xs ≡ None → All (λ b. b ≢ 10) xs
no_feed xs e =
    let all : length xs ≤ position_or_len (λ b. b == 10) xs = grind (arith, common_steps) in
    All-from_get_or (λ b. b ≢ 10) xs 0 (λ k lt same. true≢false (sym (eq-eqb _ 10 same) ∙ fails_before_first (λ b. b == 10) xs k 0 (omega arith)))

-- what still fits behind a start
pub start_more : (most : ℕ) (done part : List ℕ) → take most done ++ take (most - length (take most done)) part ≡ take most (done ++ part)
start_more zero done part = refl
start_more (suc most) [] part =
    let left : suc most - 0 ≡ suc most = omega arith in
    ap (λ k. take k part) left
start_more (suc most) (x ∷ done) part =
    let start = take most done in
    let left : suc most - suc (length start) ≡ most - length start = omega arith in
    ap (λ k. x ∷ (start ++ take k part)) left ∙ ap (λ l. x ∷ l) (start_more most done part)

-- a line less its feed
strip_feed : (bs : List ℕ) → strip_last 10 (bs ++ 10 ∷ []) ≡ bs
strip_feed bs = grind (arith, common_steps, get_or_push, length_push)

-- a line that has none
strip_none : (bs : List ℕ) → All (λ b. b ≢ 10) bs → strip_last 10 bs ≡ bs
strip_none bs h = grind (arith, common_steps)

-- bytes whose first line a feed ends
fed : (xs bs rest : List ℕ) → All (λ b. b ≢ 10) bs → xs ≡ (bs ++ 10 ∷ []) ++ rest → Contains xs 10 × (bs ≡ first_piece 10 xs) × (drop_through 10 xs ≡ rest)
fed xs bs rest h e =
    let split = e ∙ append_assoc bs (10 ∷ []) rest in (
      subst (λ l. Contains l 10) (sym split) (Contains-append_right bs (10 ∷ rest) 10 (0, omega arith, refl)),
      sym (ap (first_piece 10) split ∙ ap (strip_last 10) (take_through-append 10 bs (10 ∷ rest) h) ∙ strip_feed bs),
      ap (drop_through 10) split ∙ drop_through-append 10 bs (10 ∷ rest) h,
    )

-- bytes without a feed
unfed : (xs bs : List ℕ) → All (λ b. b ≢ 10) bs → xs ≡ bs ++ [] → ¬ (Contains xs 10) × (bs ≡ first_piece 10 xs) × (drop_through 10 xs ≡ [])
unfed xs bs h e = (
  λ has. All-contains (λ b. b ≢ 10) bs 10 h (subst (λ l. Contains l 10) (e ∙ append-nil bs) has) refl,
  sym (ap (first_piece 10) e ∙ ap (strip_last 10) (take_through-append 10 bs [] h ∙ append-nil bs) ∙ strip_none bs h),
  ap (drop_through 10) e ∙ drop_through-append 10 bs [] h,
)

-- what was read of a line, once it ended
ended : (a c : Option (List ℕ)) (bs : List ℕ) (f : Bool) → All (λ b. b ≢ 10) bs → Consumes a c (bs ++ feed_of (Some f)) → (f ≡ false → OnSome a (IsAtEnd c))
    → IfSome a (λ xs. IsTrue f ↔ Contains xs 10) × IfSome a (λ xs. bs ≡ first_piece 10 xs) × DropsThrough a c 10
ended None c bs f h p end = (tt, tt, tt)
ended (Some xs) None bs f h p end = absurd p
ended (Some xs) (Some ys) bs true h p end =
    let line = fed xs bs ys h p in
    ((λ _. line.0, λ _. refl), line.1, ap Some (sym line.2))
ended (Some xs) (Some ys) bs false h p end =
    let line = unfed xs bs h (p ∙ append_assoc bs [] ys ∙ ap (λ l. bs ++ l) (end refl)) in
    ((λ no. absurd (true≢false (sym no)), λ has. absurd (line.0 has)), line.1, ap Some (end refl ∙ sym line.2))

-- two reads of a line that goes on
pub goes_on : (a b c : Option (List ℕ)) (done part : List ℕ) (o : Option Bool) → o ≡ None → Consumes a b done → Consumes b c (part ++ feed_of o) → Consumes a c (done ++ part)
goes_on a b c done part o is p q = Consumes-trans a b c done part p (subst (Consumes b c) (ap (λ l. part ++ feed_of l) is ∙ append-nil part) q)

-- the same of what two reads gave, one after the other
pub parts : (a b c : Option (List ℕ)) (done part : List ℕ) (o : Option Bool) (f : Bool) → o ≡ Some f → All (λ b. b ≢ 10) done → All (λ b. b ≢ 10) part
    → Consumes a b done → Consumes b c (part ++ feed_of o) → (o ≡ Some false → OnSome b (IsAtEnd c))
    → IfSome a (λ xs. IsTrue f ↔ Contains xs 10) × IfSome a (λ xs. done ++ part ≡ first_piece 10 xs) × DropsThrough a c 10
parts a b c done part o f is h k p q end =
    let read = subst (λ l. Consumes a c ((done ++ part) ++ feed_of l)) is (subst (Consumes a c) (sym (append_assoc done part (feed_of o))) (Consumes-trans a b c done (part ++ feed_of o) p q)) in
    ended a c (done ++ part) f (All-append (λ b. b ≢ 10) done part h k) read (λ no. known a b p (end (is ∙ ap Some no)))
  where
    known : (a b : Option (List ℕ)) → Consumes a b done → OnSome b (IsAtEnd c) → OnSome a (IsAtEnd c)
    known None b p end = tt
    known (Some x) None p end = absurd p
    known (Some x) (Some y) p end = end
