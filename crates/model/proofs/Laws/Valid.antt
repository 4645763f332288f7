-- What 7 asks of a model, by lookups: `Good`. What is found in a table, that no tag stands twice in it, and how long it is. Assumes nothing.
use mathlib.Core.Path.{◌≡◌, refl, sym, ◌∙◌, ap, subst}
use mathlib.Core.Logic.{◌≢◌}
use mathlib.Core.Bool.{Bool, true, false, not, ◌&&◌, cond}
use mathlib.Core.List.{List, [], ◌∷◌}
use mathlib.Core.Option.{Option, none, some, map}
use Prim.Native.Nat.{ℕ, suc, ◌≤◌, ◌<◌}
use native.Mathlib.Omega.{arith}
use native.Mathlib.Nat.{le_antisymm}
use lib.Dec.{T, leb→le, le→leb}
use lib.ListN.{length}
use Rattle.tag.specs.Tags.{Tag, is, overlong}
use Rattle.tag.proofs.Laws.Is.{is_refl, is_true, is_false}
use Rattle.component.specs.Value.{input_count}
use Rattle.component.specs.declared.model_component.Component.{Component}
use Rattle.model.specs.Table.{all, Table, find, held, distinct, cut, put, each}
use Rattle.model.specs.Model.{Place, Model, component, list, Same, short_tag, good_list, counted, listed, named, tests, valid}
use Rattle.model.proofs.Laws.Bool.{T→true, true→T, and_T, and_T₁, and_T₂}
use Rattle.model.proofs.Laws.Table.{find-cut-same, find_cut_other, find-put-same, held-false, held-true, find-each}

-- ---- what is found

abbrev pub Found : {A : Type 0} → Tag → Table A → Type 0
Found {A} t r = (a : A) × (find t r ≡ some a)

pub some_some : {A : Type 0} {a b : A} → ◌≡◌ {A = Option A} (some a) (some b) → a ≡ b
some_some e = cc

pub none_some : {A : Type 0} {X : Type 0} {a : A} → ◌≡◌ {A = Option A} none (some a) → X
none_some e = let z : ◌≡◌ {A = ℕ} 0 1 = cc in absurd (omega arith)

module _ {A : Type 0} where
  pub find_head : (e : Tag × A) (r : Table A) → find e.0 (e ∷ r) ≡ some e.1
  unfolding find
  find_head e r = rw (is_refl e.0) refl

  pub find-tail : (e : Tag × A) (r : Table A) (t : Tag) → t ≢ e.0 → find t (e ∷ r) ≡ find t r
  unfolding find
  find-tail e r t h = rw (is_false e.0 t (λ p. h (sym p))) refl

  pub found-held : (t : Tag) (r : Table A) → Found t r → T (held t r)
  found-held t r f = go (held t r) refl
    where
      go : (b : Bool) → held t r ≡ b → T b
      go true e = tt
      go false e = none_some (sym (held-false t r e) ∙ f.1)

  pub held-put : (t : Tag) (a : A) (r : Table A) → T (held t (put t a r))
  held-put t a r = found-held t (put t a r) (a, find-put-same t a r)

  -- a test of every entry holds of the one that is found
  pub all-find : (p : Tag × A → Bool) (r : Table A) (t : Tag) {a : A} → T (all p r) → find t r ≡ some a → T (p (t, a))
  unfolding find
  all-find p [] t h e = none_some e
  all-find p (x ∷ r) t {a} h e = go (all-find p r t (and_T₂ (p x) (all p r) h)) (is x.0 t) refl e
    where
      go : (find t r ≡ some a → T (p (t, a))) → (b : Bool) → is x.0 t ≡ b → cond b (some x.1) (find t r) ≡ some a → T (p (t, a))
      go ih true q e = subst (λ (s : Tag × A). T (p s)) (λ i. (is_true x.0 t q i, some_some e i)) (and_T₁ (p x) (all p r) h)
      go ih false q e = ih e

-- ---- no tag stands twice

module _ {A : Type 0} where
  pub distinct_head : (e : Tag × A) (r : Table A) → T (distinct (e ∷ r)) → find e.0 r ≡ none
  unfolding distinct
  distinct_head e r h = go (held e.0 r) refl h
    where
      go : (b : Bool) → held e.0 r ≡ b → T (not b && distinct r) → find e.0 r ≡ none
      go true q h = absurd h
      go false q h = held-false e.0 r q

  pub distinct_tail : (e : Tag × A) (r : Table A) → T (distinct (e ∷ r)) → T (distinct r)
  unfolding distinct
  distinct_tail e r h = and_T₂ (not (held e.0 r)) (distinct r) h

  pub distinct_cons : (e : Tag × A) (r : Table A) → find e.0 r ≡ none → T (distinct r) → T (distinct (e ∷ r))
  unfolding distinct
  distinct_cons e r n h = go (held e.0 r) refl
    where
      go : (b : Bool) → held e.0 r ≡ b → T (not b && distinct r)
      go true q = none_some (sym n ∙ (held-true e.0 r q).1)
      go false q = h

  -- a tag found behind the first entry is not the first one's
  pub distinct_apart : (e : Tag × A) (r : Table A) (t : Tag) {a : A} → T (distinct (e ∷ r)) → find t r ≡ some a → t ≢ e.0
  distinct_apart e r t d f q = none_some (sym (distinct_head e r d) ∙ (ap (λ (x : Tag). find x r) (sym q) ∙ f))

  -- a test that every found entry passes
  pub find-all : (p : Tag × A → Bool) (r : Table A) → T (distinct r) → ((t : Tag) (a : A) → find t r ≡ some a → T (p (t, a))) → T (all p r)
  find-all p [] d h = tt
  find-all p (e ∷ r) d h = and_T (p e) (all p r) (h e.0 e.1 (find_head e r))
      (find-all p r (distinct_tail e r d) (λ t a f. h t a (find-tail e r t (distinct_apart e r t d f) ∙ f)))

  pub cut-distinct : (t : Tag) (r : Table A) → T (distinct r) → T (distinct (cut t r))
  unfolding cut
  cut-distinct t [] d = d
  cut-distinct t (e ∷ r) d = go (cut-distinct t r (distinct_tail e r d)) (is e.0 t) refl
    where
      go : T (distinct (cut t r)) → (b : Bool) → is e.0 t ≡ b → T (distinct (cond b (cut t r) (e ∷ cut t r)))
      go ih true q = ih
      go ih false q = distinct_cons e (cut t r) (find_cut_other e.0 t r differ ∙ distinct_head e r d) ih
        where
          differ : e.0 ≢ t
          differ x = true→T false (sym q ∙ (ap (λ (y : Tag). is y t) x ∙ is_refl t))

  pub put-distinct : (t : Tag) (a : A) (r : Table A) → T (distinct r) → T (distinct (put t a r))
  unfolding put
  put-distinct t a r d = distinct_cons (t, a) (cut t r) (find-cut-same t r) (cut-distinct t r d)

  pub each-distinct : (f : A → A) (r : Table A) → T (distinct r) → T (distinct (each f r))
  unfolding each
  each-distinct f [] d = d
  each-distinct f (e ∷ r) d =
      distinct_cons (e.0, f e.1) (each f r) (find-each f e.0 r ∙ ap (map f) (distinct_head e r d)) (each-distinct f r (distinct_tail e r d))

-- ---- how long a table is

module _ {A : Type 0} where
  pub cut_le : (t : Tag) (r : Table A) → length (cut t r) ≤ length r
  unfolding cut
  cut_le t [] = omega arith
  cut_le t (e ∷ r) = go (cut_le t r) (is e.0 t)
    where
      go : length (cut t r) ≤ length r → (b : Bool) → length (cond b (cut t r) (e ∷ cut t r)) ≤ suc (length r)
      go ih true = omega arith
      go ih false = omega arith

  -- a table with an entry for t is longer than without
  pub cut_lt : (t : Tag) (r : Table A) → ¬ (find t r ≡ none) → length (cut t r) < length r
  unfolding cut find
  cut_lt t [] h = absurd (h refl)
  cut_lt t (e ∷ r) h = go (cut_lt t r) (is e.0 t) h
    where
      go : (¬ (find t r ≡ none) → length (cut t r) < length r) → (b : Bool) → ¬ (cond b (some e.1) (find t r) ≡ none)
          → length (cond b (cut t r) (e ∷ cut t r)) < suc (length r)
      go ih true g = omega (arith, cut_le t r)
      go ih false g = omega (arith, ih g)

  pub length-each : (f : A → A) (r : Table A) → length (each f r) ≡ length r
  unfolding each
  length-each f [] = refl
  length-each f (e ∷ r) = ap suc (length-each f r)

  pub length-put : (t : Tag) (a : A) (r : Table A) → length (put t a r) ≤ suc (length r)
  unfolding put
  length-put t a r = omega (arith, cut_le t r)

  pub length-put-found : (t : Tag) (a : A) (r : Table A) → Found t r → length (put t a r) ≤ length r
  unfolding put
  length-put-found t a r f = omega (arith, cut_lt t r (λ e. none_some (sym e ∙ f.1)))

  -- a table whose tags are all in another is no longer
  pub length_le : (r s : Table A) → T (distinct r) → ((t : Tag) (a : A) → find t r ≡ some a → ¬ (find t s ≡ none)) → length r ≤ length s
  length_le [] s d h = omega arith
  length_le (e ∷ r) s d h =
      omega (
        arith,
        cut_lt e.0 s (h e.0 e.1 (find_head e r)),
        length_le r (cut e.0 s) (distinct_tail e r d) (λ t a f.
            let n : t ≢ e.0 = distinct_apart e r t d f in
            λ g. h t a (find-tail e r t n ∙ f) (sym (find_cut_other t e.0 s n) ∙ g)),
      )

  -- tables that hold the same, and no tag twice, are as long
  pub length-same : (r s : Table A) → T (distinct r) → T (distinct s) → ((t : Tag) → find t r ≡ find t s) → length r ≡ length s
  length-same r s d e h =
      le_antisymm (length_le r s d (λ t a f g. none_some (sym g ∙ (sym (h t) ∙ f)))) (length_le s r e (λ t a f g. none_some (sym g ∙ (h t ∙ f))))

-- ---- what 7 asks, by lookups

pub record Good (m : Model) : Type 0 where
  pub few : length m.components ≤ 64
  pub few_lists : length m.lists ≤ 128
  pub once : T (distinct m.components)
  pub once-lists : T (distinct m.lists)
  pub short : (t : Tag) (c : Component) → component m t ≡ some c → T (not (overlong t))
  pub short-lists : (t : Tag) (l : List Place) → list m t ≡ some l → T (not (overlong t))
  pub places : (t : Tag) (l : List Place) → list m t ≡ some l → T (good_list (t, l))
  pub counts : (t : Tag) (c : Component) → component m t ≡ some c → T (counted (input_count c) (list m t))
  pub names : T (named m.components m.default)

-- tests, one by one
abbrev pub Passed : List Bool → Type 0
Passed [] = Unit {0}
Passed (b ∷ bs) = T b × Passed bs

-- one fact and the rest
infixr 5 ◌▸◌
abbrev pub ◌▸◌ : {A B : Type 0} → A → B → A × B
x ▸ y = (x, y)

pub passed : (bs : List Bool) → T (all (λ b. b) bs) → Passed bs
passed [] h = tt
passed (b ∷ bs) h = (and_T₁ b (all (λ b. b) bs) h, passed bs (and_T₂ b (all (λ b. b) bs) h))

pub unpassed : (bs : List Bool) → Passed bs → T (all (λ b. b) bs)
unpassed [] h = tt
unpassed (b ∷ bs) h = and_T b (all (λ b. b) bs) h.0 (unpassed bs h.1)

pub valid_passed : (m : Model) → T (valid m) → Passed (tests m)
unfolding valid
valid_passed m h = passed (tests m) h

pub good : (m : Model) → T (valid m) → Good m
good m v =
    let (few, (few_lists, (short, (short-lists, (places, (once, (once-lists, (counts, (names, _))))))))) = valid_passed m v in
    record {
      few = leb→le _ _ few;
      few_lists = leb→le _ _ few_lists;
      once = once;
      once-lists = once-lists;
      short = λ t c e. all-find short_tag m.components t short e;
      short-lists = λ t l e. all-find short_tag m.lists t short-lists e;
      places = λ t l e. all-find good_list m.lists t places e;
      counts = λ t c e. all-find (listed m.lists) m.components t counts e;
      names = names;
    }

pub good_valid : (m : Model) → Good m → T (valid m)
unfolding valid
good_valid m g =
    unpassed (tests m) (le→leb _ _ g.few ▸ le→leb _ _ g.few_lists
    ▸ find-all short_tag m.components g.once g.short ▸ find-all short_tag m.lists g.once-lists g.short-lists
    ▸ find-all good_list m.lists g.once-lists g.places ▸ g.once ▸ g.once-lists
    ▸ find-all (listed m.lists) m.components g.once g.counts ▸ g.names ▸ tt)

-- a model that 7 lets pass holds no component under an overlong tag
pub valid-short : (m : Model) (t : Tag) {c : Component} → T (valid m) → component m t ≡ some c → T (not (overlong t))
valid-short m t {c} v e = (good m v).short t c e

pub named_by : (cs ds : Table Component) (d : Option Tag) → ((t : Tag) → Found t cs → Found t ds) → T (named cs d) → T (named ds d)
named_by cs ds none h n = tt
named_by cs ds (some t) h n = found-held t ds (h t (held-true t cs (T→true _ n)))

-- any model that is the same, and holds no tag twice, passes too
pub same-valid : (m n : Model) → T (valid m) → Same m n → T (distinct n.components) → T (distinct n.lists) → T (valid n)
same-valid m n v s d e =
    let g = good m v in
    good_valid n (record {
      few = subst (λ (k : ℕ). k ≤ 64) (length-same m.components n.components g.once d s.components) g.few;
      few_lists = subst (λ (k : ℕ). k ≤ 128) (length-same m.lists n.lists g.once-lists e s.lists) g.few_lists;
      once = d;
      once-lists = e;
      short = λ t c q. g.short t c (s.components t ∙ q);
      short-lists = λ t l q. g.short-lists t l (s.lists t ∙ q);
      places = λ t l q. g.places t l (s.lists t ∙ q);
      counts = λ t c q. subst (λ (x : Option (List Place)). T (counted (input_count c) x)) (s.lists t) (g.counts t c (s.components t ∙ q));
      names = subst (λ (x : Option Tag). T (named n.components x)) s.default
          (named_by m.components n.components m.default (λ t f. (f.0, sym (s.components t) ∙ f.1)) g.names);
    })
