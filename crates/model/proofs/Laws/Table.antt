-- What a table holds after a change. Assumes nothing.
use mathlib.Core.Path.{◌≡◌, refl, sym, ◌∙◌, ap}
use mathlib.Core.Logic.{◌≢◌}
use mathlib.Core.Bool.{Bool, true, false, ◌||◌, cond}
use mathlib.Core.List.{[], ◌∷◌}
use mathlib.Core.Option.{none, some, map}
use Rattle.tag.specs.Tags.{Tag, is}
use Rattle.tag.proofs.Laws.Is.{is_refl, is_true, is_false}
use Rattle.model.specs.Table.{Table, find, held, cut, put, each}
use Rattle.model.proofs.Laws.Bool.{true→T}

module _ {A : Type 0} where
  pub find-cut-same : (t : Tag) (r : Table A) → find t (cut t r) ≡ none
  unfolding find cut
  find-cut-same t [] = refl
  find-cut-same t (e ∷ r) = go (find-cut-same t r) (is e.0 t) refl
    where
      go : find t (cut t r) ≡ none → (b : Bool) → is e.0 t ≡ b → find t (cond b (cut t r) (e ∷ cut t r)) ≡ none
      go ih true q = ih
      go ih false q = rw q ih

  pub find_cut_other : (s t : Tag) (r : Table A) → s ≢ t → find s (cut t r) ≡ find s r
  unfolding find cut
  find_cut_other s t [] n = refl
  find_cut_other s t (e ∷ r) n = go (find_cut_other s t r n) (is e.0 t) refl
    where
      go : find s (cut t r) ≡ find s r → (b : Bool) → is e.0 t ≡ b
          → find s (cond b (cut t r) (e ∷ cut t r)) ≡ cond (is e.0 s) (some e.1) (find s r)
      go ih true q = rw (is_false e.0 s (λ p. n (sym p ∙ is_true e.0 t q))) ih
      go ih false q = ap (cond (is e.0 s) (some e.1)) ih

  pub find-put-same : (t : Tag) (a : A) (r : Table A) → find t (put t a r) ≡ some a
  unfolding find put
  find-put-same t a r = rw (is_refl t) refl

  pub find_put_other : (s t : Tag) (a : A) (r : Table A) → s ≢ t → find s (put t a r) ≡ find s r
  unfolding find put
  find_put_other s t a r n = rw (is_false t s (λ p. n (sym p))) (find_cut_other s t r n)

  pub held-false : (t : Tag) (r : Table A) → held t r ≡ false → find t r ≡ none
  unfolding held find
  held-false t [] e = refl
  held-false t (x ∷ r) e = go (held-false t r) (is x.0 t) e
    where
      go : (held t r ≡ false → find t r ≡ none) → (b : Bool) → b || held t r ≡ false → cond b (some x.1) (find t r) ≡ none
      go ih true q = absurd (true→T false (sym q))
      go ih false q = ih q

  pub held-true : (t : Tag) (r : Table A) → held t r ≡ true → (a : A) × (find t r ≡ some a)
  unfolding held find
  held-true t [] e = absurd (true→T false e)
  held-true t (x ∷ r) e = go (held-true t r) (is x.0 t) e
    where
      go : (held t r ≡ true → (a : A) × (find t r ≡ some a)) → (b : Bool) → b || held t r ≡ true → (a : A) × (cond b (some x.1) (find t r) ≡ some a)
      go ih true q = (x.1, refl)
      go ih false q = ih q

  pub find-each : (f : A → A) (t : Tag) (r : Table A) → find t (each f r) ≡ map f (find t r)
  unfolding find each
  find-each f t [] = refl
  find-each f t (e ∷ r) = go (find-each f t r) (is e.0 t)
    where
      go : find t (each f r) ≡ map f (find t r) → (b : Bool)
          → cond b (some (f e.1)) (find t (each f r)) ≡ map f (cond b (some e.1) (find t r))
      go ih true = refl
      go ih false = ih
