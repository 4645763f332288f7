-- Tables that hold the same, at any positions, still do after the same change. Assumes nothing.
use mathlib.Core.Path.{◌≡◌, refl, sym, ◌∙◌, ap, subst}
use mathlib.Core.Bool.{Bool, true, false}
use mathlib.Core.Option.{Option, none, some, map}
use Rattle.tag.specs.Tags.{Tag}
use Rattle.tag.proofs.Laws.Is.{same?}
use Rattle.model.specs.Table.{Table, find, held, cut, put, each, moved, move}
use Rattle.model.proofs.Laws.Table.{find-cut-same, find_cut_other, find-put-same, find_put_other, held-false, held-true, find-each}
use Rattle.model.proofs.Laws.Valid.{none_some}

-- under every tag the same
abbrev pub Even : {A : Type 0} → Table A → Table A → Type 0
Even r s = (t : Tag) → find t r ≡ find t s

module _ {A : Type 0} (r s : Table A) (h : Even r s) where
  pub even_held : (t : Tag) → held t r ≡ held t s
  even_held t = go (held t r) (held t s) refl refl
    where
      go : (a b : Bool) → held t r ≡ a → held t s ≡ b → a ≡ b
      go true true p q = refl
      go true false p q = none_some (sym (h t ∙ held-false t s q) ∙ (held-true t r p).1)
      go false true p q = none_some (sym (sym (h t) ∙ held-false t r p) ∙ (held-true t s q).1)
      go false false p q = refl

  pub even_cut : (u : Tag) → Even (cut u r) (cut u s)
  even_cut u t = go (same? t u)
    where
      go : Dec (t ≡ u) → find t (cut u r) ≡ find t (cut u s)
      go (yes e) = ap (λ (x : Tag). find x (cut u r)) e ∙ (find-cut-same u r ∙ (sym (find-cut-same u s) ∙ ap (λ (x : Tag). find x (cut u s)) (sym e)))
      go (no n) = find_cut_other t u r n ∙ (h t ∙ sym (find_cut_other t u s n))

  pub even_put : (u : Tag) (a : A) → Even (put u a r) (put u a s)
  even_put u a t = go (same? t u)
    where
      go : Dec (t ≡ u) → find t (put u a r) ≡ find t (put u a s)
      go (yes e) = ap (λ (x : Tag). find x (put u a r)) e ∙ (find-put-same u a r ∙ (sym (find-put-same u a s) ∙ ap (λ (x : Tag). find x (put u a s)) (sym e)))
      go (no n) = find_put_other t u a r n ∙ (h t ∙ sym (find_put_other t u a s n))

  pub even_each : (f : A → A) → Even (each f r) (each f s)
  even_each f t = find-each f t r ∙ (ap (map f) (h t) ∙ sym (find-each f t s))

module _ {A : Type 0} (r s : Table A) (h : Even r s) where
  pub even_move : (t u : Tag) → Even (move t u r) (move t u s)
  unfolding move
  even_move t u = subst (λ (o : Option A). Even (moved t u r (find t r)) (moved t u s o)) (h t) (go (find t r))
    where
      go : (o : Option A) → Even (moved t u r o) (moved t u s o)
      go none = h
      go (some a) = even_put (cut t r) (cut t s) (even_cut r s h t) u a
