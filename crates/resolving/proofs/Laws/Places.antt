-- What stands in a list, place by place. Assumes nothing.
use Prim.Native.Nat.{ℕ, zero, suc, ◌≤◌, ◌<◌}
use native.Mathlib.Omega.{arith}
use native.Mathlib.Decide.{dec_lt}
use mathlib.Core.Path.{◌≡◌, refl, sym, ap, ◌∙◌}
use mathlib.Core.List.{List, [], ◌∷◌, map, Memᴰ}
use mathlib.Core.Option.{none, some}
use lib.ListN.{take, length, get_or, length-map, get_or-map}
use Rattle.std.specs.Prelude.{Some, None}
use Rattle.tag.specs.Tags.{Tag}
use Rattle.tag.specs.View.{bytes_of}
use Rattle.tag.specs.declared.Tag.{Tag as Label}
use Rattle.model.specs.declared.implicit_model.InputList.{InputList}
use Rattle.model.specs.Model.{Place}
use Rattle.model.specs.View.{PlaceRecord, place_of, rows}
use Rattle.model.proofs.Laws.Valid.{some_some, none_some}
use Rattle.resolving.specs.Slots.{Want, look, unassigned, no_place, place_want}

none_names : {a : Tag} → no_place ≡ look a → ⊥
none_names e = let z : ◌≡◌ {A = ℕ} 0 1 = cc in omega arith

gap_names : {a : Tag} → unassigned ≡ look a → ⊥
gap_names e = let z : ◌≡◌ {A = ℕ} 0 1 = cc in omega arith

-- a place that names a tag is one of the list's
pub want_names : (l : List Place) (p : ℕ) {a : Tag} → place_want l p ≡ look a → Memᴰ (some a) l
unfolding place_want
want_names [] p e = absurd (none_names e)
want_names (none ∷ l) zero e = absurd (gap_names e)
want_names (some b ∷ l) zero {a} e = Memᴰ.head (let q : some a ≡ some b = cc in q)
want_names (none ∷ l) (suc p) e = Memᴰ.tail (want_names l p e)
want_names (some b ∷ l) (suc p) e = Memᴰ.tail (want_names l p e)

pub names_want : (l : List Place) {a : Tag} → Memᴰ (some a) l → (p : ℕ) × (p < length l) × (place_want l p ≡ look a)
unfolding place_want
names_want [] m = elim m [ ]
names_want (none ∷ l) (Memᴰ.head e) = none_some (sym e)
names_want (none ∷ l) (Memᴰ.tail m) = let (p, h, e) = names_want l m in (suc p, omega arith, e)
names_want (some b ∷ l) (Memᴰ.head e) = (0, omega arith, ap look (some_some (sym e)))
names_want (some b ∷ l) (Memᴰ.tail m) = let (p, h, e) = names_want l m in (suc p, omega arith, e)

-- an unassigned place of the list
pub gap_want : (l : List Place) → Memᴰ none l → (p : ℕ) × (p < length l) × (place_want l p ≡ unassigned)
unfolding place_want
gap_want [] m = elim m [ ]
gap_want (none ∷ l) m = (0, omega arith, refl)
gap_want (some b ∷ l) (Memᴰ.head e) = none_some e
gap_want (some b ∷ l) (Memᴰ.tail m) = let (p, h, e) = gap_want l m in (suc p, omega arith, e)

abbrev placed : Place → Want
placed none = unassigned
placed (some a) = look a

want_at : (l : List Place) (p : ℕ) → p < length l → place_want l p ≡ placed (get_or l p none)
unfolding place_want
want_at [] p h = absurd (let z : ⊥ = omega arith in z)
want_at (none ∷ l) zero h = refl
want_at (some a ∷ l) zero h = refl
want_at (none ∷ l) (suc p) h = want_at l p (omega arith)
want_at (some a ∷ l) (suc p) h = want_at l p (omega arith)

pub want_past : (l : List Place) (p : ℕ) → length l ≤ p → place_want l p ≡ no_place
unfolding place_want
want_past [] p h = refl
want_past (q ∷ l) zero h = absurd (let z : ⊥ = omega arith in z)
want_past (none ∷ l) (suc p) h = want_past l p (omega arith)
want_past (some a ∷ l) (suc p) h = want_past l p (omega arith)

-- ---- the places of a list's record

module _ (l : InputList) (p : ℕ) {xs : List PlaceRecord} (live : xs ≡ take l.count l.places) where
  abbrev Want-is : Want → Type 0
  Want-is w = place_want (rows place_of l.count l.places) p ≡ w

  pub place-past : length xs ≤ p → Want-is no_place
  unfolding rows
  place-past h = rw (← live) (want_past (map place_of xs) p (omega (arith, length-map xs place_of)))

  here : p < length xs → Want-is (placed (place_of (get_or xs p None)))
  unfolding place_of rows
  here h = rw (← live) (want_at (map place_of xs) p (omega (arith, length-map xs place_of)) ∙ ap placed (get_or-map place_of xs p None))

  pub place-named : p < length xs → (t : Label) → Some t ≡ get_or xs p None → Want-is (look (bytes_of t))
  unfolding place_of
  place-named h t e = here h ∙ ap (λ (x : PlaceRecord). placed (place_of x)) (sym e)

  pub place-gap : p < length xs → None ≡ get_or xs p None → Want-is unassigned
  unfolding place_of
  place-gap h e = here h ∙ ap (λ (x : PlaceRecord). placed (place_of x)) (sym e)

  -- the place that names a tag
  pub want-named : {a : Tag} → Want-is (look a) → (t : Label) × (p < length xs) × (get_or xs p None ≡ Some t) × (bytes_of t ≡ a)
  want-named {a} e = in_bounds (dec_lt p (length xs))
    where
      same : {b c : Tag} → look b ≡ look c → b ≡ c
      same q = cc

      read : (h : p < length xs) (x : PlaceRecord) → get_or xs p None ≡ x → (t : Label) × (p < length xs) × (get_or xs p None ≡ Some t) × (bytes_of t ≡ a)
      read h (Some t) q = (t, h, q, same (sym (place-named h t (sym q)) ∙ e))
      read h None q = absurd (gap_names (sym (place-gap h (sym q)) ∙ e))

      in_bounds : Dec (p < length xs) → (t : Label) × (p < length xs) × (get_or xs p None ≡ Some t) × (bytes_of t ≡ a)
      in_bounds (yes h) = read h (get_or xs p None) refl
      in_bounds (no n) = absurd (none_names (sym (place-past (omega arith)) ∙ e))
