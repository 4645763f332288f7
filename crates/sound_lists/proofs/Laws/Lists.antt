-- Tests of all rows, tags within their size, and an input list as 7 judges it. Assumes nothing.
use mathlib.Core.Path.{◌≡◌, refl, sym, ◌∙◌, ap, subst}
use mathlib.Core.Bool.{Bool, true, false, not, ◌&&◌}
use mathlib.Core.List.{List, [], ◌∷◌, map}
use Prim.Native.Nat.{ℕ, ◌<◌, ◌≤◌, min}
use native.Mathlib.Omega.{arith}
use lib.Dec.{T, leb, ltb, leb→le, le→leb, not_T, ltb→lt}
use lib.ListN.{take, length, length-take}
use borrow.Author.Tests.{lt-leb}
use Rattle.std.specs.Prelude.{Some, None}
use Rattle.tag.specs.declared.Tag.{Tag as Label}
use Rattle.tag.specs.Tags.{overlong}
use Rattle.tag.specs.View.{bytes_of, tag_fits}
use Rattle.model.specs.declared.implicit_model.InputList.{InputList}
use Rattle.model.specs.Table.{all}
use Rattle.model.specs.Model.{short_place, good_list}
use Rattle.model.specs.View.{PlaceRecord, place_of, rows, list_of, every, place_fits, list_fits}
use Rattle.model.proofs.Laws.Bool.{T→true, and_T, and_T₁, and_T₂}
use Rattle.model.proofs.Laws.Valid.{Passed, passed, unpassed}
use Rattle.held.proofs.Laws.Rows.{rows-live}
use Rattle.sound_lists.specs.Sound.{list_sound}

-- tests that hold of the same are one
pub bool_ext : (a b : Bool) → (T a → T b) → (T b → T a) → a ≡ b
bool_ext true b f g = sym (T→true b (f tt))
bool_ext false true f g = absurd (g tt)
bool_ext false false f g = refl

-- ---- tests of all rows

module _ {A : Type 0} where
  imply : (f g : A → Bool) → ((x : A) → T (f x) → T (g x)) → (xs : List A) → T (every (map f xs)) → T (every (map g xs))
  imply f g h [] t = tt
  imply f g h (x ∷ xs) t = and_T (g x) (every (map g xs)) (h x (and_T₁ (f x) (every (map f xs)) t)) (imply f g h xs (and_T₂ (f x) (every (map f xs)) t))

  join : (f g : A → Bool) (xs : List A) → T (every (map f xs)) → T (every (map g xs)) → T (every (map (λ x. f x && g x) xs))
  join f g [] t u = tt
  join f g (x ∷ xs) t u =
      and_T (f x && g x) (every (map (λ x. f x && g x) xs)) (and_T (f x) (g x) (and_T₁ (f x) (every (map f xs)) t) (and_T₁ (g x) (every (map g xs)) u))
      (join f g xs (and_T₂ (f x) (every (map f xs)) t) (and_T₂ (g x) (every (map g xs)) u))

  all_map : {B : Type 0} (p : B → Bool) (h : A → B) (xs : List A) → all p (map h xs) ≡ every (map (λ x. p (h x)) xs)
  all_map p h [] = refl
  all_map p h (x ∷ xs) = ap (λ (b : Bool). p (h x) && b) (all_map p h xs)

  -- a test of what rows hold is a test of the rows
  pub all-rows : {B : Type 0} (p : B → Bool) (h : A → B) (n : ℕ) (xs : List A) → all p (rows h n xs) ≡ every (rows (λ x. p (h x)) n xs)
  unfolding rows
  all-rows p h n xs = all_map p h (take n xs)

  pub imply_rows : (f g : A → Bool) → ((x : A) → T (f x) → T (g x)) → (n : ℕ) (xs : List A) → T (every (rows f n xs)) → T (every (rows g n xs))
  unfolding rows
  imply_rows f g h n xs t = imply f g h (take n xs) t

  pub join_rows : (f g : A → Bool) (n : ℕ) (xs : List A) → T (every (rows f n xs)) → T (every (rows g n xs)) → T (every (rows (λ x. f x && g x) n xs))
  unfolding rows
  join_rows f g n xs t u = join f g (take n xs) t u

-- ---- a tag within its size is short

pub fits-short : (t : Label) → T (tag_fits t) → T (not (overlong (bytes_of t)))
unfolding tag_fits overlong bytes_of
fits-short t h = not_T (ltb 32 (length (take t.len t.bytes))) (λ k. let q = leb→le t.len 32 h in let z : ⊥ = omega (arith, ltb→lt 32 (length (take t.len t.bytes)) k, length-take t.len t.bytes) in z)

pub place_short : (p : PlaceRecord) → T (place_fits p) → T (short_place (place_of p))
unfolding place_fits place_of
place_short (Some t) h = fits-short t h
place_short None h = tt

-- ---- one list

-- a list's live places, as many as are seen
pub seen-length : (l : InputList) {ps : List PlaceRecord} → ps ≡ take l.count l.places → length ps ≡ min l.count 3 → length (rows place_of l.count l.places) ≡ min l.count 3
seen-length l e b = let live = rows-live place_of l.places l.count 3 e b in sym live.live ∙ live.bound

pub list_parts : (l : InputList) → T (list_fits l) → Passed (tag_fits l.tag ∷ leb l.count 3 ∷ every (rows place_fits l.count l.places) ∷ [])
unfolding list_fits
list_parts l h = passed (tag_fits l.tag ∷ leb l.count 3 ∷ every (rows place_fits l.count l.places) ∷ []) h

pub places-short : (l : InputList) → T (every (rows place_fits l.count l.places)) → T (all short_place (rows place_of l.count l.places))
places-short l h = subst T (sym (all-rows short_place place_of l.count l.places)) (imply_rows place_fits (λ p. short_place (place_of p)) place_short l.count l.places h)

module _ (l : InputList) (size : length (rows place_of l.count l.places) ≡ min l.count 3) where
  pub list-long : tag_fits l.tag ≡ false → false ≡ list_sound l
  unfolding list_fits
  list-long h = sym (rw h)

  pub list-outside : (1 ≤ l.count → l.count ≤ 3 → ⊥) → false ≡ list_sound l
  list-outside h = bool_ext false (list_sound l) (λ z. absurd z)
      (λ t. let q : 1 ≤ length (rows place_of l.count l.places) = leb→le 1 (length (rows place_of l.count l.places)) (and_T₁ (leb 1 (length (rows place_of l.count l.places))) (leb (length (rows place_of l.count l.places)) 3 && all short_place (rows place_of l.count l.places)) (and_T₂ (list_fits l) (good_list (list_of l)) t)) in
      h (omega arith) (leb→le l.count 3 (list_parts l (and_T₁ (list_fits l) (good_list (list_of l)) t)).1.0))

  pub list-sound : l.tag.len ≤ 32 → 1 ≤ l.count → l.count ≤ 3 → every (rows place_fits l.count l.places) ≡ list_sound l
  unfolding list_fits tag_fits
  list-sound a b c =
      bool_ext _ _
      (λ t. and_T (list_fits l) (good_list (list_of l)) (unpassed (tag_fits l.tag ∷ leb l.count 3 ∷ every (rows place_fits l.count l.places) ∷ []) (le→leb l.tag.len 32 a, (le→leb l.count 3 c, (t, tt))))
      (and_T (leb 1 (length (rows place_of l.count l.places))) (leb (length (rows place_of l.count l.places)) 3 && all short_place (rows place_of l.count l.places)) (le→leb 1 (length (rows place_of l.count l.places)) (omega arith))
      (and_T (leb (length (rows place_of l.count l.places)) 3) (all short_place (rows place_of l.count l.places)) (le→leb (length (rows place_of l.count l.places)) 3 (omega arith)) (places-short l t))))
      (λ t. (list_parts l (and_T₁ (list_fits l) (good_list (list_of l)) t)).1.1.0)
