-- What stands at a place of some bytes (docs/LAYOUT.md): a tag, a place, a component, and rows of them. Definitions only.
use Rattle.std.specs.Prelude.{ℕ, zero, suc, ◌+◌, ◌*◌, ◌-◌, Bool, true, ◌&&◌, cond, List, [], ◌∷◌, ◌++◌, leb, eqb, get_or, take, drop}
use Rattle.std.proofs.Math.Option.{Option, none, some, map}
use Rattle.tag.specs.Tags.{Tag}
use Rattle.component.specs.declared.model_component.Component.{Component}
use Rattle.model.specs.declared.implicit_model.InputList.{InputList}
use Rattle.model.specs.Model.{Place}
use Rattle.model.specs.View.{rows, place_of}
use Rattle.layout.specs.Words.{word}
use Rattle.component_layout.specs.Components.{component_from}
use Rattle.component_layout.specs.declared.component_numbers.Numbered.{Numbered}
use Rattle.component_layout.specs.Numbers.{words_of}

-- ---- what stands at byte `at` of s

-- n bytes that are 0
unfoldable pub blank : List ℕ → ℕ → ℕ → Bool
blank s at zero = true
blank s at (suc n) = blank s at n && eqb (get_or s (at + n) 0) 0

-- 32 bytes that hold a tag of n bytes: the rest of them are 0
unfoldable pub text_in : ℕ → List ℕ → ℕ → Option Tag
text_in n s at = cond (leb n 32 && blank s (at + n) (32 - n)) (some (take n (drop at s))) none

-- a tag: a word for its length, then 32 bytes
unfoldable pub tag_in : List ℕ → ℕ → Option Tag
tag_in s at = text_in (word s at) s (at + 8)

-- a place: a word, then 32 bytes. 0 is an unassigned place, whose bytes are 0; any other word is a tag's length and 1.
unfoldable pub place_from : ℕ → List ℕ → ℕ → Option Place
place_from zero s at = cond (blank s at 32) (some none) none
place_from (suc n) s at = map some (text_in n s at)

unfoldable pub place_in : List ℕ → ℕ → Option Place
place_in s at = place_from (word s at) s (at + 8)

-- a component: six words, which are the component's own
abbrev pub six_in : List ℕ → ℕ → Numbered ℕ
six_in s at = record { kind = word s at; a = word s (at + 8); b = word s (at + 16); c = word s (at + 24); d = word s (at + 32); e = word s (at + 40) }

unfoldable pub same_words : Numbered ℕ → Numbered ℕ → Bool
same_words v w = eqb v.kind w.kind && (eqb v.a w.a && (eqb v.b w.b && (eqb v.c w.c && (eqb v.d w.d && eqb v.e w.e))))

abbrev pub spelled : Numbered ℕ → Option Component → Option Component
spelled w none = none
spelled w (some c) = cond (same_words (words_of c) w) (some c) none

abbrev pub component_of_words : Numbered ℕ → Option Component
component_of_words w = spelled w (component_from w.kind w.a w.b w.c w.d w.e)

unfoldable pub component_in : List ℕ → ℕ → Option Component
component_in s at = component_of_words (six_in s at)

-- three words
abbrev pub three_in : List ℕ → ℕ → ℕ × (ℕ × ℕ)
three_in s at = (word s at, (word s (at + 8), word s (at + 16)))

-- ---- rows

abbrev pub append : {A : Type 0} → Option (List A) → Option A → Option (List A)
append none x = none
append (some xs) none = none
append (some xs) (some x) = some (xs ++ (x ∷ []))

-- the first n rows, where each of them holds something
unfoldable pub rows_in : {A : Type 0} → (ℕ → Option A) → ℕ → Option (List A)
rows_in row zero = some []
rows_in row (suc n) = append (rows_in row n) (row n)

-- the places of a list, 120 bytes: n places, at most 3; those past the count are 0
abbrev pub place_row : List ℕ → ℕ → ℕ → Option Place
place_row s at k = place_in s (at + 40 * k)

unfoldable pub places_in : ℕ → List ℕ → ℕ → Option (List Place)
places_in n s at = cond (leb n 3 && blank s (at + 40 * n) (40 * (3 - n))) (rows_in (place_row s at) n) none

-- the first n places of a list's record
abbrev pub places_of : ℕ → InputList → List Place
places_of n l = rows place_of n l.places
