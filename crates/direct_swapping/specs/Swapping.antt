-- Places that name a tag changed, in the bytes of a model. Definitions only.
use Rattle.std.specs.Prelude.{ℕ, ◌+◌, ◌*◌, ◌≤◌, ◌<◌, min, ◌≡◌, ◌≢◌, Bool, true, false, List, map, length, get_or}
use Rattle.std.proofs.Math.Option.{Option, some}
use Rattle.tag.specs.Tags.{Tag}
use Rattle.model.specs.Model.{Place}
use Rattle.model.specs.Edit.{swap}
use Rattle.layout.specs.Words.{word}
use Rattle.layout.specs.Writing.{Kept}
use Rattle.rows.specs.Rows.{place_in, place_row}
use Rattle.model_bytes.specs.ModelBytes.{list_row}

-- whether the place at byte `at`, where one stands there, names the tag
pub record NamesTag (s : List ℕ) (at : ℕ) (t : Tag) (r : Bool) : Type 0 where
  pub yes : r ≡ true → (q : Place) → place_in s at ≡ some q → q ≡ some t
  pub no : r ≡ false → (q : Place) → place_in s at ≡ some q → q ≢ some t

-- the place there, where one stands there, is swapped
pub record PlaceSwapped (t : Tag) (p : Place) (at : ℕ) (s u : List ℕ) : Type 0 where
  pub kept : Kept s u at 40
  pub holds : (q : Place) → place_in s at ≡ some q → place_in u at ≡ some (swap t p q)

-- the first n rows, which begin at `at`, are changed by f, where something stands in them; no other byte is changed
pub record Mapped {A : Type 0} (row : List ℕ → ℕ → Option A) (f : A → A) (at : ℕ → ℕ) (n : ℕ) (s u : List ℕ) : Type 0 where
  pub size : length u ≡ length s
  pub below : (k : ℕ) → k < at 0 → get_or u k 0 ≡ get_or s k 0
  pub above : (k : ℕ) → at n ≤ k → get_or u k 0 ≡ get_or s k 0
  pub each : (i : ℕ) → i < n → (x : A) → row s i ≡ some x → row u i ≡ some (f x)

-- where the places of the row j of the lists begin
abbrev pub place_at : ℕ → ℕ → ℕ
place_at j k = 5744 + 168 * j + 40 * k

-- the places of the row j that it counts
abbrev pub PlacesSwapped : Tag → Place → ℕ → ℕ → List ℕ → List ℕ → Type 0
PlacesSwapped t p j n s u = Mapped (λ v k. place_row v (5744 + 168 * j) k) (swap t p) (place_at j) n s u

-- a list with its places swapped
abbrev pub swap_list : Tag → Place → Tag × List Place → Tag × List Place
swap_list t p x = (x.0, map (swap t p) x.1)

pub record ListSwapped (t : Tag) (p : Place) (j : ℕ) (s u : List ℕ) : Type 0 where
  pub kept : Kept s u (5696 + 168 * j) 168
  pub holds : (x : Tag × List Place) → list_row s j ≡ some x → list_row u j ≡ some (swap_list t p x)

abbrev pub RowsSwapped : Tag → Place → ℕ → List ℕ → List ℕ → Type 0
RowsSwapped t p n s u = Mapped list_row (swap_list t p) (λ j. 5696 + 168 * j) n s u

-- Bytes of a model's size: each list that they count, and the default, with every place swapped; there is no other change. Other bytes are not changed.
pub record Swapped (t : Tag) (p : Place) (s u : List ℕ) : Type 0 where
  pub size : length u ≡ length s
  pub head : (k : ℕ) → k < 24 → get_or u k 0 ≡ get_or s k 0
  pub components : (k : ℕ) → 64 ≤ k → k < 5696 → get_or u k 0 ≡ get_or s k 0
  pub past : (k : ℕ) → 5696 + 168 * min (word s 16) 128 ≤ k → get_or u k 0 ≡ get_or s k 0
  pub lists : length s ≡ 27200 → (j : ℕ) (x : Tag × List Place) → j < min (word s 16) 128 → list_row s j ≡ some x → list_row u j ≡ some (swap_list t p x)
  pub default : length s ≡ 27200 → (q : Place) → place_in s 24 ≡ some q → place_in u 24 ≡ some (swap t p q)
  pub narrow : (length s ≡ 27200 → ⊥) → u ≡ s
