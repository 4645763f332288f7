-- The model that stands in bytes: its tables, row by row. Assumes nothing.
use Prim.Native.Nat.{ℕ, ◌+◌, ◌*◌, ◌-◌, ◌≤◌, ◌<◌}
use native.Mathlib.Omega.{arith}
use mathlib.Core.Path.{◌≡◌, refl, sym, ap, subst, ◌∙◌}
use mathlib.Core.Bool.{Bool, true, false, ◌&&◌, cond}
use mathlib.Core.List.{List}
use mathlib.Core.Option.{Option, none, some}
use lib.Dec.{T, leb}
use lib.ListN.{length, get_or}
use borrow.Author.Tests.{leb-true}
use Rattle.tag.specs.Tags.{Tag}
use Rattle.component.specs.declared.model_component.Component.{Component}
use Rattle.model.specs.Table.{all, Table}
use Rattle.model.specs.Model.{Place, Model, short_place}
use Rattle.model.proofs.Laws.Valid.{some_some, none_some}
use Rattle.layout.specs.Words.{word}
use Rattle.component_layout.specs.Numbers.{words_of}
use Rattle.component_layout.specs.declared.component_numbers.Numbered.{Numbered}
use Rattle.rows.specs.Rows.{blank, tag_in, place_in, six_in, same_words, spelled, component_of_words, component_in, rows_in, place_row, places_in}
use Rattle.model_bytes.specs.ModelBytes.{both, entry_in, list_in, headed, entry_row, list_row, joined, model_in}
use Rattle.rows.proofs.Laws.Tests.{and_left}
use Rattle.model_bytes.proofs.Laws.Decoding.{Head, head}
use Rattle.finding.specs.Rows.{component_at, list_place_at, from_six, component_row}
use Rattle.standing.proofs.Laws.Keys.{cond_some, Tagged, tag_shows, place_short}
use Rattle.standing.proofs.Laws.Rows.{Built, built, built_length, built_get_d, built_all}

-- the model's parts
pub record Parts (s : List ℕ) (m : Model) : Type 0 where
  pub head : Head s
  pub components : Built (entry_row s) (word s 8) m.components
  pub lists : Built (list_row s) (word s 16) m.lists
  pub default : place_in s 24 ≡ some m.default

pub parts : (s : List ℕ) {m : Model} → model_in s ≡ some m → Parts s m
unfolding model_in
parts s {m} e = go (headed s) refl e
  where
    in_parts : headed s ≡ true → (cs : Option (Table Component)) (ls : Option (Table (List Place))) (d : Option Place) → rows_in (entry_row s) (word s 8) ≡ cs → rows_in (list_row s) (word s 16) ≡ ls
        → place_in s 24 ≡ d → joined cs ls d ≡ some m → Parts s m
    in_parts h none ls d p q r f = none_some f
    in_parts h (some cs) none d p q r f = none_some f
    in_parts h (some cs) (some ls) none p q r f = none_some f
    in_parts h (some cs) (some ls) (some d) p q r f =
        subst (λ (x : Model). Parts s x) (some_some f)
        (record { head = head s h; components = built (entry_row s) (word s 8) p; lists = built (list_row s) (word s 16) q; default = r })

    go : (b : Bool) → headed s ≡ b → cond b (joined (rows_in (entry_row s) (word s 8)) (rows_in (list_row s) (word s 16)) (place_in s 24)) none ≡ some m → Parts s m
    go true h f = in_parts h (rows_in (entry_row s) (word s 8)) (rows_in (list_row s) (word s 16)) (place_in s 24) refl refl refl f
    go false h f = none_some f

-- ---- rows

pub both_some : {A B : Type 0} (a : Option A) (b : Option B) {x : A × B} → both a b ≡ some x → (a ≡ some x.0) × (b ≡ some x.1)
both_some none b e = none_some e
both_some (some a) none e = none_some e
both_some {A} {B} (some a) (some b) {x} e = (ap some (ap (λ (y : A × B). y.0) (some_some e)), ap some (ap (λ (y : A × B). y.1) (some_some e)))

-- a row of the components
pub record Entry (s : List ℕ) (i : ℕ) (x : Tag × Component) : Type 0 where
  pub tag : Tagged s (component_at i) x.0
  pub component : component_row s i ≡ some x.1

spelled_some : (w : Numbered ℕ) (o : Option Component) {c : Component} → spelled w o ≡ some c → o ≡ some c
spelled_some w none e = none_some e
spelled_some w (some d) e = ap some (cond_some (same_words (words_of d) w) e).1

component_shows : (s : List ℕ) (i : ℕ) {c : Component} → component_in s (64 + 88 * i + 40) ≡ some c → component_row s i ≡ some c
unfolding component_in component_row
component_shows s i e =
    let q : 64 + 88 * i + 40 ≡ 104 + 88 * i = omega arith in
    spelled_some (six_in s (104 + 88 * i)) (from_six (six_in s (104 + 88 * i))) (ap (λ (k : ℕ). component_of_words (six_in s k)) (sym q) ∙ e)

pub entry_shows : (s : List ℕ) (i : ℕ) (x : Tag × Component) → entry_row s i ≡ some x → Entry s i x
unfolding entry_in
entry_shows s i x e =
    let b = both_some (tag_in s (64 + 88 * i)) (component_in s (64 + 88 * i + 40)) {x = x} e in
    record { tag = tag_shows s (component_at i) b.0; component = component_shows s i b.1 }

-- a row of the lists
pub record Row (s : List ℕ) (j : ℕ) (x : Tag × List Place) : Type 0 where
  pub tag : Tagged s (list_place_at j) x.0
  pub count : length x.1 ≡ word s (5736 + 168 * j)
  pub few : word s (5736 + 168 * j) ≤ 3
  pub short : T (all short_place x.1)
  pub place : (p : ℕ) → p < word s (5736 + 168 * j) → place_in s (5744 + 168 * j + 40 * p) ≡ some (get_or x.1 p none)

pub cond-rows : {A : Type 0} (b : Bool) {o : Option A} {x : A} → cond b o none ≡ some x → (b ≡ true) × (o ≡ some x)
cond-rows true e = (refl, e)
cond-rows false e = none_some e

pub list_shows : (s : List ℕ) (j : ℕ) (x : Tag × List Place) → list_row s j ≡ some x → Row s j x
unfolding list_in places_in
list_shows s j x e =
    let b = both_some (tag_in s (5696 + 168 * j)) (places_in (word s (5696 + 168 * j + 40)) s (5696 + 168 * j + 48)) {x = x} e in
    let q : 5696 + 168 * j + 40 ≡ 5736 + 168 * j = omega arith in
    let r : 5696 + 168 * j + 48 ≡ 5744 + 168 * j = omega arith in
    let n = word s (5736 + 168 * j) in
    let f : places_in n s (5744 + 168 * j) ≡ some x.1 = ap (λ (k : ℕ). places_in k s (5744 + 168 * j)) (ap (word s) (sym q)) ∙ ap (λ (k : ℕ). places_in (word s (5696 + 168 * j + 40)) s k) (sym r) ∙ b.1 in
    let g = cond-rows (leb n 3 && blank s (5744 + 168 * j + 40 * n) (40 * (3 - n))) f in
    let u = built (place_row s (5744 + 168 * j)) n g.1 in
    record {
      tag = tag_shows s (list_place_at j) b.0;
      count = built_length u;
      few = leb-true n 3 (and_left (leb n 3) (blank s (5744 + 168 * j + 40 * n) (40 * (3 - n))) g.0);
      short = built_all short_place u (λ i y h. place_short s (5744 + 168 * j + 40 * i) h);
      place = λ p h. built_get_d u none p h;
    }
