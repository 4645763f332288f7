-- The model of some bytes, part by part: from the model, and back to it; and a row, part by part. Assumes nothing.
use Prim.Native.Nat.{ℕ, ◌≤◌, ◌+◌, ◌*◌, ◌-◌}
use native.Mathlib.Decide.{ℕ_discrete}
use mathlib.Core.Path.{◌≡◌, sym, ap, subst, ◌∙◌}
use mathlib.Core.Bool.{Bool, true, cond, ◌&&◌}
use mathlib.Core.List.{List}
use mathlib.Core.Option.{Option, none, some}
use lib.ListN.{length}
use borrow.Author.Tests.{le-leb, leb-true}
use Rattle.component.specs.declared.model_component.Component.{Component}
use Rattle.model.specs.Table.{Table}
use Rattle.model.specs.Model.{Place, Model}
use Rattle.model.proofs.Laws.Valid.{none_some}
use Rattle.layout.specs.Words.{word}
use Rattle.rows.specs.Rows.{place_in, rows_in, blank, tag_in, component_in, place_row, places_in}
use Rattle.model_bytes.specs.ModelBytes.{headed, entry_row, list_row, joined, model_in, entry_in, list_in}
use Rattle.model_bytes.proofs.Laws.Decoding.{headed_other, headed_is, none-headed}
use Rattle.standing.proofs.Laws.Rows.{Built}
use Rattle.standing.proofs.Laws.Model.{parts, both_some, cond-rows}
use Rattle.direct_rows.proofs.Laws.Table.{built_rows}
use lib.Dec.{leb}
use Rattle.tag.specs.Tags.{Tag}
use Rattle.rows.proofs.Laws.Tests.{and_left, and_right}

-- all that model_in reads of bytes that hold m
pub record Whole (s : List ℕ) (m : Model) : Type 0 where
  pub size : length s ≡ 27200
  pub version : word s 0 ≡ 1
  pub few : word s 8 ≤ 64
  pub few_lists : word s 16 ≤ 128
  pub components : Built (entry_row s) (word s 8) m.components
  pub lists : Built (list_row s) (word s 16) m.lists
  pub default : place_in s 24 ≡ some m.default

module _ {s : List ℕ} {m : Model} where
  pub whole : model_in s ≡ some m → Whole s m
  whole e =
      let p = parts s e in
      record { size = p.head.size; version = go (ℕ_discrete (word s 0) 1); few = p.head.components; few_lists = p.head.lists; components = p.components; lists = p.lists; default = p.default }
    where
      go : Dec (word s 0 ≡ 1) → word s 0 ≡ 1
      go (yes v) = v
      go (no v) = none_some (sym (none-headed s (headed_other s v)) ∙ e)

  pub whole_model : Whole s m → model_in s ≡ some m
  unfolding model_in
  whole_model w =
      let h : headed s ≡ true = headed_is s w.size w.version w.few ∙ le-leb (word s 16) 128 w.few_lists in
      ap (λ (b : Bool). cond b (joined (rows_in (entry_row s) (word s 8)) (rows_in (list_row s) (word s 16)) (place_in s 24)) none) h
      ∙ ap (λ (o : Option (Table Component)). joined o (rows_in (list_row s) (word s 16)) (place_in s 24)) (built_rows w.components)
      ∙ ap (λ (o : Option (Table (List Place))). joined (some m.components) o (place_in s 24)) (built_rows w.lists)
      ∙ ap (joined (some m.components) (some m.lists)) w.default

-- of bytes whose counts are known
pub whole_of : {s : List ℕ} {n k : ℕ} {cs : Table Component} {ls : Table (List Place)} {d : Place} → length s ≡ 27200 → word s 0 ≡ 1 → word s 8 ≡ n → n ≤ 64 → word s 16 ≡ k → k ≤ 128
    → Built (entry_row s) n cs → Built (list_row s) k ls → place_in s 24 ≡ some d → Whole s (record { components = cs; lists = ls; default = d })
whole_of {s} {cs = cs} {ls = ls} size version e few f few_lists c l d = record {
  size = size;
  version = version;
  few = subst (λ (i : ℕ). i ≤ 64) (sym e) few;
  few_lists = subst (λ (i : ℕ). i ≤ 128) (sym f) few_lists;
  components = subst (λ (i : ℕ). Built (entry_row s) i cs) (sym e) c;
  lists = subst (λ (i : ℕ). Built (list_row s) i ls) (sym f) l;
  default = d;
}

-- ---- what a row is made of

-- a row of the components
pub record EntryParts (s : List ℕ) (at : ℕ) (x : Tag × Component) : Type 0 where
  pub tag : tag_in s at ≡ some x.0
  pub component : component_in s (at + 40) ≡ some x.1

pub entry_parts : (s : List ℕ) (at : ℕ) {x : Tag × Component} → entry_in s at ≡ some x → EntryParts s at x
unfolding entry_in
entry_parts s at {x} e = let b = both_some (tag_in s at) (component_in s (at + 40)) {x = x} e in record { tag = b.0; component = b.1 }

-- a row of the lists
pub record ListParts (s : List ℕ) (at : ℕ) (x : Tag × List Place) : Type 0 where
  pub tag : tag_in s at ≡ some x.0
  pub all : places_in (word s (at + 40)) s (at + 48) ≡ some x.1
  pub few : word s (at + 40) ≤ 3
  pub clean : blank s (at + 48 + 40 * word s (at + 40)) (40 * (3 - word s (at + 40))) ≡ true
  pub places : rows_in (place_row s (at + 48)) (word s (at + 40)) ≡ some x.1

pub list_parts : (s : List ℕ) (at : ℕ) {x : Tag × List Place} → list_in s at ≡ some x → ListParts s at x
unfolding list_in places_in
list_parts s at {x} e =
    let n = word s (at + 40) in
    let z = blank s (at + 48 + 40 * n) (40 * (3 - n)) in
    let b = both_some (tag_in s at) (places_in n s (at + 48)) {x = x} e in
    let g = cond-rows (leb n 3 && z) {o = rows_in (place_row s (at + 48)) n} b.1 in
    record { tag = b.0; all = b.1; few = leb-true n 3 (and_left (leb n 3) z g.0); clean = and_right (leb n 3) z g.0; places = g.1 }
