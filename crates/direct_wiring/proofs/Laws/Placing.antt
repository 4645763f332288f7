-- One place of a list written in the bytes: the model that they then hold. Assumes nothing.
use Prim.Native.Nat.{ℕ, ◌+◌, ◌*◌, ◌-◌, ◌≤◌, ◌<◌}
use native.Mathlib.Omega.{arith}
use mathlib.Core.Path.{◌≡◌, sym, ap, subst, ◌∙◌}
use mathlib.Core.Bool.{Bool, true, ◌&&◌, cond}
use mathlib.Core.List.{List, []}
use mathlib.Core.Option.{none, some}
use lib.Dec.{T, leb}
use lib.ListN.{length, get_or, set}
use borrow.Author.Tests.{leb-true}
use Rattle.tag.specs.Tags.{Tag}
use Rattle.component.specs.declared.model_component.Component.{Component}
use Rattle.model.specs.Table.{Table, distinct}
use Rattle.model.specs.Model.{Place, Model, list, valid}
use Rattle.model.specs.Edit.{Edit, Outcome, done, edit, with_list}
use Rattle.model.proofs.Laws.Valid.{good}
use Rattle.held.proofs.Laws.Changes.{Becomes, becomes_refl, overwritten}
use Rattle.layout.specs.Words.{word}
use Rattle.layout.specs.Writing.{Kept}
use Rattle.layout.proofs.Kept.{agree_below, word_same}
use Rattle.rows.specs.Rows.{blank, place_in, rows_in, place_row, places_in}
use Rattle.rows.specs.Written.{Wrote}
use Rattle.rows.proofs.Laws.Local.{blank_local, tag_local, place_local}
use Rattle.rows.proofs.Laws.Tests.{and_left}
use Rattle.model_bytes.specs.ModelBytes.{list_row, model_in}
use Rattle.model_bytes.proofs.Laws.Reading.{list_by}
use Rattle.finding.specs.Rows.{list_place_at}
use Rattle.standing.proofs.Laws.Rows.{built, built_get_d}
use Rattle.standing.proofs.Laws.Model.{cond-rows, Row}
use Rattle.direct_rows.specs.Took.{Took}
use Rattle.direct_rows.proofs.Laws.Table.{built_rows, built_set}
use Rattle.direct_rows.proofs.Laws.Parts.{Whole, whole, list_parts}
use Rattle.direct_rows.proofs.Laws.Found.{list_at, list-found, list_held, lists_length}
use Rattle.direct_rows.proofs.Laws.Took.{applied, took}
use Rattle.direct_rows.proofs.Laws.Written.{kept-within, agree_above, agree_other, list_written, list-spares}
use Rattle.direct_wiring.specs.Placing.{PlacedIn}

-- the places at `at`, of which the one at p is written
module _ {s t : List ℕ} (at n p : ℕ) {l : List Place} (q : Place) (h : p < n) (w : Wrote (λ u. place_in u (at + 40 * p)) (some q) (at + 40 * p) 40 s t) where
  places-put : places_in n s at ≡ some l → places_in n t at ≡ some (set l p q)
  unfolding places_in
  places-put e =
      let c = cond-rows (leb n 3 && blank s (at + 40 * n) (40 * (3 - n))) {o = rows_in (place_row s at) n} e in
      let few : n ≤ 3 = leb-true n 3 (and_left (leb n 3) (blank s (at + 40 * n) (40 * (3 - n))) c.0) in
      let clean : blank t (at + 40 * n) (40 * (3 - n)) ≡ blank s (at + 40 * n) (40 * (3 - n)) = blank_local (40 * (3 - n)) (agree_above (at + 40 * n) (40 * (3 - n)) w.kept (omega arith)) in
      let same : (leb n 3 && blank t (at + 40 * n) (40 * (3 - n))) ≡ true = ap (λ (b : Bool). leb n 3 && b) clean ∙ c.0 in
      let there = built_set (built (place_row s at) n c.1) p q h w.holds (λ k m o. place_local (agree_other (λ k. at + 40 * k) 40 p w.kept k (λ a. omega arith) (λ a. omega arith) o)) in
      ap (λ (b : Bool). cond b (rows_in (place_row t at) n) none) same ∙ built_rows there

-- a row of the lists, of which the place p is written
list_put : {s t : List ℕ} (j p : ℕ) {x : Tag × List Place} (q : Place) → p < word s (5736 + 168 * j) → list_row s j ≡ some x
    → Wrote (λ u. place_in u (5744 + 168 * j + 40 * p)) (some q) (5744 + 168 * j + 40 * p) 40 s t → list_row t j ≡ some (x.0, set x.1 p q)
list_put {s} {t} j p q h e w =
    let at = 5696 + 168 * j in
    let count : at + 40 ≡ 5736 + 168 * j = omega arith in
    let first : 5744 + 168 * j ≡ at + 48 = omega arith in
    let parts = list_parts s at e in
    let v = subst (λ (a : ℕ). Wrote (λ u. place_in u (a + 40 * p)) (some q) (a + 40 * p) 40 s t) first w in
    list_by t at (sym (word_same (agree_below (at + 40) 8 w.kept (omega arith)))) (tag_local (agree_below at 40 w.kept (omega arith)) ∙ parts.tag)
    (places-put (at + 48) (word s (at + 40)) p q (subst (λ (a : ℕ). p < word s a) (sym count) h) v parts.all)

-- any list
abbrev nothing : Tag × List Place
nothing = ([], [])

-- ---- the list of a tag

module _ {s : List ℕ} {m : Model} (is : model_in s ≡ some m) (sound : T (valid m)) {tag : Tag} {p : ℕ} {q : Place} {t : List ℕ} (k : PlacedIn tag p q s t) where
  w : Whole s m
  w = whole is

  once : T (distinct m.lists)
  once = (good m sound).once-lists

  at : (k.row < word s 16) × ((get_or m.lists k.row nothing).0 ≡ tag)
  at = list-found w nothing k.sought

  abbrev pub places : List Place
  places = (get_or m.lists k.row nothing).1

  shows : Row s k.row (get_or m.lists k.row nothing)
  shows = list_at w nothing k.row at.0

  pub list_there : list m tag ≡ some places
  list_there = list_held w nothing once k.sought

  pub place_there : p < length places
  place_there = omega (arith, shows.count, k.within)

  wrote : Wrote (λ u. place_in u (5744 + 168 * k.row + 40 * p)) (some q) (5744 + 168 * k.row + 40 * p) 40 s t
  wrote = k.put.wrote w.size (omega (arith, at.0, w.few_lists)) (omega (arith, shows.few, k.within))

  kept : Kept s t (list_place_at k.row) 168
  kept = kept-within (list_place_at k.row) 168 wrote.kept (omega arith) (omega (arith, shows.few, k.within))

  there : Whole t (record { components = m.components; lists = set m.lists k.row (tag, set places p q); default = m.default })
  there = list_written w k.row (tag, set places p q) at.0 kept
      (list_put k.row p q k.within (built_get_d w.lists nothing k.row at.0) wrote ∙ ap (λ (a : Tag). some (a, set places p q)) at.1)

  pub place-put : (e : Edit) → edit e m ≡ record { answer = done; model = with_list m tag (set places p q) } → Took e done s t
  place-put e same =
      let result = applied e m sound ∙ same in
      took e is sound (ap (λ (o : Outcome). o.answer) result) there
      (subst (λ (r : Table Component). Becomes r m.components) (sym (ap (λ (o : Outcome). o.model.components) result)) (becomes_refl (good m sound).once))
      (subst (λ (r : Table (List Place)). Becomes r (set m.lists k.row (tag, set places p q))) (sym (ap (λ (o : Outcome). o.model.lists) result))
      (overwritten nothing m.lists k.row tag (set places p q) once (omega (arith, at.0, lists_length w)) at.1))
      (ap (λ (o : Outcome). o.model.default) result)
      (list-spares w k.row (tag, set places p q) at.0 kept)
