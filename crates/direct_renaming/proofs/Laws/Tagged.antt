-- The model of some bytes, with another tag written into one row of a table. Assumes nothing.
use Prim.Native.Nat.{ℕ, ◌+◌, ◌*◌, ◌<◌}
use native.Mathlib.Omega.{arith}
use mathlib.Core.Path.{◌≡◌, sym, ◌∙◌}
use mathlib.Core.List.{List}
use mathlib.Core.Option.{some}
use lib.ListN.{length, get_or, set, length-set}
use Rattle.tag.specs.Tags.{Tag}
use Rattle.component.specs.declared.model_component.Component.{Component}
use Rattle.model.specs.Model.{Place, Model}
use Rattle.layout.specs.Words.{word}
use Rattle.layout.specs.Writing.{Kept}
use Rattle.layout.proofs.Kept.{word_same}
use Rattle.finding.specs.Rows.{component_at, list_place_at}
use Rattle.rows.specs.Rows.{tag_in}
use Rattle.rows.specs.Written.{Wrote}
use Rattle.rows.proofs.Laws.Local.{component_local, places_local}
use Rattle.model_bytes.specs.ModelBytes.{entry_row, list_row}
use Rattle.model_bytes.specs.Calls.{Spares}
use Rattle.model_bytes.proofs.Laws.Reading.{entry_is, list_by}
use Rattle.standing.proofs.Laws.Rows.{built_get_d}
use Rattle.direct_rows.proofs.Laws.Parts.{Whole, entry_parts, list_parts}
use Rattle.direct_rows.proofs.Laws.Found.{lists_length}
use Rattle.direct_rows.proofs.Laws.Written.{kept-within, agree_above, entry-written, entry-spares, list_written}

module _ {s v : List ℕ} {m : Model} (g : Whole s m) (u : Tag) where
  -- ---- a component

  module _ (d : Tag × Component) {i : ℕ} (h : i < word s 8) (w : Wrote (λ x. tag_in x (64 + 88 * i)) (some u) (64 + 88 * i) 40 s v) where
    within : Kept s v (component_at i) 88
    within = kept-within (component_at i) 88 w.kept (omega arith) (omega arith)

    entry : entry_row v i ≡ some (u, (get_or m.components i d).1)
    entry =
        let p = entry_parts s (64 + 88 * i) (built_get_d g.components d i h) in
        entry_is v (64 + 88 * i) w.holds (component_local (agree_above (64 + 88 * i + 40) 48 w.kept (omega arith)) ∙ p.component)

    pub entry_tagged : Whole v (record { components = set m.components i (u, (get_or m.components i d).1); lists = m.lists; default = m.default })
    entry_tagged = entry-written g i (u, (get_or m.components i d).1) h within entry

    pub entry_kept : Spares (length (set m.components i (u, (get_or m.components i d).1))) (length m.lists) s v
    entry_kept = entry-spares g i (u, (get_or m.components i d).1) h within

  -- ---- a list

  module _ (d : Tag × List Place) {j : ℕ} (h : j < word s 16) (w : Wrote (λ x. tag_in x (5696 + 168 * j)) (some u) (5696 + 168 * j) 40 s v) where
    within_list : Kept s v (list_place_at j) 168
    within_list = kept-within (list_place_at j) 168 w.kept (omega arith) (omega arith)

    list : list_row v j ≡ some (u, (get_or m.lists j d).1)
    list =
        let at = 5696 + 168 * j in
        let p = list_parts s at (built_get_d g.lists d j h) in
        list_by v at (sym (word_same (agree_above (at + 40) 8 w.kept (omega arith)))) w.holds (places_local (word s (at + 40)) (agree_above (at + 48) 120 w.kept (omega arith)) ∙ p.all)

    pub list_tagged : Whole v (record { components = m.components; lists = set m.lists j (u, (get_or m.lists j d).1); default = m.default })
    list_tagged = list_written g j (u, (get_or m.lists j d).1) h within_list list

    -- rows past any count of components, too, are as they were
    pub list-spares : {r : List ℕ} {n : ℕ} → Spares n (length m.lists) r s → Spares n (length (set m.lists j (u, (get_or m.lists j d).1))) r v
    list-spares f = record {
      size = w.kept.size ∙ f.size;
      components = λ x a b. w.kept.below x (omega arith) ∙ f.components x a b;
      lists = λ x a. w.kept.above x (omega (arith, length-set m.lists j (u, (get_or m.lists j d).1), lists_length g)) ∙ f.lists x (omega (arith, length-set m.lists j (u, (get_or m.lists j d).1)));
    }

    pub list_kept : {r : List ℕ} → Spares (length m.components) (length m.lists) r s → Spares (length m.components) (length (set m.lists j (u, (get_or m.lists j d).1))) r v
    list_kept f = list-spares f
