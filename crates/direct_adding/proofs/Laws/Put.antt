-- The model in the bytes after the row of a new component is written. Assumes nothing.
use Prim.Native.Nat.{ℕ, ◌+◌, ◌*◌, ◌<◌}
use native.Mathlib.Omega.{arith}
use mathlib.Core.Path.{◌≡◌, sym, subst, ◌∙◌}
use mathlib.Core.List.{List, [], ◌∷◌, ◌++◌}
use mathlib.Core.Option.{some}
use lib.ListN.{length, length-append}
use Rattle.tag.specs.Tags.{Tag}
use Rattle.component.specs.declared.model_component.Component.{Component}
use Rattle.model.specs.Model.{Model}
use Rattle.layout.specs.Words.{word}
use Rattle.layout.specs.Writing.{Kept}
use Rattle.layout.proofs.Kept.{agree_below, word_same}
use Rattle.rows.proofs.Laws.Local.{place_local}
use Rattle.rows.proofs.Laws.Writing.{both-kept, word-stays}
use Rattle.model_bytes.specs.ModelBytes.{entry_row, list_row}
use Rattle.model_bytes.specs.Calls.{Spares}
use Rattle.model_bytes.proofs.Laws.Local.{entry_local, list_local}
use Rattle.standing.proofs.Laws.Rows.{Built}
use Rattle.direct_rows.proofs.Laws.Table.{built_same, built_more}
use Rattle.direct_rows.proofs.Laws.Parts.{Whole, whole_of}
use Rattle.direct_rows.proofs.Laws.Found.{components-length}
use Rattle.direct_rows.proofs.Laws.Written.{agree_above}
use Rattle.direct_adding.specs.Put.{More}

module _ {s u : List ℕ} {m : Model} {n : ℕ} {t : Tag} {c : Component} {d : Tag} (w : Whole s m) (e : n ≡ word s 8) (h : n < 64) (p : More n t c d s u) where
  -- the header's writes
  head : Kept p.placed u 8 56
  head = both-kept p.default p.count 8 56 (omega arith) (omega arith) (omega arith) (omega arith)

  same_size : length u ≡ length s
  same_size = head.size ∙ p.entry.kept.size

  entries : (i : ℕ) → i < n → entry_row u i ≡ entry_row s i
  entries i l = entry_local (agree_above (64 + 88 * i) 88 head (omega arith)) ∙ entry_local (agree_below (64 + 88 * i) 88 p.entry.kept (omega arith))

  entry : entry_row u n ≡ some (t, c)
  entry = entry_local (agree_above (64 + 88 * n) 88 head (omega arith)) ∙ p.entry.holds

  lists : (j : ℕ) → j < word s 16 → list_row u j ≡ list_row s j
  lists j l = list_local (agree_above (5696 + 168 * j) 168 head (omega arith)) ∙ list_local (agree_above (5696 + 168 * j) 168 p.entry.kept (omega arith))

  pub more_whole : Whole u (record { components = m.components ++ ((t, c) ∷ []); lists = m.lists; default = some d })
  more_whole =
      whole_of (same_size ∙ w.size) (word-stays 0 head (omega arith) (word-stays 0 p.entry.kept (omega arith) w.version)) p.count.holds (omega arith)
      (word_same (agree_above 16 8 p.count.kept (omega arith)) ∙ word_same (agree_below 16 8 p.default.kept (omega arith)) ∙ word_same (agree_below 16 8 p.entry.kept (omega arith))) w.few_lists
      (built_more (subst (λ (k : ℕ). Built (entry_row s) k m.components) (sym e) w.components) entries entry) (built_same w.lists lists)
      (place_local (agree_above 24 40 p.count.kept (omega arith)) ∙ p.default.holds)

  pub more-spares : Spares (length (m.components ++ ((t, c) ∷ []))) (length m.lists) s u
  more-spares =
      let l : length (m.components ++ ((t, c) ∷ [])) ≡ n + 1 = omega (arith, length-append m.components ((t, c) ∷ []), components-length w) in
      record {
        size = same_size;
        components = λ i a b. head.above i (omega arith) ∙ p.entry.kept.above i (omega arith);
        lists = λ i a. head.above i (omega arith) ∙ p.entry.kept.above i (omega arith);
      }
