-- The model in the bytes after the list of a new operation is written. Assumes nothing.
use Rattle.std.specs.Prelude.{Some}
use Prim.Native.Nat.{ℕ, ◌+◌, ◌*◌, ◌≤◌, ◌<◌}
use native.Mathlib.Omega.{arith}
use native.Mathlib.Decide.{dec_lt}
use mathlib.Core.Path.{◌≡◌, sym, subst, ◌∙◌}
use mathlib.Core.Logic.{◌≢◌, inl, inr}
use mathlib.Core.List.{List, [], ◌∷◌, ◌++◌}
use mathlib.Core.Option.{none}
use lib.Dec.{T}
use lib.ListN.{length, get_or, set, length-append, length-set}
use Rattle.tag.specs.Tags.{Tag}
use Rattle.model.specs.Table.{Table, find, put, distinct}
use Rattle.model.specs.Model.{Place, Model}
use Rattle.held.proofs.Laws.Changes.{Becomes, appended, overwritten}
use Rattle.layout.specs.Words.{word}
use Rattle.layout.proofs.Kept.{agree_below, word_same}
use Rattle.rows.specs.Written.{Wrote}
use Rattle.rows.proofs.Laws.Local.{place_local}
use Rattle.model_bytes.specs.ModelBytes.{entry_row, list_row}
use Rattle.model_bytes.specs.Calls.{Spares}
use Rattle.model_bytes.proofs.Laws.Local.{entry_local, list_local}
use Rattle.standing.proofs.Laws.Rows.{Built}
use Rattle.direct_rows.proofs.Laws.Table.{built_same, built_set, built_more}
use Rattle.direct_rows.proofs.Laws.Parts.{Whole, whole_of}
use Rattle.direct_rows.proofs.Laws.Found.{lists_length, list-found, list-missing}
use Rattle.direct_rows.proofs.Laws.Written.{agree_above}
use Rattle.direct_operation.specs.Put.{ListWrote, RowPut, RowFor}

-- the model with the list ps under t, at whatever position
pub record ListPut (m : Model) (t : Tag) (ps : List Place) (s u : List ℕ) : Type 0 where
  pub lists : Table (List Place)
  pub whole : Whole u (record { components = m.components; lists = lists; default = m.default })
  pub becomes : Becomes (put t ps m.lists) lists
  pub spares : Spares (length m.components) (length lists) s u
  pub count : word u 8 ≡ word s 8

module _ {s v : List ℕ} {m : Model} (j : ℕ) {t : Tag} {ps : List Place} (w : Whole s m) (p : ListWrote j t ps s v) where
  -- rows but the one written
  rows-kept : (i : ℕ) → i ≢ j → list_row v i ≡ list_row s i
  rows-kept i n = go (dec_lt i j)
    where
      go : Dec (i < j) → list_row v i ≡ list_row s i
      go (yes l) = list_local (agree_below (5696 + 168 * i) 168 p.kept (omega arith))
      go (no l) = list_local (agree_above (5696 + 168 * i) 168 p.kept (omega (arith, n)))

  components-kept : (i : ℕ) → i < word s 8 → entry_row v i ≡ entry_row s i
  components-kept i l = entry_local (agree_below (64 + 88 * i) 88 p.kept (omega (arith, w.few)))

  at_word : (i : ℕ) → i ≤ 16 → word v i ≡ word s i
  at_word i h = word_same (agree_below i 8 p.kept (omega arith))

  -- over the row of its own tag
  over-put : (d : Tag × List Place) → T (distinct m.lists) → j < word s 16 → (get_or m.lists j d).0 ≡ t → ListPut m t ps s v
  over-put d h l e = record {
    lists = set m.lists j (t, ps);
    whole = whole_of (p.kept.size ∙ w.size) (at_word 0 (omega arith) ∙ w.version) (at_word 8 (omega arith)) w.few (at_word 16 (omega arith)) w.few_lists (built_same w.components components-kept)
        (built_set w.lists j (t, ps) l p.holds (λ i a n. rows-kept i n)) (place_local (agree_below 24 40 p.kept (omega arith)) ∙ w.default);
    becomes = overwritten d m.lists j t ps h (omega (arith, lists_length w)) e;
    spares = record {
      size = p.kept.size;
      components = λ i a b. p.kept.below i (omega arith);
      lists = λ i a. p.kept.above i (omega (arith, lists_length w, length-set m.lists j (t, ps)));
    };
    count = at_word 8 (omega arith);
  }

  -- after the others
  more-put : {u : List ℕ} → Wrote (λ x. word x 16) (j + 1) 16 8 v u → T (distinct m.lists) → j ≡ word s 16 → j < 128 → find t m.lists ≡ none → ListPut m t ps s u
  more-put {u} q h e l f =
      let eight : word u 8 ≡ word s 8 = word_same (agree_below 8 8 q.kept (omega arith)) ∙ at_word 8 (omega arith) in
      record {
        lists = m.lists ++ ((t, ps) ∷ []);
        whole = whole_of (q.kept.size ∙ p.kept.size ∙ w.size) (word_same (agree_below 0 8 q.kept (omega arith)) ∙ at_word 0 (omega arith) ∙ w.version) eight w.few q.holds (omega arith)
            (built_same w.components (λ i a. entry_local (agree_above (64 + 88 * i) 88 q.kept (omega arith)) ∙ components-kept i a))
            (built_more (subst (λ (k : ℕ). Built (list_row s) k m.lists) (sym e) w.lists)
            (λ i a. list_local (agree_above (5696 + 168 * i) 168 q.kept (omega arith)) ∙ rows-kept i (λ z. let y : ⊥ = omega arith in y))
            (list_local (agree_above (5696 + 168 * j) 168 q.kept (omega arith)) ∙ p.holds))
            (place_local (agree_above 24 40 q.kept (omega arith)) ∙ place_local (agree_below 24 40 p.kept (omega arith)) ∙ w.default);
        becomes = appended t ps m.lists f h;
        spares = record {
          size = q.kept.size ∙ p.kept.size;
          components = λ i a b. q.kept.above i (omega arith) ∙ p.kept.below i (omega arith);
          lists = λ i a. q.kept.above i (omega arith) ∙ p.kept.above i (omega (arith, lists_length w, length-append m.lists ((t, ps) ∷ [])));
        };
        count = eight;
      }

-- in the row that was chosen for it
pub list_put : {s u : List ℕ} {m : Model} {j : ℕ} {t : Tag} {ps : List Place} → Whole s m → T (distinct m.lists) → RowFor s t (Some j) → RowPut j t ps s u → ListPut m t ps s u
list_put {j = j} w h (inl f) p =
    let q = list-found w ([], []) f in
    over-put j w (p.over q.0) ([], []) h q.0 q.1
list_put {s} {j = j} w h (inr (f, (c, l))) p =
    let e : j ≡ word s 16 = omega (arith, c, w.few_lists) in
    let q = p.more (omega (arith, e)) in
    more-put j w q.1 q.2 h e l (list-missing w f)
