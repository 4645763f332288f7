-- A component added with its list. Assumes nothing.
use mathlib.Core.Path.{◌≡◌, refl, sym, ◌∙◌, ap, subst}
use mathlib.Core.Bool.{Bool, true, false, not, ◌&&◌, true≢false}
use mathlib.Core.List.{List, []}
use mathlib.Core.Option.{none}
use Prim.Native.Nat.{ℕ, ◌+◌, ◌<◌, ◌≤◌}
use native.Mathlib.Omega.{arith}
use native.Mathlib.Decide.{dec_le}
use lib.Dec.{leb}
use lib.ListN.{length}
use borrow.Author.Tests.{le-leb, lt-leb, leb-false}
use Rattle.tag.specs.declared.Tag.{Tag as Label}
use Rattle.tag.specs.Tags.{Tag, empty}
use Rattle.tag.specs.View.{bytes_of, Labelled}
use Rattle.component.specs.declared.model_component.Component.{Component}
use Rattle.model.specs.declared.implicit_model.InputList.{InputList}
use Rattle.model.specs.declared.implicit_model.Model.{Model as Record}
use Rattle.std.specs.Prelude.{Option, Some, None}
use Rattle.model.specs.Table.{find}
use Rattle.model.specs.Model.{Place}
use Rattle.model.specs.Edit.{made, check, full, lists_full, with_operation}
use Rattle.model.specs.View.{list_of, list_fits, components_of, lists_of, view}
use Rattle.held.specs.Search.{Sought}
use Rattle.held.proofs.Laws.Rows.{no_list, rows-length}
use Rattle.held.proofs.Laws.Standing.{Standing}
use Rattle.edit.specs.declared.Edited.{Edited}
use Rattle.edit.specs.Ends.{Ends, Refused}
use Rattle.edit.proofs.Laws.Step.{Step, skip, stop, finish_made}
use Rattle.edit.proofs.Laws.Stored.{over_row, more_row}
use Rattle.edit.proofs.Laws.Tests.{taken, free, missing, sought_by, found_row, is_full, has_room}
use Rattle.adding.specs.Grown.{with_more, Grew}
use Rattle.adding.proofs.Laws.Grown.{grown_stands, grown_same}
use Rattle.input_rows.specs.Inputs.{RowOf}
use Rattle.adding_operation.specs.Listed.{no_room, list_put, Placed, Listed}

-- room for one list more
pub room-more : (m : Record) (f : Option ℕ) → no_room m f ≡ false → f ≡ None → m.list_count < 128
room-more m f h e = leb-false 128 m.list_count (subst (λ (x : Option ℕ). no_room m x ≡ false) e h)

-- a list put leaves the components alone
put_count : (m : Record) (l : InputList) (f : Option ℕ) → (list_put m l f).component_count ≡ m.component_count
put_count m l (Some i) = refl
put_count m l None = refl

-- ---- each way out of `add_listed`

module _ {m : Record} {t : Label} {c : Component} {l : InputList} {d : Label} {r : Edited} where
  pub listed_15 : 64 ≤ m.component_count → Refused m 15 [] 0 r → Listed m t c l d r
  listed_15 h z = record { full = λ _. z; placed = λ k. absurd (let y : ⊥ = omega arith in y) }

  module _ (k : m.component_count < 64) {f : Option ℕ} (q : Sought (lists_of m) 128 (bytes_of t) f) where
    pub listed_16 : no_room m f ≡ true → Refused m 16 [] 0 r → Listed m t c l d r
    listed_16 h z = record {
      full = λ k'. absurd (let y : ⊥ = omega arith in y);
      placed = λ _. record { found = f; sought = q; full = λ _. z; put = λ e. absurd (true≢false (sym h ∙ e)) };
    }

    pub listed-put : no_room m f ≡ false → {w : Record} → w ≡ list_put m l f → Grew w t c d r → Listed m t c l d r
    listed-put h e z = record {
      full = λ k'. absurd (let y : ⊥ = omega arith in y);
      placed = λ _. record {
        found = f;
        sought = q;
        full = λ e'. absurd (true≢false (sym e' ∙ h));
        put = λ _. (subst (λ (x : Record). Grew x t c d r) e z).more (omega (arith, put_count m l f));
      };
    }

-- ---- what it answers

module _ (m : Record) (size : length m.lists ≡ 128) {t : Tag} where
  -- the code's test is the definition's
  full_is : (f : Option ℕ) → Sought (lists_of m) 128 t f → lists_full (view m) t ≡ no_room m f
  unfolding view
  full_is (Some i) q = ap (λ (b : Bool). not b && leb 128 (length (lists_of m))) (taken q refl)
  full_is None q = ap (λ (b : Bool). not b && leb 128 (length (lists_of m))) (free q refl) ∙ go (dec_le 128 m.list_count)
    where
      go : Dec (128 ≤ m.list_count) → leb 128 (length (lists_of m)) ≡ leb 128 m.list_count
      go (yes h) = le-leb 128 (length (lists_of m)) (omega (arith, rows-length list_of m.lists m.list_count)) ∙ sym (le-leb 128 m.list_count h)
      go (no h) = lt-leb 128 (length (lists_of m)) (omega (arith, rows-length list_of m.lists m.list_count)) ∙ sym (lt-leb 128 m.list_count (omega arith))

-- a component with its list, made
module _ (m : Record) (g : Standing m) (size : length m.components ≡ 64) (lsize : length m.lists ≡ 128) (k : m.component_count < 64)
    {t : Tag} {u : Label} (lt : Labelled t u) {a : Tag} {e : Label} (la : Labelled a e) (c : Component) (x : find t (components_of m) ≡ none)
    (ps : List Place) (row : InputList) (ro : RowOf u ps row) where
  row_is : list_of row ≡ (t, ps)
  row_is = λ j. ((ap bytes_of ro.tag ∙ lt.bytes) j, ro.places j)

  put-done : {r : Edited} (f : Option ℕ) → Sought (lists_of m) 128 t f → no_room m f ≡ false → Ends (made t) (with_more (list_put m row f) u c e) r
      → Step (record { answer = made t; model = with_operation (view m) t c ps a }) m r
  unfolding view
  put-done (Some i) q h z =
      let s = over_row list_of list_fits m.lists m.list_count t ps row row_is (ro.fits lt.short) g.once-lists g.lists i no_list
      (found_row list_of m.lists m.list_count no_list q refl) in
      finish_made z (grown_same m g size k lt la c x _ m.list_count g.few_lists s) (grown_stands m g size k lt la c x _ m.list_count g.few_lists s)
  put-done None q h z =
      let l : m.list_count < 128 = room-more m None h refl in
      let s = more_row list_of list_fits m.lists m.list_count t ps row row_is (ro.fits lt.short) g.once-lists g.lists (missing q refl) (omega arith) in
      finish_made z (grown_same m g size k lt la c x _ (m.list_count + 1) (omega arith) s) (grown_stands m g size k lt la c x _ (m.list_count + 1) (omega arith) s)

-- what `add_listed` answers, for a tag that no component has
module _ (m : Record) (g : Standing m) (size : length m.components ≡ 64) (lsize : length m.lists ≡ 128) {t : Tag} {u : Label} (lt : Labelled t u) {a : Tag} {e : Label} (la : Labelled a e)
    (c : Component) (x : find t (components_of m) ≡ none) (ps : List Place) (row : InputList) (ro : RowOf u ps row) {r : Edited} where
  placed : m.component_count < 64 → Placed m u c row e r → Step (check (view m) (lists_full (view m) t) 16 empty 0 (record { answer = made t; model = with_operation (view m) t c ps a })) m r
  placed k w = go (no_room m w.found) refl
    where
      same : lists_full (view m) t ≡ no_room m w.found
      same = full_is m lsize w.found (sought_by lt w.sought)

      go : (b : Bool) → no_room m w.found ≡ b → Step (check (view m) (lists_full (view m) t) 16 empty 0 (record { answer = made t; model = with_operation (view m) t c ps a })) m r
      go true h = stop (lists_full (view m) t) 16 empty 0 _ (same ∙ h) (w.full h)
      go false h =
          skip (lists_full (view m) t) 16 empty 0 (same ∙ h)
          (put-done m g size lsize k lt la c x ps row ro w.found (sought_by lt w.sought) h
          (subst (λ (b : Tag). Ends (made b) (with_more (list_put m row w.found) u c e) r) lt.bytes (w.put h)))

  pub listed : Listed m u c row e r
      → Step (check (view m) (full (view m)) 15 empty 0 (check (view m) (lists_full (view m) t) 16 empty 0 (record { answer = made t; model = with_operation (view m) t c ps a }))) m r
  listed w = go (dec_le 64 m.component_count)
    where
      go : Dec (64 ≤ m.component_count)
          → Step (check (view m) (full (view m)) 15 empty 0 (check (view m) (lists_full (view m) t) 16 empty 0 (record { answer = made t; model = with_operation (view m) t c ps a }))) m r
      go (yes h) = stop (full (view m)) 15 empty 0 _ (is_full m size h) (w.full h)
      go (no h) = let k : m.component_count < 64 = omega arith in skip (full (view m)) 15 empty 0 (has_room m size k) (placed k (w.placed k))
