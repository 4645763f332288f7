-- The row of one tag moved to another, in a table and in the lists of a model. Assumes nothing.
use mathlib.Core.Path.{◌≡◌, refl, sym, ◌∙◌, ap, subst}
use mathlib.Core.Logic.{◌≢◌}
use mathlib.Core.Bool.{Bool, true}
use mathlib.Core.List.{List, [], ◌∷◌}
use mathlib.Core.Option.{none, some}
use Prim.Native.Nat.{ℕ, ◌≤◌}
use native.Mathlib.Omega.{arith}
use lib.Dec.{T, leb}
use Rattle.std.specs.Prelude.{Option, Some, None}
use lib.ListN.{length, get_or, set, length-set}
use lib.Seq.{get_or-set_other}
use Rattle.tag.specs.declared.Tag.{Tag as Label}
use Rattle.tag.specs.Tags.{Tag}
use Rattle.tag.specs.View.{bytes_of, tag_fits}
use Rattle.tag.proofs.Laws.Is.{same?}
use Rattle.model.specs.declared.implicit_model.InputList.{InputList}
use Rattle.model.specs.declared.implicit_model.Model.{Model as Record}
use Rattle.model.specs.Table.{Table, find, cut, put, distinct, move}
use Rattle.model.specs.View.{place_of, rows, list_of, lists_of, every, place_fits, list_fits}
use Rattle.held.specs.Search.{Sought}
use Rattle.model.proofs.Laws.Bool.{true→T}
use Rattle.model.proofs.Laws.Table.{find-cut-same, find_cut_other, find-put-same, find_put_other}
use Rattle.model.proofs.Laws.Valid.{passed, unpassed}
use Rattle.model.proofs.Laws.Change.{move-none, move_new, move_old, move_other}
use Rattle.held.proofs.Laws.Rows.{no_list, rows-length, rows-set, rows_at}
use Rattle.held.proofs.Laws.Search.{RowAt}
use Rattle.held.proofs.Laws.Changes.{Becomes, move-free}
use Rattle.held.proofs.Laws.Standing.{Standing, standing, every_set}
use Rattle.edit.specs.Rows.{with_list}
use Rattle.edit.proofs.Laws.Stored.{Stored, over_row, row_fits}
use Rattle.edit.proofs.Laws.Tests.{missing, found_row}
use Rattle.removing.proofs.Laws.Taken.{less_row}
use Rattle.list_moving.specs.Moving.{ListAt, without_list, list_under, Movable, ListMoved}

-- ---- a table

module _ {A B : Type 0} (g : A → Tag × B) (ok : A → Bool) (table : List A) (n : ℕ) (t u : Tag)
    (once : T (distinct (rows g n table))) (all : T (every (rows ok n table))) where
  -- the row of t put under the free tag u
  pub retag_row : (i : ℕ) (d x : A) → RowAt g table n i t d → find u (rows g n table) ≡ none → g x ≡ (u, (g (get_or table i d)).1) → T (ok x)
      → Stored g ok (move t u (rows g n table)) n (set table i x)
  retag_row i d x at free e o =
      let same = rows_at g table n i d at.within in
      record {
        becomes = subst (λ (r : Table B). Becomes (move t u (rows g n table)) r)
            (ap (λ (y : Tag × B). set (rows g n table) i (u, y.1)) same ∙ (ap (set (rows g n table) i) (sym e) ∙ sym (rows-set g table n i x at.below)))
            (move-free (g d) (rows g n table) i t u once at.within (ap (λ (y : Tag × B). y.0) same ∙ at.tag) free);
        fits = subst (λ (bs : List Bool). T (every bs)) (sym (rows-set ok table n i x at.below)) (every_set (rows ok n table) i (ok x) all o);
      }

-- a move is u's row written and t's taken off
cut-put : {A : Type 0} (t u : Tag) (r : Table A) (a : A) → t ≢ u → find t r ≡ some a → (s : Tag) → find s (move t u r) ≡ find s (cut t (put u a r))
cut-put {A} t u r a n e s = go (same? s t) (same? s u)
  where
    go : Dec (s ≡ t) → Dec (s ≡ u) → find s (move t u r) ≡ find s (cut t (put u a r))
    go (yes p) q =
        ap (λ (x : Tag). find x (move t u r)) p ∙ (move_old t u r n e ∙ sym (ap (λ (x : Tag). find x (cut t (put u a r))) p ∙ find-cut-same t (put u a r)))
    go (no p) (yes q) =
        ap (λ (x : Tag). find x (move t u r)) q
        ∙ (move_new t u r e ∙ sym (find_cut_other s t (put u a r) p ∙ (ap (λ (x : Tag). find x (put u a r)) q ∙ find-put-same u a r)))
    go (no p) (no q) = move_other t u r s p q ∙ sym (find_cut_other s t (put u a r) p ∙ find_put_other s u a r q)

-- tables that hold the same do so without t
cut-same : {A : Type 0} (t : Tag) (w r : Table A) → ((s : Tag) → find s w ≡ find s r) → (s : Tag) → find s (cut t w) ≡ find s (cut t r)
cut-same t w r h s = go (same? s t)
  where
    go : Dec (s ≡ t) → find s (cut t w) ≡ find s (cut t r)
    go (yes p) = ap (λ (x : Tag). find x (cut t w)) p ∙ (find-cut-same t w ∙ sym (ap (λ (x : Tag). find x (cut t r)) p ∙ find-cut-same t r))
    go (no n) = find_cut_other s t w n ∙ (h s ∙ sym (find_cut_other s t r n))

-- ---- the lists of a model

under-fits : (l : InputList) (u : Label) → tag_fits u ≡ true → T (list_fits l) → T (list_fits (list_under l u))
unfolding list_fits
under-fits l u s h =
    let p = passed (tag_fits l.tag ∷ leb l.count 3 ∷ every (rows place_fits l.count l.places) ∷ []) h in
    unpassed (tag_fits u ∷ leb l.count 3 ∷ every (rows place_fits l.count l.places) ∷ []) (true→T (tag_fits u) s, p.1)

-- where a list was found one stands, after any list was overwritten
pub list_at : (m : Record) {t : Tag} {f : Option ℕ} {i : ℕ} → Sought (lists_of m) 128 t f → f ≡ Some i → (j : ℕ) (l : InputList) (k : Record) → k ≡ with_list m j l → ListAt k i
list_at m {i = i} p e j l k w =
    subst (λ (x : Record). ListAt x i) (sym w) (record { below = (found_row list_of m.lists m.list_count no_list p e).below; within = p.within i e })

module _ (m : Record) (t u : Label) (h : Movable m t u) (f : Option ℕ) (p : Sought (lists_of m) 128 (bytes_of t) f) where
  g : Standing m
  g = standing m h.passing

  pub moved_none : f ≡ None → ListMoved m (bytes_of t) (bytes_of u) m
  moved_none e = record {
    components = refl;
    count = refl;
    default = refl;
    lists = λ s. ap (find s) (move-none (bytes_of t) (bytes_of u) (lists_of m) (missing p e));
    once = g.once-lists;
    few = g.few_lists;
    fits = g.lists;
  }

  module _ (size : length m.lists ≡ 128) (i : ℕ) (e : f ≡ Some i) (l : InputList) (z : l ≡ list_under (get_or m.lists i no_list) u) (q : Option ℕ) (o : Sought (lists_of m) 128 (bytes_of u) q) where
    at : RowAt list_of m.lists m.list_count i (bytes_of t) no_list
    at = found_row list_of m.lists m.list_count no_list p e

    -- the new row holds what the old one held, under u
    row_of : list_of l ≡ (bytes_of u, rows place_of (get_or m.lists i no_list).count (get_or m.lists i no_list).places)
    row_of = ap list_of z

    new_fits : T (list_fits l)
    new_fits = subst (λ (x : InputList). T (list_fits x)) (sym z)
        (under-fits (get_or m.lists i no_list) u h.short (row_fits list_fits m.lists m.list_count i no_list g.lists at.below (omega (arith, at.below, g.few_lists))))

    pub moved-free : q ≡ None → (r : Record) → r ≡ with_list m i l → ListMoved m (bytes_of t) (bytes_of u) r
    moved-free n r w =
        let s = retag_row list_of list_fits m.lists m.list_count (bytes_of t) (bytes_of u) g.once-lists g.lists i no_list l at (missing o n) row_of new_fits in
        subst (ListMoved m (bytes_of t) (bytes_of u)) (sym w) (record {
          components = refl;
          count = refl;
          default = refl;
          lists = s.becomes.same;
          once = s.becomes.once;
          few = g.few_lists;
          fits = s.fits;
        })

    module _ (j : ℕ) (n : q ≡ Some j) (k : Record) (w : k ≡ with_list m j l) where
      few_after : k.list_count ≤ 128
      few_after = subst (λ (x : Record). x.list_count ≤ 128) (sym w) g.few_lists

      over : Stored list_of list_fits (put (bytes_of u) (rows place_of (get_or m.lists i no_list).count (get_or m.lists i no_list).places) (lists_of m)) m.list_count (set m.lists j l)
      over = over_row list_of list_fits m.lists m.list_count (bytes_of u) _ l row_of new_fits g.once-lists g.lists j no_list (found_row list_of m.lists m.list_count no_list o n)

      -- the old row still stands
      kept : get_or (set m.lists j l) i no_list ≡ get_or m.lists i no_list
      kept = get_or-set_other m.lists j i l no_list (λ x. h.apart (sym at.tag ∙ (ap (λ (y : ℕ). bytes_of (get_or m.lists y no_list).tag) x ∙ (found_row list_of m.lists m.list_count no_list o n).tag)))

      still : RowAt list_of (set m.lists j l) m.list_count i (bytes_of t) no_list
      still = record {
        within = omega (arith, rows-length list_of (set m.lists j l) m.list_count, length-set m.lists j l, at.below, g.few_lists);
        below = at.below;
        tag = ap (λ (x : InputList). bytes_of x.tag) kept ∙ at.tag;
        entry = sym (over.becomes.same (bytes_of t)) ∙ (find_put_other (bytes_of t) (bytes_of u) _ (lists_of m) h.apart
            ∙ (at.entry ∙ ap (λ (x : InputList). some (list_of x).1) (sym kept)));
      }

      pub moved-over : (r : Record) → (k.list_count ≤ 128 → r ≡ without_list k i) → ListMoved m (bytes_of t) (bytes_of u) r
      moved-over r y =
          let s = less_row list_of list_fits (set m.lists j l) m.list_count (bytes_of t) over.becomes.once over.fits i no_list still (omega (arith, length-set m.lists j l, g.few_lists)) in
          subst (ListMoved m (bytes_of t) (bytes_of u)) (sym (y few_after ∙ ap (λ (x : Record). without_list x i) w)) (record {
            components = refl;
            count = refl;
            default = refl;
            lists = λ a. cut-put (bytes_of t) (bytes_of u) (lists_of m) _ h.apart at.entry a ∙ (cut-same (bytes_of t) _ _ over.becomes.same a ∙ s.becomes.same a);
            once = s.becomes.once;
            few = omega (arith, g.few_lists);
            fits = s.fits;
          })
