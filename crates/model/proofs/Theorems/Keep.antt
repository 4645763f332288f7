-- Every edit keeps 7: on a model that 7 lets pass it leaves one that 7 lets pass, whatever it answers. Assumes nothing.
use Rattle.std.specs.Prelude.{Ok, Err}
use mathlib.Core.Path.{◌≡◌, refl, sym, ◌∙◌, ap, subst}
use mathlib.Core.Logic.{◌⊎◌, inl, inr, ◌≢◌}
use mathlib.Core.Bool.{Bool, true, false, not, ◌&&◌, cond}
use mathlib.Core.List.{List, map}
use mathlib.Core.Option.{Option, none, some}
use Prim.Native.Nat.{ℕ, ◌≤◌, ◌<◌}
use native.Mathlib.Omega.{arith}
use lib.Dec.{T, leb, eqb, eqb→eq, eqb_refl, leb→le, nleb→lt}
use lib.ListN.{length, take, set, replicate, length-set, length-map, length-replicate}
use lib.Seq.{take_all}
use Rattle.tag.specs.Tags.{Tag, is, overlong}
use Rattle.tag.proofs.Laws.Is.{is_refl, same?}
use Rattle.component.specs.Value.{input_count}
use Rattle.component.specs.Kind.{is_function, is_operation}
use Rattle.component.specs.Parameter.{Name, set_parameter as parameterSet, Setting}
use Rattle.component.specs.declared.parameter.Data.{Data}
use Rattle.component.specs.declared.parameter.ParameterError.TheVariants.{DoesNotFit, TooNear}
use Rattle.component.specs.declared.model_component.Component.{Component}
use Rattle.component.specs.declared.model_component.Component.TheVariants.{Constant}
use Rattle.component.proofs.Theorems.Setting.{same_count}
use Rattle.component.proofs.Theorems.Count.{count_few, function_none}
use Rattle.model.specs.Table.{all, any, Table, find, held, cut, put, each, move}
use Rattle.model.specs.Model.{Place, Model, component, list, short_place, good_list, counted, named, valid}
use Rattle.model.specs.Walk.{Walked, clear, met, gapped, walk_from}
use Rattle.model.specs.Edit.{Edit, add_operation, add_constant, add_function, add_component, add_input, remove_input, remove_component, rename_component, set_parameter, done, Outcome, refuse, check, with_component, with_operation, full, lists_full, add_plain, looked_at, new_places, add_op, free_tag, add_under, add_free, add_any, with_list, walked, wire_in, add_wire, unwire_in, remove_wire, swap, without, remove, renamed, rename, settle, set_in, set_at, edit, apply}
use Rattle.model.proofs.Laws.Bool.{T→true, true→T, not_false}
use Rattle.model.proofs.Laws.Table.{find_cut_other, find-put-same, find_put_other, held-false, held-true, find-each}
use Rattle.model.proofs.Laws.Valid.{Found, none_some, found-held, held-put, cut-distinct, put-distinct, each-distinct, cut_le, length-each, length-put, length-put-found, Good, good, good_valid, named_by}
use Rattle.model.proofs.Laws.Change.{put_all, cut-find, found-put, each-find, move_new, move_old, move_other, move-find, move-length, move-distinct}
use Rattle.model.proofs.Laws.Places.{false_not, or_false, short-set, short-map, short_none, short_some, good_short, good_resized, good_new, counted-zero, counted-any, counted_some, counted_resized, counted-map}
use Rattle.model.proofs.Laws.Numbered.{free_or_held}

-- ---- the default still names a component

-- two tags of which a test fails differ
is_no : (s u : Tag) → is s u ≡ false → s ≢ u
is_no s u q x = true→T false (sym q ∙ (ap (λ (y : Tag). is y u) x ∙ is_refl u))

named-cut : (u : Tag) (cs : Table Component) (d : Option Tag) → T (named cs d) → T (named (cut u cs) (swap u none d))
unfolding swap
named-cut u cs none h = tt
named-cut u cs (some s) h = pick (is s u) refl
  where
    pick : (b : Bool) → is s u ≡ b → T (named (cut u cs) (cond b none (some s)))
    pick true q = tt
    pick false q = let f = held-true s cs (T→true (held s cs) h) in found-held s (cut u cs) (f.0, find_cut_other s u cs (is_no s u q) ∙ f.1)

named-move : (t u : Tag) (cs : Table Component) (d : Option Tag) → Found t cs → find u cs ≡ none → T (named cs d) → T (named (move t u cs) (swap t (some u) d))
unfolding swap
named-move t u cs none f n h = tt
named-move t u cs (some s) f n h = pick (is s t) refl
  where
    pick : (b : Bool) → is s t ≡ b → T (named (move t u cs) (cond b (some u) (some s)))
    pick true q = found-held u (move t u cs) (f.0, move_new t u cs f.1)
    pick false q =
        let k = held-true s cs (T→true (held s cs) h) in
        found-held s (move t u cs) (k.0, move_other t u cs s (is_no s t q) (λ x. none_some (sym n ∙ (ap (λ (y : Tag). find y cs) (sym x) ∙ k.1))) ∙ k.1)

-- ---- the models that edits make

-- the list l has c's count
abbrev Counts : Component → Option (List Place) → Type 0
Counts c l = T (counted (input_count c) l)

-- the places that name s changed to p
places_swapped : (s : Tag) (p : Place) → T (short_place p) → (r : Table (List Place)) → ((t : Tag) (l : List Place) → find t r ≡ some l → T (good_list (t, l)))
    → (t : Tag) (l : List Place) → find t (each (map (swap s p)) r) ≡ some l → T (good_list (t, l))
places_swapped s p h r q t l e =
    let x = each-find (map (swap s p)) t r e in
    subst (λ (k : List Place). T (good_list (t, k))) x.2
    (good_resized t x.0 (map (swap s p) x.0) (length-map x.0 (swap s p)) (q t x.0 x.1)
    (short-map s p x.0 h (good_short t x.0 (q t x.0 x.1))))

module _ {m : Model} (g : Good m) where
  good_plain : (u : Tag) (c : Component) (d : Tag) → T (not (overlong u)) → length m.components < 64 → input_count c ≡ 0
      → T (held d (put u c m.components)) → Good (with_component m u c d)
  good_plain u c d s n z h = record {
    few = omega (arith, length-put u c m.components);
    few_lists = g.few_lists;
    once = put-distinct u c m.components g.once;
    once-lists = g.once-lists;
    short = put_all (λ t b. T (not (overlong t))) u c m.components s (λ t b k e. g.short t b e);
    short-lists = g.short-lists;
    places = g.places;
    counts = put_all (λ t b. Counts b (list m t)) u c m.components (counted-zero (input_count c) (list m u) z) (λ t b k e. g.counts t b e);
    names = h;
  }

  good_operation : (u : Tag) (c : Component) (l : List Place) (d : Tag) → T (not (overlong u)) → length m.components < 64
      → lists_full m u ≡ false → T (good_list (u, l)) → T (eqb (length l) (input_count c)) → T (held d (put u c m.components))
      → Good (with_operation m u c l d)
  good_operation u c l d s n r gl q h = record {
    few = omega (arith, length-put u c m.components);
    few_lists = room (held u m.lists) refl r;
    once = put-distinct u c m.components g.once;
    once-lists = put-distinct u l m.lists g.once-lists;
    short = put_all (λ t b. T (not (overlong t))) u c m.components s (λ t b k e. g.short t b e);
    short-lists = put_all (λ t b. T (not (overlong t))) u l m.lists s (λ t b k e. g.short-lists t b e);
    places = put_all (λ t b. T (good_list (t, b))) u l m.lists gl (λ t b k e. g.places t b e);
    counts = put_all (λ t b. Counts b (find t (put u l m.lists))) u c m.components
        (subst (Counts c) (sym (find-put-same u l m.lists)) (counted_some (input_count c) l q))
        (λ t b k e. subst (Counts b) (sym (find_put_other t u l m.lists k)) (g.counts t b e));
    names = h;
  }
    where
      room : (b : Bool) → held u m.lists ≡ b → (not b && leb 128 (length m.lists)) ≡ false → length (put u l m.lists) ≤ 128
      room true q r = omega (arith, length-put-found u l m.lists (held-true u m.lists q), g.few_lists)
      room false q r = omega (arith, length-put u l m.lists, nleb→lt 128 (length m.lists) (false_not _ r))

  -- a list changed to one as long
  good_places : (u : Tag) (l k : List Place) → list m u ≡ some l → length k ≡ length l → T (all short_place k) → Good (with_list m u k)
  good_places u l k f e s = record {
    few = g.few;
    few_lists = omega (arith, length-put-found u k m.lists (l, f), g.few_lists);
    once = g.once;
    once-lists = put-distinct u k m.lists g.once-lists;
    short = g.short;
    short-lists = put_all (λ t b. T (not (overlong t))) u k m.lists (g.short-lists u l f) (λ t b n e. g.short-lists t b e);
    places = put_all (λ t b. T (good_list (t, b))) u k m.lists (good_resized u l k e (g.places u l f) s) (λ t b n e. g.places t b e);
    counts = λ t c q. go t c q (same? t u);
    names = g.names;
  }
    where
      go : (t : Tag) (c : Component) → component m t ≡ some c → Dec (t ≡ u) → Counts c (find t (put u k m.lists))
      go t c q (yes r) = subst (Counts c) (sym (ap (λ (x : Tag). find x (put u k m.lists)) r ∙ find-put-same u k m.lists))
          (counted_resized (input_count c) l k e (subst (Counts c) (ap (list m) r ∙ f) (g.counts t c q)))
      go t c q (no r) = subst (Counts c) (sym (find_put_other t u k m.lists r)) (g.counts t c q)

  -- a component changed to one of its count
  good_set : (u : Tag) (c k : Component) → component m u ≡ some c → input_count k ≡ input_count c
      → Good (record { components = put u k m.components; lists = m.lists; default = m.default })
  good_set u c k f h = record {
    few = omega (arith, length-put-found u k m.components (c, f), g.few);
    few_lists = g.few_lists;
    once = put-distinct u k m.components g.once;
    once-lists = g.once-lists;
    short = put_all (λ t b. T (not (overlong t))) u k m.components (g.short u c f) (λ t b n e. g.short t b e);
    short-lists = g.short-lists;
    places = g.places;
    counts = put_all (λ t b. Counts b (list m t)) u k m.components
        (subst (λ (n : ℕ). T (counted n (list m u))) (sym h) (g.counts u c f)) (λ t b n e. g.counts t b e);
    names = named_by m.components (put u k m.components) m.default (λ t x. found-put t u k m.components x) g.names;
  }

  good_without : (u : Tag) → Good (without m u)
  good_without u = record {
    few = omega (arith, cut_le u m.components, g.few);
    few_lists = subst (λ (n : ℕ). n ≤ 128) (sym (length-each (map (swap u none)) m.lists)) g.few_lists;
    once = cut-distinct u m.components g.once;
    once-lists = each-distinct (map (swap u none)) m.lists g.once-lists;
    short = λ t c e. g.short t c (cut-find t u m.components e).1;
    short-lists = λ t l e. let x = each-find (map (swap u none)) t m.lists e in g.short-lists t x.0 x.1;
    places = places_swapped u none tt m.lists g.places;
    counts = λ t c e. subst (Counts c) (sym (find-each (map (swap u none)) t m.lists))
        (counted-map (input_count c) (swap u none) (list m t) (g.counts t c (cut-find t u m.components e).1));
    names = named-cut u m.components m.default g.names;
  }

  good_renamed : (t u : Tag) → Found t m.components → component m u ≡ none → T (not (overlong u)) → Good (renamed m t u)
  good_renamed t u f n s = record {
    few = omega (arith, move-length t u m.components, g.few);
    few_lists = omega (arith, length-each (map (swap t (some u))) (move t u m.lists), move-length t u m.lists, g.few_lists);
    once = move-distinct t u m.components g.once;
    once-lists = each-distinct (map (swap t (some u))) (move t u m.lists) (move-distinct t u m.lists g.once-lists);
    short = λ x c e. short_of x m.components g.short (move-find t u m.components e);
    short-lists = λ x l e. let k = each-find (map (swap t (some u))) x (move t u m.lists) e in
        short_of x m.lists g.short-lists (move-find t u m.lists k.1);
    places = places_swapped t (some u) s (move t u m.lists) (λ x l e. places_of x l (move-find t u m.lists e));
    counts = λ x c e. subst (Counts c) (sym (find-each (map (swap t (some u))) x (move t u m.lists)))
        (counted-map (input_count c) (swap t (some u)) (find x (move t u m.lists)) (counts_of x c e (same? x u)));
    names = named-move t u m.components m.default f n g.names;
  }
    where
      differ : t ≢ u
      differ q = none_some (sym n ∙ (ap (component m) (sym q) ∙ f.1))

      short_of : {B : Type 0} (x : Tag) (r : Table B) {b : B} → ((y : Tag) (b : B) → find y r ≡ some b → T (not (overlong y)))
          → ((x ≡ u) × (find t r ≡ some b)) ⊎ (find x r ≡ some b) → T (not (overlong x))
      short_of x r h (inl q) = subst (λ (y : Tag). T (not (overlong y))) (sym q.0) s
      short_of x r {b} h (inr q) = h x b q

      places_of : (x : Tag) (l : List Place) → ((x ≡ u) × (list m t ≡ some l)) ⊎ (list m x ≡ some l) → T (good_list (x, l))
      places_of x l (inl q) = g.places t l q.1
      places_of x l (inr q) = g.places x l q

      counts_of : (x : Tag) (c : Component) → find x (move t u m.components) ≡ some c → Dec (x ≡ u) → Counts c (find x (move t u m.lists))
      counts_of x c e (yes q) =
          let k : component m t ≡ some c = f.1 ∙ (sym (move_new t u m.components f.1) ∙ (ap (λ (y : Tag). find y (move t u m.components)) (sym q) ∙ e)) in
          under (list m t) refl (g.counts t c k)
        where
          under : (l : Option (List Place)) → list m t ≡ l → Counts c (list m t) → Counts c (find x (move t u m.lists))
          under none k h = counted-any (input_count c) _ (subst (Counts c) k h)
          under (some l) k h = subst (Counts c) (k ∙ (sym (move_new t u m.lists k) ∙ ap (λ (y : Tag). find y (move t u m.lists)) (sym q))) h
      counts_of x c e (no q) = other (same? x t)
        where
          other : Dec (x ≡ t) → Counts c (find x (move t u m.lists))
          other (yes k) = none_some (sym (move_old t u m.components differ f.1) ∙ (ap (λ (y : Tag). find y (move t u m.components)) (sym k) ∙ e))
          other (no k) = subst (Counts c) (sym (move_other t u m.lists x k q)) (g.counts x c (sym (move_other t u m.components x k q) ∙ e))

-- ---- the edits, check by check

record Fit (o : Outcome) : Type 0 where
  fit : Good o.model

fit_check : {m : Model} {o : Outcome} (b : Bool) (n : ℕ) (t : Tag) (i : ℕ) → Good m → (b ≡ false → Fit o) → Fit (check m b n t i o)
unfolding check
fit_check {m} {o} b n t i g k = go b k
  where
    go : (b : Bool) → (b ≡ false → Fit o) → Fit (cond b (refuse m n t i) o)
    go true k = record { fit = g }
    go false k = k refl

fit_if : {o p : Outcome} (b : Bool) → (b ≡ true → Fit o) → (b ≡ false → Fit p) → Fit (cond b o p)
fit_if true h k = h refl
fit_if false h k = k refl

fit_refuse : {m : Model} {n : ℕ} {t : Tag} {i : ℕ} → Good m → Fit (refuse m n t i)
fit_refuse g = record { fit = g }

-- what takes no inputs
plain-none : (c : Component) → is_operation c ≡ false → input_count c ≡ 0
plain-none c e = let h = nleb→lt 1 (input_count c) (false_not _ e) in omega arith

room_of : (m : Model) → full m ≡ false → length m.components < 64
room_of m e = nleb→lt 64 (length m.components) (false_not _ e)

-- the first three of at most three are all
take_three : (ts : List Tag) (n : ℕ) → T (leb n 3) → length ts ≡ n → take 3 ts ≡ ts
take_three ts n h e = take_all 3 ts (leb→le (length ts) 3 (subst (λ (k : ℕ). T (leb k 3)) (sym e) h))

places-short : (c : Component) (ts : Option (List Tag)) → length (new_places c ts) ≡ input_count c → any overlong (looked_at ts) ≡ false
    → T (all short_place (new_places c ts))
places-short c none e h = short_none (input_count c)
places-short c (some ts) e h =
    short_some ts (subst (λ (l : List Tag). any overlong l ≡ false) (take_three ts (input_count c) (count_few c) (sym (length-map ts some) ∙ e)) h)

module _ {m : Model} (g : Good m) where
  fit_plain : (t : Tag) (c : Component) (fits : Bool) → (fits ≡ true → input_count c ≡ 0) → Fit (add_plain m t c fits)
  unfolding add_plain
  fit_plain t c fits z = fit_check _ _ _ _ g (λ s. fit_check _ _ _ _ g (λ f. fit_check _ _ _ _ g (λ h. fit_check _ _ _ _ g (λ n.
      record { fit = good_plain g t c t (false_not _ s) (room_of m n) (z (not_false _ f)) (held-put t c m.components) }))))

  fit_operation : (t : Tag) (c : Component) (ts : Option (List Tag)) → Fit (add_op m t c ts)
  unfolding add_op
  fit_operation t c ts =
      fit_check _ _ _ _ g (λ s. fit_check _ _ _ _ g (λ o. fit_check _ _ _ _ g (λ h. fit_check _ _ _ _ g (λ k. fit_check _ _ _ _ g (λ n. fit_check _ _ _ _ g (λ r.
      let l = or_false (overlong t) _ s in
      let q = true→T (eqb (length (new_places c ts)) (input_count c)) (not_false (eqb (length (new_places c ts)) (input_count c)) k) in
      let e = eqb→eq (length (new_places c ts)) (input_count c) q in
      record {
        fit = good_operation g t c (new_places c ts) t (false_not _ l.0) (room_of m n) r
            (good_new t c (new_places c ts) (true→T _ (not_false (is_operation c) o)) e (places-short c ts e l.1)) q (held-put t c m.components);
      }))))))

  -- the default named by add_component: held already, or the tag made
  still_named : (u t : Tag) (c : Component) → (Found t m.components) ⊎ (t ≡ u) → T (held t (put u c m.components))
  still_named u t c (inl f) = found-held t (put u c m.components) (found-put t u c m.components f)
  still_named u t c (inr q) = subst (λ (y : Tag). T (held y (put u c m.components))) (sym q) (held-put u c m.components)

  fit_under : (u t : Tag) (c : Component) → T (not (overlong u)) → length m.components < 64 → (Found t m.components) ⊎ (t ≡ u) → Fit (add_under m u t c)
  unfolding add_under
  fit_under u t c s n w = fit_if (is_operation c)
      (λ o. fit_check _ _ _ _ g (λ r. record {
        fit = good_operation g u c (replicate (input_count c) none) t s n r
            (good_new u c (replicate (input_count c) none) (true→T _ o) (length-replicate (input_count c) none) (short_none (input_count c)))
            (subst (λ (k : ℕ). T (eqb k (input_count c))) (sym (length-replicate (input_count c) none)) (eqb_refl (input_count c))) (still_named u t c w);
      }))
      (λ o. record { fit = good_plain g u c t s n (plain-none c o) (still_named u t c w) })

  fit_free : (t : Tag) (c : Component) (u : Option Tag) → free_tag m.components t ≡ u → Fit (add_free m t c u)
  fit_free t c none e = fit_refuse g
  fit_free t c (some u) e = fit_check _ _ _ _ g (λ s. fit_check _ _ _ _ g (λ n. fit_under u t c (false_not _ s) (room_of m n) (free_or_held m.components t u e)))

  fit_list : (t : Tag) (l : List Place) (i : ℕ) (p : Place) → list m t ≡ some l → T (short_place p) → Good (with_list m t (set l i p))
  fit_list t l i p e s = good_places g t l (set l i p) e (length-set l i p) (short-set l i p s (good_short t l (g.places t l e)))

  fit_walked : (t : Tag) (n : Model) (w : Walked) → Good n → Fit (walked m t (record { answer = done; model = n }) w)
  fit_walked t n clear h = record { fit = h }
  fit_walked t n met h = fit_refuse g
  fit_walked t n (gapped a i) h = fit_refuse g

  fit_wire : (t s : Tag) (i : ℕ) (l : Option (List Place)) → T (not (overlong s)) → list m t ≡ l → Fit (wire_in m t s i l)
  fit_wire t s i none h e = fit_refuse g
  fit_wire t s i (some l) h e = fit_check _ _ _ _ g (λ _. fit_walked t _ (walk_from m t s) (fit_list t l i (some s) e h))

  fit_unwire : (t : Tag) (i : ℕ) (l : Option (List Place)) → list m t ≡ l → Fit (unwire_in m t i l)
  fit_unwire t i none e = fit_refuse g
  fit_unwire t i (some l) e = fit_check _ _ _ _ g (λ _. record { fit = fit_list t l i none e tt })

  fit_settle : (t : Tag) (c : Component) (s : Setting) → component m t ≡ some c → ((k : Component) → s ≡ Ok k → input_count k ≡ input_count c) → Fit (settle m t s)
  fit_settle t c (Err DoesNotFit) e h = fit_refuse g
  fit_settle t c (Err TooNear) e h = fit_refuse g
  fit_settle t c (Ok k) e h = record { fit = good_set g t c k e (h k refl) }

  fit_set : (t : Tag) (n : Name) (d : Data) (c : Option Component) → component m t ≡ c → Fit (set_in m t n d c)
  fit_set t n d none e = fit_refuse g
  fit_set t n d (some c) e = fit_settle t c (parameterSet c n d) e (λ k q. same_count c k n d q)

  fit_edit : (e : Edit) → Fit (edit e m)
  unfolding edit add_any add_wire remove_wire remove rename set_at
  fit_edit (add_operation t c ts) = fit_operation t c ts
  fit_edit (add_constant t x) = fit_plain t (Constant x) true (λ _. refl)
  fit_edit (add_function t c) = fit_plain t c (is_function c) (function_none c)
  fit_edit (add_component t c) = fit_check _ _ _ _ g (λ _. fit_free t c (free_tag m.components t) refl)
  fit_edit (add_input t s i) = fit_check _ _ _ _ g (λ _. fit_check _ _ _ _ g (λ h. fit_check _ _ _ _ g (λ _. fit_check _ _ _ _ g (λ _.
      fit_wire t s i (list m t) (false_not _ h) refl))))
  fit_edit (remove_input t i) = fit_check _ _ _ _ g (λ _. fit_unwire t i (list m t) refl)
  fit_edit (remove_component t) = fit_check _ _ _ _ g (λ _. fit_check _ _ _ _ g (λ _. record { fit = good_without g t }))
  fit_edit (rename_component t u) = fit_check _ _ _ _ g (λ _. fit_check _ _ _ _ g (λ s. fit_check _ _ _ _ g (λ h. fit_check _ _ _ _ g (λ k.
      record { fit = good_renamed g t u (held-true t m.components (not_false _ k)) (held-false u m.components h) (false_not _ s) }))))
  fit_edit (set_parameter t n d) = fit_check _ _ _ _ g (λ _. fit_set t n d (component m t) refl)

pub apply-valid : (e : Edit) (m : Model) → T (valid m) → T (valid (apply e m).model)
unfolding apply
apply-valid e m v = good_valid _ (fit_check _ _ _ _ (good m v) (λ _. fit_edit (good m v) e)).fit
