-- Places that name a tag changed, in bytes. Assumes nothing.
use Rattle.std.specs.Prelude.{Option as Answer, Some, None, MatchOption, nat_eq}
use Rattle.std.specs.Option.{option_eq}
use Rattle.std.specs.Cmp.Lexicographic.{pointwise, same_text, other_text}
use Prim.Native.Nat.{ℕ, suc, ◌+◌, ◌*◌, ◌-◌, ◌≤◌, ◌<◌, min}
use native.Mathlib.Omega.{arith}
use mathlib.Core.Path.{◌≡◌, refl, sym, ap, ◌∙◌}
use mathlib.Core.Logic.{◌≢◌, inl, inr}
use mathlib.Core.Bool.{Bool, true, false, cond, true≢false}
use mathlib.Core.List.{List}
use mathlib.Core.Option.{Option, none, some, map}
use lib.ListN.{length}
use denote.Bor.{Bor}
use Rattle.tag.specs.Tags.{Tag}
use Rattle.tag.proofs.Laws.Is.{is_refl, is_false}
use Rattle.model.specs.Model.{Place}
use Rattle.model.specs.Edit.{swap}
use Rattle.model.proofs.Laws.Valid.{some_some, none_some}
use Rattle.layout.specs.Words.{word}
use Rattle.layout.specs.Writing.{Kept}
use Rattle.layout.proofs.Kept.{kept-none, Agree, agree_below, word_same}
use Rattle.rows.specs.Rows.{place_from, place_in, place_row}
use Rattle.rows.specs.Written.{Wrote}
use Rattle.rows.proofs.Laws.Local.{blank_local, tag_local, place_local}
use Rattle.rows.proofs.Laws.Reading.{text-long}
use Rattle.finding.specs.Rows.{Tagged, Untagged}
use Rattle.model_bytes.specs.ModelBytes.{list_row}
use Rattle.model_bytes.proofs.Laws.Reading.{list_is}
use Rattle.model_bytes.proofs.Laws.Local.{list_local}
use borrow.Author.Count.{below_more}
use Rattle.standing.proofs.Laws.Keys.{place-named, place_unnamed}
use Rattle.standing.proofs.Laws.Rows.{built}
use Rattle.direct_swapping.specs.Swapping.{NamesTag, PlaceSwapped, Mapped, place_at, PlacesSwapped, swap_list, ListSwapped, RowsSwapped, Swapped}
use Rattle.direct_rows.proofs.Laws.Table.{built_rows, built_map}
use Rattle.direct_rows.proofs.Laws.Parts.{list_parts}

-- ---- whether a place names the tag

place_from_long : (n : ℕ) (s : List ℕ) (at : ℕ) → 33 < n → place_from n s at ≡ none
unfolding place_from
place_from_long n s at h =
    let z : n ≡ suc (n - 1) = omega arith in
    ap (λ (k : ℕ). place_from k s at) z ∙ ap (map some) (text-long (n - 1) s at (omega arith))

module _ (s : List ℕ) (at : ℕ) (t : Bor (List ℕ)) (room : at + 40 ≤ length s) where
  unnamed : Untagged s at → (q : Place) → place_in s at ≡ some q → q ≡ some t.now → ⊥
  unfolding place_in
  unnamed (inl z) q p r = none_some (sym (place_unnamed s at z p) ∙ r)
  unnamed (inr (inl l)) q p r = none_some (sym (place_from_long (word s at) s (at + 8) l) ∙ p)
  unnamed (inr (inr l)) q p r = none_some (sym (place_from_long (word s at) s (at + 8) (omega (arith, room))) ∙ p)

  pub names_by : (o : Answer (Bor (List ℕ))) → MatchOption o (Untagged s at) (λ x. Tagged s at x.now) → {b : Bool} → b ≡ option_eq (λ x y. pointwise nat_eq x.now y.now) o (Some t) → NamesTag s at t.now b
  names_by None h e = record { yes = λ y. absurd (true≢false (sym y ∙ e)); no = λ y. unnamed h }
  names_by (Some x) h e = record {
    yes = λ y q p. named q p ∙ ap some (same_text x.now t.now (sym y ∙ e));
    no = λ y q p r. other_text x.now t.now (sym y ∙ e) (some_some (sym (named q p) ∙ r));
  }
    where
      named : (q : Place) → place_in s at ≡ some q → q ≡ some x.now
      named q p = place-named s at h.assigned p ∙ ap some (sym h.is)

-- ---- one place

swap-same : (t : Tag) (p q : Place) → q ≡ some t → swap t p q ≡ p
unfolding swap
swap-same t p q e = ap (swap t p) e ∙ ap (λ (b : Bool). cond b p (some t)) (is_refl t)

swap_other : (t : Tag) (p q : Place) → q ≢ some t → swap t p q ≡ q
unfolding swap
swap_other t p none n = refl
swap_other t p (some u) n = ap (λ (b : Bool). cond b p (some u)) (is_false u t (λ e. n (ap some e)))

module _ (t : Tag) (p : Place) {at : ℕ} {s : List ℕ} {b : Bool} (n : NamesTag s at t b) where
  pub place_swapped : {u : List ℕ} → b ≡ true → Wrote (λ v. place_in v at) (some p) at 40 s u → PlaceSwapped t p at s u
  place_swapped y w = record { kept = w.kept; holds = λ q e. w.holds ∙ ap some (sym (swap-same t p q (n.yes y q e))) }

  pub place-stays : b ≡ false → PlaceSwapped t p at s s
  place-stays y = record { kept = kept-none s at 40; holds = λ q e. e ∙ ap some (sym (swap_other t p q (n.no y q e))) }

-- ---- rows changed one after another, each of which depends on its own bytes alone

module _ {A : Type 0} (row : List ℕ → ℕ → Option A) (f : A → A) (at : ℕ → ℕ) (width : ℕ)
    (only : (s t : List ℕ) (k : ℕ) → Agree s t (at k) width → row t k ≡ row s k)
    (first : (i : ℕ) → at 0 ≤ at i) (behind : (k i : ℕ) → k < i → at k + width ≤ at i) where
  pub mapped_more : {s u v : List ℕ} {i : ℕ} → Mapped row f at i s u → Kept u v (at i) width → ((x : A) → row u i ≡ some x → row v i ≡ some (f x)) → Mapped row f at (i + 1) s v
  mapped_more {s} {u} {v} {i} m w h = record {
    size = w.size ∙ m.size;
    below = λ k l. w.below k (omega (arith, first i)) ∙ m.below k l;
    above = λ k l. w.above k (omega (arith, behind i (i + 1) (omega arith))) ∙ m.above k (omega (arith, behind i (i + 1) (omega arith)));
    each = below_more (λ (j : ℕ). (x : A) → row s j ≡ some x → row v j ≡ some (f x)) i
        (λ j l x e. only u v j (agree_below (at j) width w (behind j i l)) ∙ m.each j l x e)
        (λ x e. h x (only s u i (record { size = m.size; same = λ k a b. m.above k a }) ∙ e));
  }

-- ---- a list

module _ (t : Tag) (p : Place) (j : ℕ) where
  pub places_swapped_more : {s u v : List ℕ} {i : ℕ} → PlacesSwapped t p j i s u → PlaceSwapped t p (place_at j i) u v → PlacesSwapped t p j (i + 1) s v
  places_swapped_more m w = mapped_more (λ v k. place_row v (5744 + 168 * j) k) (swap t p) (place_at j) 40 (λ s t k a. place_local a) (λ i. omega arith) (λ k i h. omega arith) m w.kept w.holds

  pub list_swapped : {n : ℕ} {s u : List ℕ} → n ≡ min (word s (5736 + 168 * j)) 3 → PlacesSwapped t p j n s u → ListSwapped t p j s u
  list_swapped {n} {s} {u} c m = record {
    kept = record { size = m.size; below = λ k l. m.below k (omega arith); above = λ k l. m.above k (omega (arith, c)) };
    holds = λ x e.
        let at = 5696 + 168 * j in
        let g = list_parts s at e in
        let count = word s (at + 40) in
        let q : at + 40 ≡ 5736 + 168 * j = omega arith in
        let r : at + 48 ≡ 5744 + 168 * j = omega arith in
        let same : count ≡ n = omega (arith, c, ap (word s) q, g.few) in
        list_is u at {n = count} (sym (word_same (record { size = m.size; same = λ k a b. m.below k (omega arith) }))) g.few
        (blank_local (40 * (3 - count)) (record { size = m.size; same = λ k a b. m.above k (omega (arith, same)) }) ∙ g.clean)
        (tag_local (record { size = m.size; same = λ k a b. m.below k (omega arith) }) ∙ g.tag)
        (built_rows (built_map (swap t p) (built (place_row s (at + 48)) count g.places)
        (λ i y l h. ap (λ (k : ℕ). place_in u (k + 40 * i)) r ∙ m.each i (omega (arith, same)) y (ap (λ (k : ℕ). place_in s (k + 40 * i)) (sym r) ∙ h))));
  }

-- ---- the lists, and the default

module _ (t : Tag) (p : Place) where
  pub rows_swapped_more : {s u v : List ℕ} {i : ℕ} → RowsSwapped t p i s u → ListSwapped t p i u v → RowsSwapped t p (i + 1) s v
  rows_swapped_more m w = mapped_more list_row (swap_list t p) (λ j. 5696 + 168 * j) 168 (λ s t k a. list_local a) (λ i. omega arith) (λ k i h. omega arith) m w.kept w.holds

  pub swapped : {s u v : List ℕ} {n : ℕ} → length s ≡ 27200 → n ≡ min (word s 16) 128 → RowsSwapped t p n s u → PlaceSwapped t p 24 u v → Swapped t p s v
  swapped {s} {u} {v} e c m w = record {
    size = w.kept.size ∙ m.size;
    head = λ k l. w.kept.below k (omega arith) ∙ m.below k (omega arith);
    components = λ k l g. w.kept.above k (omega arith) ∙ m.below k (omega arith);
    past = λ k l. w.kept.above k (omega arith) ∙ m.above k (omega (arith, c));
    lists = λ z j x l h.
        list_local (record { size = w.kept.size; same = λ k a b. w.kept.above k (omega arith) }) ∙ m.each j (omega (arith, c)) x h;
    default = λ z q h. w.holds q (place_local (record { size = m.size; same = λ k a b. m.below k (omega arith) }) ∙ h);
    narrow = λ z. absurd (z e);
  }
