-- What is written at a place, and rows that are written one after another. Assumes nothing.
use Prim.Native.Nat.{ℕ, ◌+◌, ◌*◌, ◌-◌, ◌≤◌, ◌<◌, min}
use mathlib.Core.Path.{◌≡◌, refl, sym, ap, subst, ◌∙◌}
use mathlib.Core.Bool.{Bool, true, cond}
use mathlib.Core.List.{List, [], ◌∷◌, ◌++◌, map as mapped}
use mathlib.Core.Option.{Option, none, some, map}
use native.Mathlib.Numerals.{add-one}
use native.Mathlib.Decide.{dec_lt}
use native.Mathlib.Omega.{arith}
use lib.ListN.{length, get_or, take, drop, replicate, get_or-replicate}
use lib.Seq.{take_at, drop_at, drop-drop, length-take-le, get_or-drop, get_or-take, set-get_or}
use borrow.Rule.Slice.PartMut.{put_mid}
use borrow.Author.Tests.{eq-eqb}
use Rattle.component.specs.declared.model_component.Component.{Component}
use Rattle.model.specs.declared.implicit_model.InputList.{InputList}
use Rattle.model.specs.View.{PlaceRecord, rows, place_of}
use Rattle.held.proofs.Laws.Rows.{no_place, rows_more}
use Rattle.layout.specs.Words.{word}
use Rattle.layout.specs.Writing.{Kept, put, put_word}
use Rattle.component_layout.specs.declared.component_numbers.Numbered.{Numbered}
use Rattle.component_layout.specs.Numbers.{Worded}
use Rattle.layout.proofs.Put.{put-kept, word-short, word_kept, word_back}
use Rattle.layout.proofs.Kept.{kept-none, kept_then, Agree, agree_below, word_same, bytes_same}
use Rattle.rows.specs.Rows.{blank, text_in, tag_in, place_from, place_in, six_in, same_words, spelled, component_of_words, component_in, rows_in, place_row, places_in, places_of, three_in}
use Rattle.rows.specs.Written.{Wrote, Writes, WroteWords}
use Rattle.rows.proofs.Laws.Reading.{zeros_blank, text_clean, rows_append, places_is}
use Rattle.rows.proofs.Laws.Local.{place_local, rows_local}

-- ---- a part of the bytes overwritten

module _ (s vs : List ℕ) (at n : ℕ) {t : List ℕ} {k : ℕ} (room : at + n ≤ length s) (size : length vs ≡ n) (wide : k ≡ n) (part : t ≡ put_mid at k s vs) where
  put_there : t ≡ put s at vs
  unfolding put
  put_there = part ∙ rw (wide, size, drop-drop n at s)

  pub copied : Wrote (λ u. take n (drop at u)) vs at n s t
  unfolding put
  copied = record {
    kept = rw (put_there, ← size) (put-kept s at vs (omega arith));
    holds =
        ap (λ (u : List ℕ). take n (drop at u)) put_there
        ∙ ap (take n) (drop_at (take at s) (vs ++ drop (at + length vs) s) at (length-take-le at s (omega arith)))
        ∙ take_at vs (drop (at + length vs) s) n size;
  }

  byte_there : (j : ℕ) → j < n → get_or t (at + j) 0 ≡ get_or vs j 0
  byte_there j h = sym (get_or-drop at t j 0) ∙ sym (get_or-take n (drop at t) j 0 h) ∙ ap (λ (u : List ℕ). get_or u j 0) copied.holds

pub cleared : (s vs : List ℕ) (at n : ℕ) {t : List ℕ} {k : ℕ} → at + n ≤ length s → length vs ≡ n → k ≡ n → vs ≡ replicate n 0 → t ≡ put_mid at k s vs → Wrote (λ u. blank u at n) true at n s t
cleared s vs at n room size wide zeros part = record {
  kept = (copied s vs at n room size wide part).kept;
  holds = zeros_blank _ at n (λ j h. byte_there s vs at n room size wide part j h ∙ ap (λ (u : List ℕ). get_or u j 0) zeros ∙ get_or-replicate n j 0 0 h);
}

-- ---- one after another

module _ {A B : Type 0} {f : List ℕ → A} {g : List ℕ → B} {a : A} {b : B} {i n j m : ℕ} {s t u : List ℕ} (p : Wrote f a i n s t) (q : Wrote g b j m t u) where
  -- within one range
  pub both-kept : (at z : ℕ) → at ≤ i → i + n ≤ at + z → at ≤ j → j + m ≤ at + z → Kept s u at z
  both-kept at z e f g h = kept_then at z p.kept q.kept e f g h

pub word-wrote : (s : List ℕ) (at x : ℕ) → at + 8 ≤ length s → x < 0x1_0000_0000_0000_0000 → {t : List ℕ} → t ≡ put_word s at x → Wrote (λ u. word u at) x at 8 s t
word-wrote s at x h b e = subst (Wrote (λ u. word u at) x at 8 s) (sym e) (record { kept = word_kept s at x h; holds = word_back s at x h b })

pub word-stays : (at : ℕ) {s t : List ℕ} {j m x : ℕ} → Kept s t j m → at + 8 ≤ j → word s at ≡ x → word t at ≡ x
word-stays at k h e = word_same (agree_below at 8 k h) ∙ e

-- ---- tags

module _ {b : List ℕ} {at : ℕ} {s t u : List ℕ} where
  pub text-wrote : length b ≤ 32 → Wrote (λ v. take (length b) (drop at v)) b at (length b) s t → Wrote (λ v. blank v (at + length b) (32 - length b)) true (at + length b) (32 - length b) t u
      → Wrote (λ v. text_in (length b) v at) (some b) at 32 s u
  text-wrote short p q = record {
    kept = both-kept p q at 32 (omega arith) (omega arith) (omega arith) (omega arith);
    holds = text_clean (length b) u at short q.holds ∙ ap some (bytes_same (agree_below at (length b) q.kept (omega arith)) ∙ p.holds);
  }

  pub tag_wrote : Wrote (λ v. word v at) (length b) at 8 s t → Wrote (λ v. text_in (length b) v (at + 8)) (some b) (at + 8) 32 t u
      → Wrote (λ v. tag_in v at) (some b) at 40 s u
  unfolding tag_in
  tag_wrote p q = record {
    kept = both-kept p q at 40 (omega arith) (omega arith) (omega arith) (omega arith);
    holds = ap (λ (k : ℕ). text_in k u (at + 8)) (word-stays at q.kept (omega arith) p.holds) ∙ q.holds;
  }

  -- ---- places

  pub place-wrote : Wrote (λ v. word v at) (length b + 1) at 8 s t → Wrote (λ v. text_in (length b) v (at + 8)) (some b) (at + 8) 32 t u
      → Wrote (λ v. place_in v at) (some (some b)) at 40 s u
  unfolding place_in place_from
  place-wrote q r = record {
    kept = both-kept q r at 40 (omega arith) (omega arith) (omega arith) (omega arith);
    holds = ap (λ (k : ℕ). place_from k u (at + 8)) (word-stays at r.kept (omega arith) q.holds ∙ add-one (length b)) ∙ ap (map some) r.holds;
  }

pub unassigned_wrote : {at : ℕ} {s t u : List ℕ} → Wrote (λ v. word v at) 0 at 8 s t → Wrote (λ v. blank v (at + 8) 32) true (at + 8) 32 t u → Wrote (λ v. place_in v at) (some none) at 40 s u
unfolding place_in place_from
unassigned_wrote {at} {u = u} q r = record {
  kept = both-kept q r at 40 (omega arith) (omega arith) (omega arith) (omega arith);
  holds =
      ap (λ (n : ℕ). place_from n u (at + 8)) (word-stays at r.kept (omega arith) q.holds)
      ∙ ap (λ (b : Bool). cond b (some none) none) r.holds;
}

-- ---- components

same_self : (w : Numbered ℕ) → same_words w w ≡ true
unfolding same_words
same_self w = rw (eq-eqb w.kind w.kind refl, eq-eqb w.a w.a refl, eq-eqb w.b w.b refl, eq-eqb w.c w.c refl, eq-eqb w.d w.d refl, eq-eqb w.e w.e refl)

-- six and three words
module _ {at : ℕ} {s t : List ℕ} where
  first : {words : List ℕ} {n : ℕ} → 0 < n → WroteWords words n at s t → word t at ≡ get_or words 0 0
  first h p = ap (word t) (let z : at ≡ at + 8 * 0 = omega arith in z) ∙ p.holds 0 h

  pub six_wrote : (w : Numbered ℕ) → WroteWords (w.kind ∷ w.a ∷ w.b ∷ w.c ∷ w.d ∷ w.e ∷ []) 6 at s t → Wrote (λ v. six_in v at) w at 48 s t
  six_wrote w p = record {
    kept = p.kept;
    holds = rw (first (omega arith) p, p.holds 1 (omega arith), p.holds 2 (omega arith), p.holds 3 (omega arith), p.holds 4 (omega arith), p.holds 5 (omega arith));
  }

  pub three_words : {a b c : ℕ} → WroteWords (a ∷ b ∷ c ∷ []) 3 at s t → Wrote (λ v. three_in v at) (a, (b, c)) at 24 s t
  three_words p = record { kept = p.kept; holds = rw (first (omega arith) p, p.holds 1 (omega arith), p.holds 2 (omega arith)) }

module _ (words : List ℕ) (at : ℕ) where
  pub words-none : (s : List ℕ) → WroteWords words 0 at s s
  words-none s = record { kept = kept-none s at 0; holds = λ k h. absurd (omega arith) }

  -- one word more
  pub words-more : {i : ℕ} {s t u : List ℕ} → WroteWords words i at s t → Wrote (λ v. word v (at + 8 * i)) (get_or words i 0) (at + 8 * i) 8 t u → WroteWords words (i + 1) at s u
  words-more {i} {u = u} p q = record {
    kept = kept_then at (8 * (i + 1)) p.kept q.kept (omega arith) (omega arith) (omega arith) (omega arith);
    holds = λ k h. go k (dec_lt k i) h;
  }
    where
      go : (k : ℕ) → Dec (k < i) → k < i + 1 → word u (at + 8 * k) ≡ get_or words k 0
      go k (yes l) h = word-stays (at + 8 * k) q.kept (omega arith) (p.holds k l)
      go k (no l) h = let e : i ≡ k = omega arith in subst (λ (j : ℕ). word u (at + 8 * j) ≡ get_or words j 0) e q.holds

pub component-wrote : (c : Component) {w : Numbered ℕ} {at : ℕ} {s t : List ℕ} → Worded c w → Wrote (λ v. six_in v at) w at 48 s t → Wrote (λ v. component_in v at) (some c) at 48 s t
unfolding component_in
component-wrote c {w} {at} {s} {t} p q = record {
  kept = q.kept;
  holds =
      ap component_of_words q.holds
      ∙ ap (spelled w) p.back
      ∙ ap (λ (v : Numbered ℕ). cond (same_words v w) (some c) none) (sym p.words)
      ∙ ap (λ (b : Bool). cond b (some c) none) (same_self w);
}

-- ---- rows

-- one row more
pub rows_one : {A B : Type 0} (g : A → B) (table : List A) (i : ℕ) (d : A) → i < length table → rows g (i + 1) table ≡ rows g i table ++ (g (get_or table i d) ∷ [])
rows_one g table i d h = ap (rows g (i + 1)) (sym (set-get_or table i d)) ∙ rows_more g table i (get_or table i d) h

-- rows of one width, each of which depends on its own bytes alone
module _ {A B : Type 0} (g : A → B) (row : List ℕ → ℕ → Option B) (base width : ℕ) (off : ℕ → ℕ)
    (behind : (k i : ℕ) → k < i → off k + width ≤ off i) (only : (s t : List ℕ) (k : ℕ) → Agree s t (off k) width → row t k ≡ row s k) where
  pub rows-wrote-none : (s : List ℕ) (table : List A) → Wrote (λ u. rows_in (row u) 0) (some (rows g 0 table)) base 0 s s
  unfolding rows_in rows
  rows-wrote-none s table = record { kept = kept-none s base 0; holds = refl }

  pub rows-wrote-more : {s t u : List ℕ} {i z : ℕ} (y : ℕ) (table : List A) (d : A) → i < length table → base + z ≡ off i → base + y ≡ off i + width
      → Wrote (λ v. rows_in (row v) i) (some (rows g i table)) base z s t → Wrote (λ v. row v i) (some (g (get_or table i d))) (off i) width t u
      → Wrote (λ v. rows_in (row v) (i + 1)) (some (rows g (i + 1) table)) base y s u
  rows-wrote-more {s} {t} {u} {i} {z} y table d h e f p q = record {
    kept = both-kept p q base y (omega arith) (omega arith) (omega arith) (omega arith);
    holds =
        rows_append (row u) i (rows_local (row t) (row u) i (λ k l. only t u k (agree_below (off k) width q.kept (behind k i l))) ∙ p.holds) q.holds
        ∙ ap some (sym (rows_one g table i d h));
  }

module _ (at : ℕ) where
  pub places-none : (s : List ℕ) (ps : List PlaceRecord) → Wrote (λ v. rows_in (place_row v at) 0) (some (rows place_of 0 ps)) at (40 * 0) s s
  places-none s ps = rows-wrote-none place_of (λ v k. place_row v at k) at 40 (λ k. at + 40 * k) (λ k i h. omega arith) (λ s t k a. place_local a) s ps

  pub places-more : (ps : List PlaceRecord) {s t u : List ℕ} {i : ℕ} → i < length ps
      → Wrote (λ v. rows_in (place_row v at) i) (some (rows place_of i ps)) at (40 * i) s t → Wrote (λ v. place_in v (at + 40 * i)) (some (place_of (get_or ps i no_place))) (at + 40 * i) 40 t u
      → Wrote (λ v. rows_in (place_row v at) (i + 1)) (some (rows place_of (i + 1) ps)) at (40 * (i + 1)) s u
  places-more ps h p q =
      rows-wrote-more place_of (λ v k. place_row v at k) at 40 (λ k. at + 40 * k) (λ k i h. omega arith) (λ s t k a. place_local a) _ ps no_place h refl (omega arith) p q

-- ---- the places of a list

module _ (l : InputList) {ps : List PlaceRecord} {at : ℕ} {s t u : List ℕ} (live : ps ≡ take l.count l.places) (bound : length ps ≡ min l.count 3) where
  pub three_wrote : Wrote (λ x. rows_in (place_row x at) (length ps)) (some (mapped place_of ps)) at (40 * length ps) s t
      → Wrote (λ x. blank x (at + 40 * length ps) (40 * (3 - length ps))) true (at + 40 * length ps) (40 * (3 - length ps)) t u
      → Wrote (λ x. places_in (min l.count 3) x at) (some (places_of l.count l)) at 120 s u
  unfolding rows
  three_wrote r c = record {
    kept = both-kept r c at 120 (omega arith) (omega arith) (omega arith) (omega arith);
    holds =
        ap (λ (k : ℕ). places_in k u at) (sym bound)
        ∙ places_is (length ps) u at (omega arith) c.holds
        ∙ rows_local (place_row t at) (place_row u at) (length ps) (λ k h. place_local (agree_below (at + 40 * k) 40 c.kept (omega arith)))
        ∙ r.holds
        ∙ ap (λ (qs : List PlaceRecord). some (mapped place_of qs)) live;
  }

-- ---- where there is room

module _ {A : Type 0} {reads : List ℕ → A} {a : A} {i n : ℕ} {s : List ℕ} where
  pub writes : {t : List ℕ} → i + n ≤ length s → Wrote reads a i n s t → Writes reads a i n s t
  writes h w = record { wrote = λ x. w; narrow = λ x. absurd (let z : ⊥ = omega arith in z) }

  pub narrow : length s < i + n → Writes reads a i n s s
  narrow h = record { wrote = λ x. absurd (let z : ⊥ = omega arith in z); narrow = λ x. refl }

pub number_writes : (s : List ℕ) (at x : ℕ) → x < 0x1_0000_0000_0000_0000 → {t : List ℕ} → t ≡ put_word s at x → Writes (λ u. word u at) x at 8 s t
number_writes s at x b e = record { wrote = λ h. word-wrote s at x h b e; narrow = λ h. e ∙ sym (word-short s at x h) }
