-- Laws of words and strings. Assumes nothing.
use Prim.Native.Nat.{ℕ, ◌+◌, ◌-◌, ◌≤◌, ◌<◌}
use mathlib.Core.Path.{◌≡◌, sym, ap, ◌∙◌}
use mathlib.Core.List.{List, [], ◌++◌}
use native.Mathlib.Nat.{min-eq_left, min-eq_right}
use native.Mathlib.Omega.{arith}
use native.Mathlib.Decide.{dec_lt}
use denote.Ref.{Bor}
use lib.ListN.{length, get_or, take, drop, replicate, get_or-replicate, length-replicate, get_or-eq_default, drop_of_length-le, length-drop, get_or-append}
use lib.Seq.{take_all, get_or-take, get_or-drop, get_or-append-add}
use mir.Syntax.{w64}
use Rattle.std.specs.Prelude.{Option, Some, None, unwrap_or, min}
use Rattle.std.specs.Int.{from_le_bytes}
use Rattle.std.specs.Slice.{IsGetRangeResult}
use Rattle.layout.specs.Words.{four, word}

-- ---- past the end

past : (s : List ℕ) (i : ℕ) → length s ≤ i → get_or s i 0 ≡ 0
past s i h = get_or-eq_default s 0 h

four-past : (s : List ℕ) (i : ℕ) → length s ≤ i → four s i ≡ 0
unfolding four
four-past s i h =
    rw (past s i h, past s (i + 1) (omega arith), past s (i + 2) (omega arith), past s (i + 2 + 1) (omega arith))

pub word_past_end : (s : List ℕ) (i : ℕ) → length s ≤ i → word s i ≡ 0
unfolding word
word_past_end s i h = rw (four-past s i h, four-past s (i + 4) (omega arith))

pub rest_is : (s : List ℕ) (i : ℕ) (r : Option (Bor (List ℕ))) (d : Bor (List ℕ)) → d.now ≡ [] → IsGetRangeResult s i (length s) r → (unwrap_or r d).now ≡ drop i s
rest_is s i None d e (h, _) = e ∙ sym (drop_of_length-le s (omega arith))
rest_is s i (Some x) d e (h, _) = h.2 ∙ take_all (length s - i) (drop i s) (omega (arith, length-drop i s))

-- ---- a word of eight bytes that are those from i on

module _ (s : List ℕ) (i : ℕ) (bytes : List ℕ) where
  same_word : ((k j : ℕ) → i + k ≡ j → k < 8 → get_or bytes k 0 ≡ get_or s j 0) → from_le_bytes w64 bytes ≡ word s i
  unfolding word four
  same_word same = omega (
    arith,
    same 0 i (omega arith) (omega arith),
    same 1 (i + 1) (omega arith) (omega arith),
    same 2 (i + 2) (omega arith) (omega arith),
    same 3 (i + 2 + 1) (omega arith) (omega arith),
    same 4 (i + 4) (omega arith) (omega arith),
    same 5 (i + 4 + 1) (omega arith) (omega arith),
    same 6 (i + 4 + 2) (omega arith) (omega arith),
    same 7 (i + 4 + 2 + 1) (omega arith) (omega arith),
  )

  pub word_of_whole : bytes ≡ take 8 (drop i s) → from_le_bytes w64 bytes ≡ word s i
  word_of_whole e = same_word (λ k j f h. ap (λ (l : List ℕ). get_or l k 0) e ∙ get_or-take 8 (drop i s) k 0 h ∙ get_or-drop i s k 0 ∙ ap (λ (n : ℕ). get_or s n 0) f)

  -- a word that the end cuts
  pub word_of_cut : (n : ℕ) → bytes ≡ drop i s ++ drop n (replicate 8 0) → from_le_bytes w64 bytes ≡ word s i
  word_of_cut n e = same_word (λ k j f h. ap (λ (l : List ℕ). get_or l k 0) e ∙ at k j f (dec_lt k (length (drop i s))))
    where
      zeros : List ℕ
      zeros = drop n (replicate 8 0)

      none : (k : ℕ) → get_or zeros k 0 ≡ 0
      none k = get_or-drop n (replicate 8 0) k 0 ∙ by (dec_lt (n + k) 8)
        where
          by : Dec (n + k < 8) → ◌≡◌ {A = ℕ} (get_or (replicate 8 0) (n + k) 0) 0
          by (yes h) = get_or-replicate 8 (n + k) 0 0 h
          by (no h) = past (replicate 8 0) (n + k) (omega (arith, length-replicate {A = ℕ} 8 0))

      at : (k j : ℕ) → i + k ≡ j → Dec (k < length (drop i s)) → get_or (drop i s ++ zeros) k 0 ≡ get_or s j 0
      at k j f (yes h) = get_or-append (drop i s) zeros 0 k h ∙ get_or-drop i s k 0 ∙ ap (λ (n : ℕ). get_or s n 0) f
      at k j f (no h) =
          let e : length (drop i s) + (k - length (drop i s)) ≡ k = omega arith in
          ap (λ (n : ℕ). get_or (drop i s ++ zeros) n 0) (sym e) ∙ get_or-append-add (drop i s) zeros (k - length (drop i s)) 0 ∙ none _ ∙ sym (past s j (omega (arith, length-drop i s)))

-- ---- a place that is beyond every address is past the end

module _ (s : List ℕ) (i m : ℕ) (h : length s ≤ m) where
  far : {A : Type 0} (f : ℕ → A) → ((k : ℕ) → length s ≤ k → f k ≡ f m) → f (min i m) ≡ f i
  far f same = by (dec_lt m i)
    where
      by : Dec (m < i) → f (min i m) ≡ f i
      by (yes b) = ap f (min-eq_right (omega arith)) ∙ sym (same i (omega arith))
      by (no b) = ap f (min-eq_left (omega arith))

  pub word_far : word s (min i m) ≡ word s i
  word_far = far (word s) (λ k g. word_past_end s k g ∙ sym (word_past_end s m h))

  pub drop_far : drop (min i m) s ≡ drop i s
  drop_far = far (λ (k : ℕ). drop k s) (λ k g. drop_of_length-le s g ∙ sym (drop_of_length-le s h))
