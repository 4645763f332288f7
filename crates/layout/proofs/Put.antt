-- Runs of bytes put into a list, and the words that are read back. Assumes nothing.
use mathlib.Core.Path.{◌≡◌, refl, sym, ap, subst, ◌∙◌}
use mathlib.Core.Bool.{Bool, cond}
use mathlib.Core.List.{List, ◌++◌, append_assoc}
use Prim.Native.Nat.{ℕ, ◌+◌, ◌*◌, ◌-◌, ◌/◌, ◌%◌, ◌≤◌, ◌<◌}
use native.Mathlib.Nat.{add_assoc, add-zero, div-div-eq-div-mul}
use native.Mathlib.Omega.{arith}
use lib.ListN.{length, get_or, take, drop, length-append, length-drop, get_or-append}
use lib.Seq.{take_at, drop_at, drop-drop, length-take-le, get_or-append-add, get_or-take, get_or-drop}
use mir.Syntax.{w64}
use borrow.Author.Tests.{le-leb, lt-leb}
use borrow.Rule.Slice.PartMut.{put_mid}
use Rattle.std.specs.Int.{to_le_bytes}
use Rattle.layout.specs.Words.{four, word}
use Rattle.layout.specs.Writing.{bytes4, bytes8, put, put_word, Kept}

module _ (s : List ℕ) (i : ℕ) (vs : List ℕ) (fits : i + length vs ≤ length s) where
  put_front : length (take i s ++ vs) ≡ i + length vs
  put_front = length-append (take i s) vs ∙ ap (λ (n : ℕ). n + length vs) (length-take-le i s (omega arith))

  pub put_is : put s i vs ≡ (take i s ++ vs) ++ drop (i + length vs) s
  unfolding put
  put_is = sym (append_assoc (take i s) vs (drop (i + length vs) s))

  length-put : length (put s i vs) ≡ length s
  length-put =
      ap length put_is
      ∙ length-append (take i s ++ vs) (drop (i + length vs) s)
      ∙ ap (λ (n : ℕ). n + length (drop (i + length vs) s)) put_front
      ∙ ap (λ (n : ℕ). i + length vs + n) (length-drop (i + length vs) s)
      ∙ omega arith

  take_put : take (i + length vs) (put s i vs) ≡ take i s ++ vs
  take_put = ap (take (i + length vs)) put_is ∙ take_at (take i s ++ vs) (drop (i + length vs) s) (i + length vs) put_front

  drop-put : drop (i + length vs) (put s i vs) ≡ drop (i + length vs) s
  drop-put = ap (drop (i + length vs)) put_is ∙ drop_at (take i s ++ vs) (drop (i + length vs) s) (i + length vs) put_front

  put-put : (ws : List ℕ) → put (put s i vs) (i + length vs) ws ≡ put s i (vs ++ ws)
  unfolding put
  put-put ws =
      ap (λ (l : List ℕ). l ++ (ws ++ drop (i + length vs + length ws) (put s i vs))) take_put
      ∙ ap (λ (l : List ℕ). (take i s ++ vs) ++ (ws ++ l))
      (sym (drop-drop (length ws) (i + length vs) (put s i vs)) ∙ ap (drop (length ws)) drop-put ∙ drop-drop (length ws) (i + length vs) s)
      ∙ append_assoc (take i s) vs (ws ++ drop (i + length vs + length ws) s)
      ∙ ap (λ (l : List ℕ). take i s ++ l) (sym (append_assoc vs ws (drop (i + length vs + length ws) s)))
      ∙ ap (λ (n : ℕ). take i s ++ ((vs ++ ws) ++ drop n s)) (add_assoc i (length vs) (length ws) ∙ ap (λ (n : ℕ). i + n) (sym (length-append vs ws)))

  put-below : (k : ℕ) → k < i → get_or (put s i vs) k 0 ≡ get_or s k 0
  unfolding put
  put-below k h =
      get_or-append (take i s) (vs ++ drop (i + length vs) s) 0 k (omega (arith, length-take-le i s (omega arith)))
      ∙ get_or-take i s k 0 h

  put-above : (k : ℕ) → i + length vs ≤ k → get_or (put s i vs) k 0 ≡ get_or s k 0
  put-above k h =
      let e : i + length vs + (k - (i + length vs)) ≡ k = omega arith in
      ap (λ (n : ℕ). get_or (put s i vs) n 0) (sym e)
      ∙ sym (get_or-drop (i + length vs) (put s i vs) (k - (i + length vs)) 0)
      ∙ ap (λ (l : List ℕ). get_or l (k - (i + length vs)) 0) drop-put
      ∙ get_or-drop (i + length vs) s (k - (i + length vs)) 0
      ∙ ap (λ (n : ℕ). get_or s n 0) e

  -- a run leaves the other bytes
  pub put-kept : Kept s (put s i vs) i (length vs)
  put-kept = record { size = length-put; below = put-below; above = put-above }

-- two runs, one behind the other, are one
pub twice : (s : List ℕ) (i n : ℕ) (vs ws : List ℕ) → length vs ≡ n → i + n ≤ length s → put (put s i vs) (i + n) ws ≡ put s i (vs ++ ws)
twice s i n vs ws e h =
    ap (λ (k : ℕ). put (put s i vs) (i + k) ws) (sym e) ∙ put-put s i vs (subst (λ (k : ℕ). i + k ≤ length s) (sym e) h) ws

pub length-bytes4 : (x : ℕ) → length (bytes4 x) ≡ 4
unfolding bytes4
length-bytes4 x = refl

pub length-bytes8 : (x : ℕ) → length (bytes8 x) ≡ 8
unfolding bytes4 bytes8
length-bytes8 x = refl

-- the bytes of a word, as std writes them
pub le_bytes8 : (x : ℕ) → to_le_bytes w64 x ≡ bytes8 x
unfolding bytes4 bytes8
le_bytes8 x = simp div-div-eq-div-mul

-- a part of a slice that is written over is a run put there
pub put_part : (s : List ℕ) (i : ℕ) (vs : List ℕ) → length vs ≡ 8 → put_mid i (i + 8 - i) s vs ≡ put s i vs
unfolding put
put_part s i vs e = ap (λ (l : List ℕ). take i s ++ (vs ++ l)) (drop-drop (i + 8 - i) i s ∙ ap (λ (n : ℕ). drop n s) (let z : i + (i + 8 - i) ≡ i + length vs = omega arith in z))

-- ---- what is read of bytes that were written

two_back : (x : ℕ) → x % 0x100 + 0x100 * (x / 0x100 % 0x100) ≡ x % 0x1_0000
two_back x = omega arith

four-back : (x : ℕ) → x % 0x1_0000 + 0x1_0000 * (x / 0x1_0000 % 0x1_0000) ≡ x % 0x1_0000_0000
four-back x = omega arith

eight_back : (x : ℕ) → x < 0x1_0000_0000_0000_0000 → x % 0x1_0000_0000 + 0x1_0000_0000 * (x / 0x1_0000_0000 % 0x1_0000_0000) ≡ x
eight_back x h = omega arith

four-here : (x : ℕ) (ys : List ℕ) → four (bytes4 x ++ ys) 0 ≡ x % 0x1_0000_0000
unfolding four bytes4
four-here x ys =
    ap (λ (n : ℕ). n + 0x1_0000 * (x / 0x1_0000 % 0x100 + 0x100 * (x / 0x1_0000 / 0x100 % 0x100))) (two_back x)
    ∙ ap (λ (n : ℕ). x % 0x1_0000 + 0x1_0000 * n) (two_back (x / 0x1_0000))
    ∙ four-back x

four_there : (x y : ℕ) (ys : List ℕ) → four (bytes4 y ++ (bytes4 x ++ ys)) 4 ≡ x % 0x1_0000_0000
unfolding bytes4 four
four_there x y ys =
    ap (λ (n : ℕ). n + 0x1_0000 * (x / 0x1_0000 % 0x100 + 0x100 * (x / 0x1_0000 / 0x100 % 0x100))) (two_back x)
    ∙ ap (λ (n : ℕ). x % 0x1_0000 + 0x1_0000 * n) (two_back (x / 0x1_0000))
    ∙ four-back x

word-here : (x : ℕ) (ys : List ℕ) → x < 0x1_0000_0000_0000_0000 → word (bytes8 x ++ ys) 0 ≡ x
unfolding word bytes8
word-here x ys h =
    ap (λ (l : List ℕ). four l 0 + 0x1_0000_0000 * four l 4) (append_assoc (bytes4 x) (bytes4 (x / 0x1_0000_0000)) ys)
    ∙ ap (λ (n : ℕ). n + 0x1_0000_0000 * four (bytes4 x ++ (bytes4 (x / 0x1_0000_0000) ++ ys)) 4) (four-here x (bytes4 (x / 0x1_0000_0000) ++ ys))
    ∙ ap (λ (n : ℕ). x % 0x1_0000_0000 + 0x1_0000_0000 * n) (four_there (x / 0x1_0000_0000) x ys)
    ∙ eight_back x h

word_later : (xs ys : List ℕ) (k : ℕ) → word (xs ++ ys) (length xs + k) ≡ word ys k
unfolding word four
word_later xs ys k = simp (add_assoc, get_or-append-add)

-- ---- a word

module _ (s : List ℕ) (i x : ℕ) where
  pub word-short : length s < i + 8 → s ≡ put_word s i x
  unfolding put_word
  word-short h = sym (ap (λ (b : Bool). cond b (put s i (bytes8 x)) s) (lt-leb (i + 8) (length s) h))

  module _ (h : i + 8 ≤ length s) where
    pub word-put : put s i (bytes8 x) ≡ put_word s i x
    unfolding put_word
    word-put = sym (ap (λ (b : Bool). cond b (put s i (bytes8 x)) s) (le-leb (i + 8) (length s) h))

    pub word_kept : Kept s (put_word s i x) i 8
    word_kept =
        let k = put-kept s i (bytes8 x) (omega (arith, length-bytes8 x)) in
        subst (λ (t : List ℕ). Kept s t i 8) word-put (subst (λ (n : ℕ). Kept s (put s i (bytes8 x)) i n) (length-bytes8 x) k)

    put_back : x < 0x1_0000_0000_0000_0000 → word (put s i (bytes8 x)) i ≡ x
    unfolding put
    put_back b =
        ap (word (put s i (bytes8 x))) (sym (add-zero i) ∙ ap (λ (n : ℕ). n + 0) (sym (length-take-le i s (omega arith))))
        ∙ word_later (take i s) (bytes8 x ++ drop (i + length (bytes8 x)) s) 0
        ∙ word-here x (drop (i + length (bytes8 x)) s) b

    pub word_back : x < 0x1_0000_0000_0000_0000 → word (put_word s i x) i ≡ x
    word_back b = ap (λ (t : List ℕ). word t i) (sym word-put) ∙ put_back b
