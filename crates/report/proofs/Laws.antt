-- A tag in 32 bytes, and a report as runs of bytes one behind the other. Assumes nothing.
use Prim.Native.Nat.{ℕ, ◌+◌, ◌-◌, ◌≤◌, ◌<◌}
use mathlib.Core.Path.{◌≡◌, refl, sym, ap, ◌∙◌}
use mathlib.Core.Bool.{Bool, cond}
use mathlib.Core.List.{List, ◌++◌}
use native.Mathlib.Omega.{arith}
use lib.ListN.{length, take, replicate, length-append, length-replicate}
use lib.Seq.{length-take-le, drop-drop}
use borrow.Rule.Slice.PartMut.{put_mid}
use Rattle.std.proofs.lemmas.List.{take-replicate}
use Rattle.std.proofs.Math.Seq.{take-append-add}
use borrow.Author.Tests.{le-leb, lt-leb}
use Rattle.tag.specs.Tags.{Tag}
use Rattle.layout.specs.Writing.{bytes8, put, put_word}
use Rattle.layout.proofs.Put.{length-bytes8, put-kept, twice, word-put}
use Rattle.report.specs.Report.{Report, padded, bytes_of_report, reported}

-- ---- a tag in 32 bytes

-- a part of a slice overwritten is a run put there
mid_is : (s vs : List ℕ) (i k : ℕ) → length vs ≡ k → put_mid i k s vs ≡ put s i vs
unfolding put
mid_is s vs i k e = rw (e, drop-drop k i s)

module _ (t : Tag) where
  pub length-padded : length (padded t) ≡ 32
  unfolding padded
  length-padded =
      length-take-le 32 (t ++ replicate 32 0) (omega (arith, length-append t (replicate 32 0), length-replicate {A = ℕ} 32 0))

  -- its bytes, and 0 behind them
  padded-is : length t ≤ 32 → t ++ replicate (32 - length t) 0 ≡ padded t
  unfolding padded
  padded-is h =
      let whole : length t + (32 - length t) ≡ 32 = omega arith in
      ap (λ (l : List ℕ). t ++ l) (sym (take-replicate (32 - length t) 32 0 (omega arith)))
      ∙ sym (take-append-add t (replicate 32 0) (32 - length t))
      ∙ ap (λ (n : ℕ). take n (t ++ replicate 32 0)) whole

  -- two parts of a slice overwritten, with its bytes and with 0
  pub padded-put : (s : List ℕ) {u v : List ℕ} {k l : ℕ} → length t ≤ 32 → 64 ≤ length s → k ≡ length t → l ≡ 32 - length t → u ≡ t → v ≡ replicate l 0
      → put_mid (24 + length t) l (put_mid 24 k s u) v ≡ put s 24 (padded t)
  padded-put s {u} {v} {k} {l} h room e f p q =
      rw (p, q, e, f, mid_is s t 24 (length t) refl, mid_is (put s 24 t) (replicate (32 - length t) 0) (24 + length t) (32 - length t) (length-replicate (32 - length t) 0))
      (twice s 24 (length t) t (replicate (32 - length t) 0) refl (omega arith) ∙ ap (put s 24) (padded-is h))

-- ---- the report

module _ (s : List ℕ) (r : Report) where
  pub no_room : length s < 64 → s ≡ reported s r
  unfolding reported
  no_room h = sym (ap (λ (b : Bool). cond b (put s 0 (bytes_of_report r)) s) (lt-leb 64 (length s) h))

  module _ (h : 64 ≤ length s) where
    -- a run of n bytes behind one of k
    next : (k n : ℕ) (vs ws : List ℕ) → length vs ≡ k → length ws ≡ n → length (vs ++ ws) ≡ k + n
    next k n vs ws e f = length-append vs ws ∙ omega arith

    room : (vs : List ℕ) (k : ℕ) → length vs ≡ k → k ≤ 64 → length (put s 0 vs) ≡ length s
    room vs k e l = (put-kept s 0 vs (omega arith)).size

    -- a word behind k bytes that are written
    word_next : (vs : List ℕ) (k x : ℕ) → length vs ≡ k → k + 8 ≤ 64 → put_word (put s 0 vs) k x ≡ put s 0 (vs ++ bytes8 x)
    word_next vs k x e l =
        sym (word-put (put s 0 vs) k x (omega (arith, room vs k e (omega arith))))
        ∙ ap (λ (n : ℕ). put (put s 0 vs) n (bytes8 x)) (let z : k ≡ 0 + k = omega arith in z)
        ∙ twice s 0 k vs (bytes8 x) e (omega arith)

    abbrev a : List ℕ
    a = bytes8 r.code

    abbrev b : List ℕ
    b = a ++ bytes8 r.index

    abbrev c : List ℕ
    c = b ++ bytes8 (length r.tag)

    abbrev d : List ℕ
    d = c ++ padded r.tag

    length_a : length a ≡ 8
    length_a = length-bytes8 r.code

    length_b : length b ≡ 16
    length_b = next 8 8 a (bytes8 r.index) length_a (length-bytes8 r.index)

    length_c : length c ≡ 24
    length_c = next 16 8 b (bytes8 (length r.tag)) length_b (length-bytes8 (length r.tag))

    length_d : length d ≡ 56
    length_d = next 24 32 c (padded r.tag) length_c (length-padded r.tag)

    -- the five writes
    pub written : {t u v w x : List ℕ} {n : ℕ} → n ≡ length r.tag → t ≡ put_word s 0 r.code → u ≡ put_word t 8 r.index → v ≡ put_word u 16 n
        → w ≡ put v 24 (padded r.tag) → x ≡ put_word w 56 r.number → x ≡ reported s r
    unfolding reported bytes_of_report
    written {n = n} m e f g i j =
        let one = e ∙ sym (word-put s 0 r.code (omega arith)) in
        let two = f ∙ ap (λ (l : List ℕ). put_word l 8 r.index) one ∙ word_next a 8 r.index length_a (omega arith) in
        let three =
        g ∙ ap (λ (l : List ℕ). put_word l 16 n) two ∙ ap (put_word (put s 0 b) 16) m ∙ word_next b 16 (length r.tag) length_b (omega arith) in
        let four = i ∙ ap (λ (l : List ℕ). put l 24 (padded r.tag)) three ∙ twice s 0 24 c (padded r.tag) length_c (omega arith) in
        let five = j ∙ ap (λ (l : List ℕ). put_word l 56 r.number) four ∙ word_next d 56 r.number length_d (omega arith) in
        five ∙ sym (ap (λ (k : Bool). cond k (put s 0 (bytes_of_report r)) s) (le-leb 64 (length s) h))
