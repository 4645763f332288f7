-- The bytes of a tag's record, and a record made of bytes. Assumes nothing.
use mathlib.Core.Path.{◌≡◌, sym, ◌∙◌, ap, ap₂}
use mathlib.Core.Bool.{true, false}
use mathlib.Core.List.{List, [], ◌∷◌, ◌++◌}
use Prim.Native.Nat.{ℕ, ◌+◌, ◌-◌, ◌<◌, ◌≤◌, min}
use native.Mathlib.Omega.{arith}
use native.Mathlib.Decide.{dec_le}
use native.Mathlib.Numerals.{add-one}
use lib.ListN.{take, drop, length, get_or, set, replicate, length-take, take-append-drop}
use lib.Seq.{drop-drop, get_or-take, take-suc-set, take-suc, take_all}
use borrow.Rule.Slice.PartMut.{put_mid}
use Rattle.std.proofs.lemmas.List.{drop-replicate}
use Rattle.std.proofs.lemmas.Slice.{take-put_mid, drop-put_mid}
use borrow.Author.Tests.{le-leb, leb-true, le-ltb, ltb-false}
use Rattle.tag.specs.declared.Tag.{Tag as Label}
use Rattle.tag.specs.Tags.{Tag, overlong}
use Rattle.tag.specs.View.{bytes_of, tag_fits, Labelled, Made}

-- ---- bytes that are not overlong

pub short-length : (t : Tag) → overlong t ≡ false → length t ≤ 32
unfolding overlong
short-length t h = ltb-false 32 (length t) h

pub length-short : (t : Tag) → length t ≤ 32 → overlong t ≡ false
unfolding overlong
length-short t h = le-ltb 32 (length t) h

pub short_whole : (t : Tag) → overlong t ≡ false → take 32 t ≡ t
short_whole t h = take_all 32 t (short-length t h)

pub made_whole : (t : Tag) (r : Label) → overlong t ≡ false → Made (take 32 t) r → Made t r
made_whole t r h m = rw (short_whole t h) at m

-- ---- the bytes of a record

module _ (t : Label) (size : length t.bytes ≡ 32) where
  pub bytes_of-length : length (bytes_of t) ≡ min t.len 32
  unfolding bytes_of
  bytes_of-length = length-take t.len t.bytes ∙ ap (min t.len) size

  pub bytes_of-short : overlong (bytes_of t) ≡ false
  bytes_of-short = length-short (bytes_of t) (omega (arith, bytes_of-length))

  pub bytes_of_at : (i : ℕ) → i < length (bytes_of t) → get_or (bytes_of t) i 0 ≡ get_or t.bytes i 0
  unfolding bytes_of
  bytes_of_at i h = get_or-take t.len t.bytes i 0 (omega (arith, bytes_of-length))

  -- a length past the size counts as the size
  pub bytes_of-clamped : (n : ℕ) → n ≡ min t.len 32 → take n t.bytes ≡ bytes_of t
  unfolding bytes_of
  bytes_of-clamped n e = go (dec_le t.len 32)
    where
      go : Dec (t.len ≤ 32) → take n t.bytes ≡ take t.len t.bytes
      go (yes h) = ap (λ (k : ℕ). take k t.bytes) (let z : n ≡ t.len = omega arith in z)
      go (no h) = take_all n t.bytes (omega arith) ∙ sym (take_all t.len t.bytes (omega arith))

pub fits_len : (t : Label) → tag_fits t ≡ true → t.len ≤ 32
unfolding tag_fits
fits_len t h = leb-true t.len 32 h

module _ (t : Tag) (r : Label) (size : length r.bytes ≡ 32) where
  pub labelled_len : Labelled t r → r.len ≡ length t
  labelled_len l = omega (arith, bytes_of-length r size, fits_len r l.short, ap length l.bytes)

  pub labelled-short : Labelled t r → overlong t ≡ false
  labelled-short l = rw l.bytes at (bytes_of-short r size)

  -- one record alone is made of bytes
  pub made_is : Made t r → r ≡ record { bytes = t ++ replicate (32 - length t) 0; len = length t }
  unfolding bytes_of
  made_is m =
      let e = labelled_len m.labelled in
      let whole : r.bytes ≡ t ++ replicate (32 - length t) 0 =
      sym (take-append-drop r.len r.bytes) ∙ ap₂ ◌++◌ m.labelled.bytes (m.padded ∙ ap (λ (n : ℕ). replicate (32 - n) 0) e) in
      ap₂ {C = Label} (λ (b : List ℕ) (n : ℕ). record { bytes = b; len = n }) whole e

-- ---- bytes stored one after the other

pub byte_stored : (b t : List ℕ) (j : ℕ) → j < length b → j < length t → take j b ≡ take j t → take (j + 1) (set b j (get_or t j 0)) ≡ take (j + 1) t
byte_stored b t j h k e =
    rw add-one (take-suc-set b j (get_or t j 0) h ∙ ap (λ (l : List ℕ). l ++ (get_or t j 0 ∷ [])) e ∙ sym (take-suc t j 0 k))

-- a tag made of another's bytes
pub copied : (s r : Label) (now : Tag) → length s.bytes ≡ 32 → length r.bytes ≡ 32 → now ≡ bytes_of s → Made (take 32 now) r
    → Made (bytes_of s) r × (r.len ≡ length (bytes_of s)) × (r.len ≤ 32)
copied s r now size size₂ e made =
    let m = made_whole (bytes_of s) r (bytes_of-short s size) (rw e at made) in
    (m, labelled_len (bytes_of s) r size₂ m.labelled, fits_len r m.labelled.short)

-- more bytes behind those of a tag
pub joined : (t more now : Tag) (r : Label) → length r.bytes ≡ 32 → now ≡ more → Made t r → r.len + length more ≤ 32
    → Made (t ++ more) (record { bytes = put_mid r.len (r.len + length more - r.len) r.bytes now; len = r.len + length more })
unfolding bytes_of tag_fits
joined t more now r size e m h =
    let few : length now ≡ length more = ap length e in
    let n = r.len + length more in
    record {
      labelled = record {
        bytes = take-put_mid r.len (n - r.len) r.bytes now n (omega arith) (omega arith) ∙ ap₂ ◌++◌ m.labelled.bytes e;
        short = le-leb n 32 h;
      };
      padded =
          drop-put_mid r.len (n - r.len) r.bytes now n (omega arith) (omega arith) (omega arith)
          ∙ sym (drop-drop (length more) r.len r.bytes)
          ∙ (ap (drop (length more)) m.padded ∙ drop-replicate (length more) (32 - r.len) 0)
          ∙ ap (λ (k : ℕ). replicate k 0) (let z : 32 - r.len - length more ≡ 32 - n = omega arith in z);
    }

pub made : (b t : List ℕ) (n : ℕ) → n ≡ min (length t) 32 → take n b ≡ take n t → drop n b ≡ replicate (32 - n) 0 → Made (take 32 t) (record { bytes = b; len = n })
unfolding bytes_of tag_fits
made b t n e p q = record { labelled = record { bytes = p ∙ go (dec_le (length t) 32); short = le-leb n 32 (omega arith) }; padded = q }
  where
    go : Dec (length t ≤ 32) → take n t ≡ take 32 t
    go (yes h) = take_all n t (omega arith) ∙ sym (take_all 32 t h)
    go (no h) = ap (λ (k : ℕ). take k t) (let z : n ≡ 32 = omega arith in z)
