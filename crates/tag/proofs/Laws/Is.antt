-- `is` decides whether two byte strings are the same. Assumes nothing.
use mathlib.Core.Path.{◌≡◌, refl, sym, ◌∙◌, ap}
use mathlib.Core.Logic.{◌≢◌}
use mathlib.Core.Bool.{Bool, true, false, true≢false}
use Rattle.std.specs.Cmp.Lexicographic.{bytes_decides}
use Rattle.tag.specs.Comparing.{pointwise_is, is_equivalence}
use Rattle.tag.specs.Tags.{Tag, is}

pub is_refl : (s : Tag) → is s s ≡ true
is_refl = is_equivalence.refl

pub is_true : (s t : Tag) → is s t ≡ true → s ≡ t
is_true s t e = (bytes_decides s t).0 (pointwise_is s t ∙ e)

-- a test that is true exactly of the same bytes
pub is_only : (r : Bool) (s t : Tag) → (r ≡ true → s ≡ t) → (s ≡ t → r ≡ true) → r ≡ is s t
is_only true s t h k = let e = h refl in sym (is_refl s) ∙ ap (is s) e
is_only false s t h k = no (is s t) refl
  where
    no : (b : Bool) → is s t ≡ b → false ≡ b
    no true e = k (is_true s t e)
    no false e = refl

pub is_false : (s t : Tag) → s ≢ t → is s t ≡ false
is_false s t n = go (is s t) refl
  where
    go : (b : Bool) → is s t ≡ b → is s t ≡ false
    go true e = absurd (n (is_true s t e))
    go false e = e

pub same? : (s t : Tag) → Dec (s ≡ t)
same? s t = go (is s t) refl
  where
    go : (b : Bool) → is s t ≡ b → Dec (s ≡ t)
    go true e = yes (is_true s t e)
    go false e = no (λ p. true≢false (sym (is_refl s) ∙ (ap (is s) p ∙ e)))
