-- `is` as std's comparison of lists, whose laws it has.
use Rattle.std.specs.Prelude.{◌≡◌, ◌&&◌, [], ◌∷◌, eqb, nat_eq}
use mathlib.Core.Path.{refl, sym, ◌∙◌, ap, subst}
use Rattle.std.specs.Cmp.{IsEquivalence}
use Rattle.std.specs.Cmp.Lexicographic.{pointwise, slice_cmp, nat_list_eq_equiv, texts_ties}
use Rattle.std.specs.Ordering.{nat_cmp, eq_by_cmp}
use Rattle.tag.specs.Tags.{Tag, is}

pub pointwise_is : (s t : Tag) → pointwise nat_eq s t ≡ is s t
unfolding is
pointwise_is [] [] = refl
pointwise_is [] (b ∷ t) = refl
pointwise_is (a ∷ s) [] = refl
pointwise_is (a ∷ s) (b ∷ t) = ap (λ c. eqb a b && c) (pointwise_is s t)

pub is_equivalence : IsEquivalence is
is_equivalence = subst IsEquivalence (λ i s t. pointwise_is s t i) nat_list_eq_equiv

pub is_ties : (s t : Tag) → is s t ≡ eq_by_cmp (slice_cmp nat_cmp) s t
is_ties s t = sym (pointwise_is s t) ∙ texts_ties s t
