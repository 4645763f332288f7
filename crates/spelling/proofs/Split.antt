-- The words of a line by the position of its first space. Assumes nothing.
use Rattle.std.proofs.Common.{rules, ◌≡◌, ℕ, ◌+◌, ◌-◌, length, Bool, List, [], ◌∷◌, Some, None, refl}
use Rattle.std.specs.Prelude.{take, drop}
use Rattle.std.specs.List.{slice_split, position}
use Rattle.std.proofs.lemmas.List.Splits.{slice_split_first}
use Rattle.std.proofs.lemmas.List.{take_rest}

pub split_at_first : {X : Type 0} (p : X → Bool) (xs : List X) (end : ℕ) → position p xs ≡ Some end → slice_split p xs ≡ take end xs ∷ slice_split p (take (length xs - (end + 1)) (drop (end + 1) xs))
split_at_first p (x ∷ xs) end e = grind (rules, slice_split_first p (x ∷ xs) x, take_rest (x ∷ xs))
split_at_first p [] end e = grind (rules)

pub split_with_none : {X : Type 0} (p : X → Bool) (xs : List X) → position p xs ≡ None → slice_split p xs ≡ xs ∷ []
split_with_none p [] e = refl
split_with_none p (x ∷ xs) e = grind (rules, split_with_none p xs)
