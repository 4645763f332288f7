-- 16 hexadecimal digits are read as a number: they fit 64 bits. Assumes nothing.
use Rattle.std.proofs.Common.{rules, arith, ◌≡◌, ℕ, ◌<◌, ◌^◌, List, [], ◌∷◌, length, true, Result, Ok, refl, sym, ap, subst}
use Rattle.std.specs.List.{list_all}
use Rattle.std.specs.Char.{digit_value}
use Rattle.std.specs.Str.Parse.{AllDigits, IsNumeral, digits_value, without_leading_plus, ParsesUnsigned}
use Rattle.std.proofs.lemmas.Bool.{and_parts, eqb-true}
use Rattle.std.proofs.lemmas.Int.Digits.{digits_value-lt}
use Rattle.std.proofs.lemmas.Result.{Ok-from_Ok_iff}
use Rattle.recorded.specs.Number.{is_digit, spells}

digit : (b : ℕ) → is_digit b ≡ true → digit_value b < 16
digit b h = grind (rules)

digits : (word : List ℕ) → list_all is_digit word ≡ true → AllDigits 16 word
digits [] h = tt
digits (b ∷ word) h = let p = and_parts _ _ h in (digit b p.0, digits word p.1)

no_plus : (word : List ℕ) → list_all is_digit word ≡ true → without_leading_plus word ≡ word
no_plus [] h = refl
no_plus (b ∷ word) h = grind (rules)

pub read : {E : Type 0} (word : List ℕ) (r : Result ℕ E) → spells word ≡ true → ParsesUnsigned 64 16 word r → r ≡ Ok (digits_value 16 (without_leading_plus word))
read word r spelled p =
    let parts = and_parts _ _ spelled in
    let h = parts.1 in
    let long = eqb-true (length word) 16 parts.0 in
    let same = sym (no_plus word h) in
    let d = digits word h in
    Ok-from_Ok_iff r _ _ p (subst (λ ds. IsNumeral 16 ds × (digits_value 16 ds < 2 ^ 64)) same ((omega arith, d), omega (arith, digits_value-lt 16 word d, ap (λ k. 16 ^ k) long)))
