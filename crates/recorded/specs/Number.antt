-- Which words spell a recorded number. Definitions only.
use Rattle.std.specs.Prelude.{ℕ, Bool, ◌&&◌, ◌||◌, List, length, nat_le, ◌==◌}
use Rattle.std.specs.List.{list_all}

-- a hexadecimal digit in lower case
abbrev pub is_digit : ℕ → Bool
is_digit b = (nat_le 48 b && nat_le b 57) || (nat_le 97 b && nat_le b 102)

-- 16 of them
abbrev pub spells : List ℕ → Bool
spells word = length word == 16 && list_all is_digit word
