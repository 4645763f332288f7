-- Words and strings in bytes. Past the end of the bytes stands 0. Definitions only.
use Rattle.std.specs.Prelude.{ℕ, ◌+◌, ◌*◌, List, get_or, take, drop}

-- the number whose two, four and eight bytes stand at i, the lowest first
abbrev pub two : List ℕ → ℕ → ℕ
two s i = get_or s i 0 + 0x100 * get_or s (i + 1) 0

unfoldable pub four : List ℕ → ℕ → ℕ
four s i = two s i + 0x1_0000 * two s (i + 2)

unfoldable pub word : List ℕ → ℕ → ℕ
unfolding four
word s i = four s i + 0x1_0000_0000 * four s (i + 4)

-- the string at i: a word for its length, then its bytes
unfoldable pub text : List ℕ → ℕ → List ℕ
text s i = take (word s i) (drop (i + 8) s)
