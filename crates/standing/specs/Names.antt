-- Keys of the tags in the bytes of a model. Definitions only.
use Rattle.std.specs.Prelude.{ℕ, ◌+◌, ◌*◌, ◌%◌, ◌<◌, ◌≡◌, ◌≢◌, List, length, get_or, Option, IfSome, IfNone}
use Rattle.layout.specs.Words.{word}

-- the key of 32 bytes: any number that depends on nothing else would do
unfoldable pub key_in : List ℕ → ℕ → ℕ
key_in s i =
    word s i % 0x2000_0000_0000_0000 + 3 * (word s (i + 8) % 0x0800_0000_0000_0000) + 5 * (word s (i + 16) % 0x0800_0000_0000_0000) + 7 * (word s (i + 24) % 0x0800_0000_0000_0000)

-- the keys of the tags in the first n rows
pub record Keyed (s : List ℕ) (at : ℕ → ℕ) (n : ℕ) (keys : List ℕ) : Type 0 where
  pub size : length keys ≡ 128
  pub each : (i : ℕ) → i < n → get_or keys i 0 ≡ key_in s (at i + 8)

-- where k stands among the first n keys
pub record Sought (keys : List ℕ) (n k : ℕ) (row : Option ℕ) : Type 0 where
  pub within : IfSome row (λ r. r < n)
  pub missing : IfNone row ((i : ℕ) → i < n → get_or keys i 0 ≢ k)

-- no two of the first n keys are the same
abbrev pub Apart : List ℕ → ℕ → Type 0
Apart keys n = (j : ℕ) → j < n → (i : ℕ) → i < j → get_or keys i 0 ≢ get_or keys j 0
