-- The words of a component in some bytes. Definitions only.
use Rattle.std.specs.Prelude.{ℕ, ◌+◌, List}
use Rattle.layout.specs.Words.{word}
use Rattle.component_layout.specs.declared.component_numbers.Numbered.{Numbered}

-- the six words at byte `at` of s: the kind, then the five that go with it
abbrev pub words_at : List ℕ → ℕ → Numbered ℕ
words_at s at = record { kind = word s at; a = word s (at + 8); b = word s (at + 16); c = word s (at + 24); d = word s (at + 32); e = word s (at + 40) }
