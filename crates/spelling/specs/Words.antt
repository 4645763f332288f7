-- The words of a line.
use denote.Ref.{Bor}
use Rattle.std.specs.Prelude.{ℕ, List, [], Option, Some, None, ◌==◌}
use Rattle.std.specs.List.{slice_split}
use Rattle.spelling.specs.declared.line_words.Words.{Words}

-- the parts between a line's spaces, in order; an empty part is a word too
abbrev pub words_of : List ℕ → List (List ℕ)
words_of line = slice_split (λ b. b == 32) line

abbrev pub words_of_rest : Option (Bor (List ℕ)) → List (List ℕ)
words_of_rest None = []
words_of_rest (Some rest) = words_of rest.now

-- the words that are still to come
abbrev pub words_left : Words → List (List ℕ)
words_left words = words_of_rest words.0
