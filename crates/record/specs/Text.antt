-- What docs/PROTOCOL.md calls TAG PLACES {TAG|-}, as bytes. Definitions only.
use Rattle.std.specs.Prelude.{ℕ, List, ◌++◌, codes, decimal, length, take}
use Rattle.std.specs.List.{flat_map}
use Rattle.tag.specs.View.{bytes_of}
use Rattle.model.specs.declared.implicit_model.InputList.{InputList}
use Rattle.model.specs.View.{PlaceRecord}
use Rattle.word_writing.specs.Words.{tag_word, place_word}

-- a place, a space ahead of it
abbrev pub next_place : PlaceRecord → List ℕ
next_place p = codes " " ++ place_word p

-- the list's tag, how many places it has, and the places
abbrev pub list_words : InputList → List ℕ
list_words l = let places = take l.count l.places in
    tag_word (bytes_of l.tag) ++ (codes " " ++ (decimal (length places) ++ flat_map next_place places))
