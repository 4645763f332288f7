-- What is written so far: the tag, the count and the places that were gone over. Assumes nothing.
use Rattle.std.proofs.Common.{◌++◌, take, length, codes, decimal}
use Rattle.std.specs.Fmt.{HasWritten, IsPlainFormatter}
use Rattle.std.specs.List.{flat_map}
use Rattle.tag.specs.View.{bytes_of}
use Rattle.word_writing.specs.Words.{tag_word}
use Rattle.record.specs.Text.{next_place}
use Rattle.record.proofs.writing.ListWordsDisplay.fmt.Given as goal

abbrev pub invariant-loop-place : goal.invariant-loop-place
invariant-loop-place g l =
    IsPlainFormatter l.fn.f → HasWritten g.W.Write.write_str_gives l.fn.f (tag_word (bytes_of l.self.0.now.tag) ++ (codes " " ++ (decimal (length l.places) ++ flat_map next_place (take l.place-index l.places)))) l.f
