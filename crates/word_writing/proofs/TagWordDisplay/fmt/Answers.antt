-- One byte more. Assumes nothing.
use Rattle.std.proofs.Common.{rules, sym, ap, ◌∙◌, get_or, []}
use Rattle.std.specs.List.{flat_map}
use Rattle.std.proofs.lemmas.List.{take_more, flat_map_more}
use Rattle.std.proofs.Output.{has_written_append, has_written_of_eq}
use Rattle.word_writing.specs.Words.{hex}
use Rattle.word_writing.proofs.Hex.{shown}
use Rattle.word_writing.proofs.TagWordDisplay.fmt.Goals as goal

pub loop-byte-preserved : goal.loop-byte-preserved
loop-byte-preserved g c p =
    let i = c.loop-byte.byte-index in
    let bytes = c.as_bytes-bytes.result.now in
    let byte = shown 1 (get_or bytes i 0) c.in_radix.result c.laid_out.result c.in_radix.ensures c.laid_out.ensures (search rules) (search rules) _ _ _ _ c.write-in-loop-byte.ensures.writes in
    has_written_of_eq _ _ _ _ _ (flat_map_more (hex 2) [] _ _ ∙ ap (flat_map (hex 2)) (sym (take_more bytes i 0 (search rules))))
    (has_written_append _ _ _ _ _ _ (c.loop-byte.invariant p) (byte (search rules) (search rules)))
