-- A name whose every byte was read. Assumes nothing.
use Rattle.std.proofs.Common.{◌≡◌, ℕ, List, length}
use Rattle.std.proofs.lemmas.Slice.Eq.{HasBytesAt, text_from_reads}

pub name_from_reads : (name p : List ℕ) → length name ≡ length p → HasBytesAt name 0 p → name ≡ p
name_from_reads = text_from_reads
