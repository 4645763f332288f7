-- What a call reports, and its 64 bytes (docs/ABI.md, "The report"). Definitions only.
use Rattle.std.specs.Prelude.{ℕ, cond, List, ◌++◌, leb, length, take, replicate}
use Rattle.tag.specs.Tags.{Tag, empty}
use Rattle.model.specs.Edit.{Answer, done, made, refused}
use Rattle.model.specs.Form.{Reply, bits, handed}
use Rattle.layout.specs.Writing.{bytes8, put}

-- the number of the refusal, or 0; the index and the tag that a refusal carries, or the tag made; the bits or the count answered
pub record Report : Type 0 where
  pub code : ℕ
  pub index : ℕ
  pub tag : Tag
  pub number : ℕ

-- a tag in 32 bytes: 0 past its length
unfoldable pub padded : Tag → List ℕ
padded t = take 32 (t ++ replicate 32 0)

-- words 0, 1 and 2, then the tag, then a word
unfoldable pub bytes_of_report : Report → List ℕ
bytes_of_report r = bytes8 r.code ++ bytes8 r.index ++ bytes8 (length r.tag) ++ padded r.tag ++ bytes8 r.number

-- the bytes `out` with the report in the first 64; where they are fewer, as they were
unfoldable pub reported : List ℕ → Report → List ℕ
reported out r = cond (leb 64 (length out)) (put out 0 (bytes_of_report r)) out

-- the report of an edit
abbrev pub of_answer : Answer → Report
of_answer done = record { code = 0; index = 0; tag = empty; number = 0 }
of_answer (made t) = record { code = 0; index = 0; tag = t; number = 0 }
of_answer (refused n t i) = record { code = n; index = i; tag = t; number = 0 }

-- the report of an asking
abbrev pub of_reply : Reply → Report
of_reply (bits b) = record { code = 0; index = 0; tag = empty; number = b }
of_reply (handed n t i) = record { code = n; index = i; tag = t; number = 0 }
