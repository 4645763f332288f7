-- What a tally holds once a row is counted. Definitions only.
use Rattle.std.specs.Prelude.{ℕ, ◌+◌, ◌-◌, ◌^◌, min}
use Rattle.recorded.specs.declared.Outcome.{Outcome}
use Rattle.recorded.specs.declared.Outcome.TheVariants.{Agreed, Differed, Unread}
use Rattle.recorded.specs.declared.Tally.{Tally}

-- one more, where a word holds it
abbrev pub more : ℕ → ℕ
more n = min (n + 1) (2 ^ 64 - 1)

abbrev pub counted : Tally → Outcome → Tally
counted t Agreed = record { rows = more t.rows; agreed = more t.agreed; differed = t.differed; unread = t.unread }
counted t Differed = record { rows = more t.rows; agreed = t.agreed; differed = more t.differed; unread = t.unread }
counted t Unread = record { rows = more t.rows; agreed = t.agreed; differed = t.differed; unread = more t.unread }
