-- What is taken of the bytes that the reader shows. Assumes nothing.
use Rattle.std.proofs.Common.{rules, arith, ◌≢◌, []}
use Rattle.std.proofs.lemmas.List.Elements.{All-nil}
use Rattle.std.proofs.lemmas.Grind.{common_steps}
use Rattle.std.proofs.KnownBytes.{Consumes-nil, Consumes-kept}
use Rattle.recorded.proofs.lines.read_part.Goals as goal

pub returns-in-Err-clause-ok : goal.returns-in-Err-clause-ok
returns-in-Err-clause-ok g c = ([], All-nil (λ b. b ≢ 10), grind (arith, common_steps), Consumes-kept _ _ _ [] (Consumes-nil _) c.fill_buf.follows.holds-at-none.0, λ none. absurd (search rules))
