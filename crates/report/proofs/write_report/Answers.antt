-- `write_report` meets its contract. Assumes nothing.
use Rattle.std.proofs.Common.{arith, ap, ◌∙◌, length, List, ℕ}
use Rattle.layout.specs.Writing.{put}
use Rattle.report.specs.Report.{padded}
use Rattle.report.proofs.Laws.{no_room, written}
use Rattle.report.proofs.write_report.Goals as goal

pub returns-then-out-lt64 : goal.returns-then-out-lt64
returns-then-out-lt64 c = no_room _ _ (omega arith)

pub write_padded-requires : goal.write_padded-requires
write_padded-requires c = (c.as_bytes-bytes.ensures.short, omega arith)

pub returns : goal.returns
returns c =
    written c.args.out.now _ (omega arith) (ap length c.as_bytes-bytes.ensures.same) c.write_word.ensures c.write_word-2.ensures c.write_word-3.ensures
    (c.write_padded.ensures ∙ ap (λ (t : List ℕ). put c.write_word-3.new.s 24 (padded t)) c.as_bytes-bytes.ensures.same) c.write_word-4.ensures
