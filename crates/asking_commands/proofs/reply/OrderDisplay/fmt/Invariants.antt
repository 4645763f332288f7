-- What is written so far: the count, and the tags of the positions that were gone over. Assumes nothing.
use Rattle.std.proofs.Common.{◌++◌, take, decimal}
use Rattle.std.specs.Fmt.{HasWritten, IsPlainFormatter}
use Rattle.std.specs.List.{flat_map}
use Rattle.asking_commands.specs.Answers.{next_tag}
use Rattle.asking_commands.proofs.reply.OrderDisplay.fmt.Given as goal

abbrev pub invariant-loop-position : goal.invariant-loop-position
invariant-loop-position g l =
    IsPlainFormatter l.fn.f → HasWritten g.W.Write.write_str_gives l.fn.f (decimal l.self.graph.count ++ flat_map (next_tag l.self.model.now) (take l.position-index l.position-items)) l.f
