-- `graph::computation_graph::placed` meets its contract. Assumes nothing.
use Rattle.std.proofs.Common.{arith, refl, take, ap, length, ◌∙◌}
use lib.Seq.{take-take, length-take-le}
use Rattle.std.specs.Array.{IsFirstChunk}
use Rattle.std.proofs.lemmas.Option.{MatchOption-at_some}
use Rattle.graph.proofs.computation_graph.placed.Goals as goal

pub returns : goal.returns
returns c =
    let chunk : IsFirstChunk c.args.w.now c.unwrap.result.now 64 = MatchOption-at_some _ _ _ c.unwrap.ensures c.first_chunk.ensures.cases in
    record {
      count = refl;
      order = c.first_nodes.ensures;
      inputs = record { r_length = ap length chunk.same ∙ length-take-le 64 c.args.w.now chunk.enough; same = ap (take 64) chunk.same ∙ take-take 64 64 c.args.w.now (omega arith) };
    }
