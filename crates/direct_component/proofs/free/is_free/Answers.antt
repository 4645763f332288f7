-- `direct_component::free::is_free` meets its contract. Assumes nothing.
use Prim.Native.Nat.{min}
use mathlib.Core.Path.{subst}
use Rattle.tag.specs.Tags.{Tag}
use Rattle.tag.specs.View.{bytes_of}
use Rattle.layout.specs.Words.{word}
use Rattle.finding.specs.Rows.{component_at, RowSought}
use Rattle.direct_component.proofs.Laws.Free.{is_free}
use Rattle.direct_component.proofs.free.is_free.Goals as goal

pub returns : goal.returns
returns c =
    let s = c.args.s.now in
    is_free s (bytes_of c.args.t) c.row_of.result (subst (λ (t : Tag). RowSought s component_at (min (word s 8) 64) t c.row_of.result) c.as_bytes.ensures.same c.row_of.ensures) c.is_none.ensures
