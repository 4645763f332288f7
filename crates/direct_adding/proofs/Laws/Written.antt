-- What the writes of a new component's row promise. Assumes nothing.
use Rattle.std.specs.Prelude.{Some}
use Prim.Native.Nat.{ℕ, ◌+◌, ◌<◌}
use native.Mathlib.Omega.{arith}
use mathlib.Core.Path.{◌≡◌}
use mathlib.Core.List.{List}
use mathlib.Core.Option.{some}
use lib.ListN.{length}
use Rattle.tag.specs.declared.Tag.{Tag as Label}
use Rattle.tag.specs.View.{bytes_of}
use Rattle.model.specs.declared.implicit_model.ComponentEntry.{ComponentEntry}
use Rattle.model.specs.View.{place_of}
use Rattle.layout.specs.Words.{word}
use Rattle.rows.specs.Rows.{place_in}
use Rattle.rows.specs.Written.{Writes}
use Rattle.direct_rows.specs.Rows.{PutEntry}
use Rattle.direct_adding.specs.Put.{More}

pub more-written : (d : Label) {s p q u : List ℕ} {n : ℕ} {e : ComponentEntry} → length s ≡ 27200 → n < 64 → PutEntry n e s p
    → Writes (λ v. place_in v 24) (some (place_of (Some d))) 24 40 p q → Writes (λ v. word v 8) (n + 1) 8 8 q u → More n (bytes_of e.tag) e.component (bytes_of d) s u
unfolding place_of
more-written d {p = p} {q = q} size h k f g =
    let a = k.wrote size h in
    let b = f.wrote (omega (arith, a.kept.size)) in
    record { placed = p; named = q; entry = a; default = b; count = g.wrote (omega (arith, a.kept.size, b.kept.size)) }
