-- One component more in the bytes. Assumes nothing.
use Rattle.std.specs.Prelude.{Option, Some, None}
use Prim.Native.Nat.{ℕ, ◌<◌, min}
use native.Mathlib.Omega.{arith}
use mathlib.Core.Path.{◌≡◌, sym, subst}
use mathlib.Core.List.{List}
use mathlib.Core.Option.{none}
use lib.ListN.{length}
use Rattle.tag.specs.declared.Tag.{Tag as Label}
use Rattle.tag.specs.Tags.{Tag}
use Rattle.tag.specs.View.{bytes_of}
use Rattle.component.specs.declared.model_component.Component.{Component}
use Rattle.model.specs.Table.{find}
use Rattle.model.specs.Edit.{Edit, edit, made, with_component}
use Rattle.model.proofs.Laws.Valid.{Good, good}
use Rattle.held.proofs.Laws.Changes.{becomes_refl, appended}
use Rattle.layout.specs.Words.{word}
use Rattle.standing.specs.Standing.{Passing}
use Rattle.direct_rows.specs.Took.{Took, Makes}
use Rattle.direct_rows.proofs.Laws.Parts.{whole}
use Rattle.direct_rows.proofs.Laws.Found.{components-length}
use Rattle.direct_adding.specs.Put.{More}
use Rattle.direct_adding.specs.Plain.{Grew}
use Rattle.direct_adding.proofs.Laws.Put.{more_whole, more-spares}
use Rattle.direct_adding.proofs.Laws.Edits.{took_by}

module _ {s : List ℕ} (k : Passing s) {n : ℕ} (e : n ≡ min (word s 8) 64) (l : n < 64) where
  pub stands : Good k.model
  stands = good k.model k.sound

  pub counted : n ≡ word s 8
  counted = omega (arith, (whole k.is).few)

  -- fewer than 64
  pub room : length k.model.components < 64
  room = omega (arith, counted, components-length (whole k.is))

  module _ (g : Edit) {u : List ℕ} {t : Tag} {c : Component} {d : Tag} (o : find t k.model.components ≡ none) where
    plain_took : edit g k.model ≡ record { answer = made t; model = with_component k.model t c d } → More n t c d s u → Took g (made t) s u
    plain_took q p =
        let w = whole k.is in
        took_by g k.is k.sound q (more_whole w counted l p) (appended t c k.model.components o stands.once) (becomes_refl stands.once-lists) (more-spares w counted l p)

-- what `add_more_in` answers, for a tag that no component has
pub grew_makes : {s : List ℕ} (k : Passing s) (g : Edit) (x : Label) (c : Component) (d : Label) (u : List ℕ) (r : Option Label) → find (bytes_of x) k.model.components ≡ none
    → (length k.model.components < 64 → edit g k.model ≡ record { answer = made (bytes_of x); model = with_component k.model (bytes_of x) c (bytes_of d) })
    → Grew x c d s u r → Makes g s u r
grew_makes {s} k g x c d u (Some r) o q (e, p) = subst (λ (z : Label). Took g (made (bytes_of z)) s u) (sym e) (plain_took k p.counted p.room g o (q (room k p.counted p.room)) p.put)
grew_makes k g x c d u None o q e = e
