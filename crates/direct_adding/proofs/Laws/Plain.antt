-- A component without inputs, added in the bytes. Assumes nothing.
use Rattle.std.specs.Prelude.{Option}
use Prim.Native.Nat.{ℕ}
use mathlib.Core.Path.{◌≡◌, sym, ap, subst, ◌∙◌}
use mathlib.Core.Bool.{true, false}
use mathlib.Core.List.{List}
use mathlib.Core.Option.{none}
use Rattle.tag.specs.declared.Tag.{Tag as Label}
use Rattle.tag.specs.Tags.{Tag, overlong}
use Rattle.tag.specs.View.{Labelled}
use Rattle.component.specs.declared.model_component.Component.{Component}
use Rattle.model.specs.Table.{find}
use Rattle.model.specs.Edit.{made, with_component, add_plain}
use Rattle.standing.specs.Standing.{Passing}
use Rattle.direct_adding.specs.Plain.{Grew, Plainly}
use Rattle.direct_adding.proofs.Laws.Edits.{plain_is}
use Rattle.direct_adding.proofs.Laws.Grown.{grew_makes}

module _ (t : Tag) (c : Component) {s : List ℕ} (u : List ℕ) (k : Passing s) (short : overlong t ≡ false) (x : Label) (lt : Labelled t x) (o : find t k.model.components ≡ none) where
  pub plain_more : (a : Option Label) → Grew x c x s u a → Plainly t c s u a
  plain_more a w f g =
      grew_makes k f x c x u a (ap (λ (y : Tag). find y k.model.components) lt.bytes ∙ o)
      (λ z. g k.model ∙ subst (λ (y : Tag). add_plain k.model t c true ≡ record { answer = made y; model = with_component k.model y c y }) (sym lt.bytes)
      (plain_is k.model t c short o z)) w
