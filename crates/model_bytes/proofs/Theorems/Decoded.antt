-- What decodes is what the bytes hold, from the contract alone. Assumes nothing.
use Prim.Native.Nat.{ℕ}
use mathlib.Core.Path.{◌≡◌, refl, sym, ap, subst, ◌∙◌}
use mathlib.Core.List.{List}
use mathlib.Core.Option as Maybe
use mathlib.Core.Option.{Option as Maybe, some, none-ne-some}
use Rattle.std.specs.Prelude.{Option, Some, None}
use Rattle.model.specs.declared.implicit_model.Model.{Model as Record}
use Rattle.model.specs.Model.{Model, new}
use Rattle.model.specs.View.{view}
use Rattle.model_bytes.specs.ModelBytes.{model_in}
use Rattle.model_bytes.specs.Calls.{Decodes}

module _ (s : List ℕ) where
  -- decoding where the bytes hold a model, and what they hold where it succeeds
  pub decodes_held : {m : Model} (d : Option Record) → model_in s ≡ some m → Decodes s d → (r : Record) × (d ≡ Some r) × (view r ≡ m)
  decodes_held {m} None e x = absurd (none-ne-some m (sym x ∙ e))
  decodes_held (Some r) e x = (r, refl, ap (λ (o : Maybe Model). Maybe.get_or o new) (sym x.0 ∙ e))

  pub decoded_holds : {d : Option Record} {r : Record} → Decodes s d → d ≡ Some r → model_in s ≡ some (view r)
  decoded_holds x e = (subst (Decodes s) e x).0
