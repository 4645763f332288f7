-- What the helpers of remove_component_in promise. Definitions only.
use Rattle.std.specs.Prelude.{ℕ, ◌≡◌, Bool, true, false, List, length}
use Rattle.std.proofs.Math.Option.{some}
use Rattle.tag.specs.Tags.{Tag}
use Rattle.component.specs.declared.model_component.Component.{Component}
use Rattle.layout.specs.Writing.{Kept}
use Rattle.model_bytes.specs.ModelBytes.{entry_row}
use Rattle.finding.specs.Rows.{component_at}

-- in bytes of a model's size, the row i of the components holds what the row `last` held, where r is a yes; else nothing is changed
pub record LastMoved (i last : ℕ) (s u : List ℕ) (r : Bool) : Type 0 where
  pub moved : r ≡ true → length s ≡ 27200 → (x : Tag × Component) → entry_row s last ≡ some x → entry_row u i ≡ some x
  pub kept : Kept s u (component_at i) 88
  pub same : i ≡ last → u ≡ s
  pub left : r ≡ false → u ≡ s
