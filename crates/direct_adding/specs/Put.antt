-- The row of a new component written into the bytes of a model. Definitions only.
use Rattle.std.specs.Prelude.{ℕ, ◌+◌, List}
use Rattle.std.proofs.Math.Option.{some}
use Rattle.tag.specs.Tags.{Tag}
use Rattle.component.specs.declared.model_component.Component.{Component}
use Rattle.layout.specs.Words.{word}
use Rattle.rows.specs.Rows.{place_in}
use Rattle.rows.specs.Written.{Wrote}
use Rattle.model_bytes.specs.ModelBytes.{entry_in}
use Rattle.finding.specs.Rows.{component_at}

-- written one after the other: the row n of the components holds c under t, the default is d, and n + 1 components are counted
pub record More (n : ℕ) (t : Tag) (c : Component) (d : Tag) (s u : List ℕ) : Type 0 where
  pub placed : List ℕ
  pub named : List ℕ
  pub entry : Wrote (λ v. entry_in v (component_at n)) (some (t, c)) (component_at n) 88 s placed
  pub default : Wrote (λ v. place_in v 24) (some (some d)) 24 40 placed named
  pub count : Wrote (λ v. word v 8) (n + 1) 8 8 named u
