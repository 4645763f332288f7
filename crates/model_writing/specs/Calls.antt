-- What encoding answers. Definitions only.
use Rattle.std.specs.Prelude.{ℕ, ◌≡◌, Bool, true, false, ◌&&◌, List, eqb, length}
use Rattle.std.proofs.Math.Option.{some}
use Rattle.model.specs.declared.implicit_model.Model.{Model as Record}
use Rattle.model.specs.View.{view, fits}
use Rattle.model_bytes.specs.ModelBytes.{model_in}
use Rattle.model_bytes.specs.Calls.{Spares}

-- encoded into s, which is t afterwards: where there is room and the record fits, t holds what the record holds, and rows past its counts are as they were; else nothing is changed
pub record Encodes (m : Record) (s t : List ℕ) (r : Bool) : Type 0 where
  pub answer : r ≡ (eqb (length s) 27200 && fits m)
  pub holds : r ≡ true → model_in t ≡ some (view m)
  pub spares : Spares m.component_count m.list_count s t
  pub kept : r ≡ false → t ≡ s
