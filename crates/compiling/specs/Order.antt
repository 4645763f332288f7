-- A form's order, as the call answers it. Definitions only.
use Rattle.std.specs.Prelude.{ℕ, ◌*◌, ◌≤◌, ◌<◌, ◌≡◌, List, [], map, length, Result, Ok, Err}
use Rattle.std.proofs.Math.Option.{Option, none, some}
use Rattle.tag.specs.Tags.{Tag, empty}
use Rattle.tag.specs.View.{bytes_of}
use Rattle.model.specs.declared.implicit_model.Model.{Model as Record}
use Rattle.model.specs.declared.model_error.Refusal.{Refusal}
use Rattle.model.specs.Answer.{number_of}
use Rattle.model.specs.Model.{Model}
use Rattle.model.specs.Form.{Compiling as Ending, ordered, stopped, Compiled}
use Rattle.graph.specs.declared.computation_graph.Graph.{Graph}
use Rattle.graph.specs.Compile.{tag_at, positions_of}
use Rattle.rows.specs.Rows.{tag_in, rows_in}
use Rattle.rows.specs.Written.{Wrote}
use Rattle.model_bytes.specs.ModelBytes.{model_in}
use Rattle.report.specs.Report.{Report}
use Rattle.opened.specs.Said.{of_number, Says}

abbrev pub Ends : Option Model → Tag → Ending → List Tag → Type 0
Ends none t e o = (e ≡ stopped 7 empty 0) × (o ≡ [])
Ends (some m) t e o = Compiled m t e o

-- an order of n, or a refusal
abbrev pub of_ending : Ending → ℕ → Report
of_ending ordered n = record { code = 0; index = 0; tag = empty; number = n }
of_ending (stopped k t i) n = record { code = k; index = i; tag = t; number = 0 }

abbrev pub tag_row : List ℕ → ℕ → Option Tag
tag_row s k = tag_in s (40 * k)

-- the tags of an order, 40 bytes each, where there is room for 64 of them; the rest is as it was
pub record OrderIn (o : List Tag) (s t : List ℕ) : Type 0 where
  pub tags : 2560 ≤ length s → Wrote (λ u. rows_in (tag_row u) (length o)) (some o) 0 (40 * length o) s t
  pub narrow : length s < 2560 → t ≡ s

-- a refused compile has no tags, so that `order` is left alone
pub record Compiles (s : List ℕ) (t : Tag) (order written out after : List ℕ) (code : ℕ) : Type 0 where
  pub ending : Ending
  pub tags : List Tag
  pub defined : Ends (model_in s) t ending tags
  pub laid : OrderIn tags order written
  pub says : Says (of_ending ending (length tags)) out after code

-- ---- what the helpers promise

-- the tags of an order
abbrev pub tags_of : Record → Graph → List Tag
tags_of m g = map (tag_at m) (positions_of g)

abbrev pub ending_of : Result ℕ Refusal → Ending
ending_of (Ok n) = ordered
ending_of (Err r) = stopped (number_of r.error) (bytes_of r.tag) r.index

-- an order of as many tags as the number answered, or a refusal, which has none
pub record Orders (s : List ℕ) (t : Tag) (order written : List ℕ) (r : Result ℕ Refusal) : Type 0 where
  pub tags : List Tag
  pub defined : Ends (model_in s) t (ending_of r) tags
  pub laid : OrderIn tags order written
  pub report : of_number r ≡ of_ending (ending_of r) (length tags)
