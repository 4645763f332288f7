-- A form's number at a point, as the call answers it. Definitions only.
use Rattle.std.specs.Prelude.{ℕ, ◌≡◌, List}
use Rattle.std.proofs.Math.Option.{Option, none, some}
use Rattle.tag.specs.Tags.{Tag, empty}
use Rattle.geometry.specs.declared.vec3f.Vec3.{Vec3}
use Rattle.model.specs.Model.{Model}
use Rattle.model.specs.Form.{Reply, handed, Evaluated}
use Rattle.model_bytes.specs.ModelBytes.{model_in}
use Rattle.report.specs.Report.{of_reply}
use Rattle.opened.specs.Said.{Says}

-- bytes that hold no model are 7; a model answers as document 01 defines, 7 first
abbrev pub Replies : Option Model → Tag → Vec3 → Reply → Type 0
Replies none t p r = r ≡ handed 7 empty 0
Replies (some m) t p r = Evaluated m t p r

pub record Evaluates (s : List ℕ) (t : Tag) (p : Vec3) (out after : List ℕ) (code : ℕ) : Type 0 where
  pub reply : Reply
  pub defined : Replies (model_in s) t p reply
  pub says : Says (of_reply reply) out after code
