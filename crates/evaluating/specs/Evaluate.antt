-- Document 01's `evaluate_at` as a promise about the record that it answers with. Definitions only.
use Rattle.std.specs.Prelude.{ℕ, ◌≡◌, true, false, cond, Result, Ok, Err, List, ltb, Float, get_or}
use Rattle.std.specs.Float.{nan}
use Rattle.tag.specs.Tags.{Tag, empty}
use Rattle.tag.specs.View.{bytes_of}
use Rattle.geometry.specs.declared.vec3f.Vec3.{Vec3}
use Rattle.model.specs.declared.implicit_model.Model.{Model as Record}
use Rattle.model.specs.declared.model_error.Refusal.{Refusal}
use Rattle.model.specs.Answer.{number_of}
use Rattle.model.specs.Form.{Reply, bits, handed, Evaluated}
use Rattle.model.specs.View.{view, passes}
use Rattle.nodes.specs.declared.Wire.{Wire}
use Rattle.nodes.specs.declared.Wire.TheVariants.{To, Absent, Gap, Past}
use Rattle.graph.specs.declared.computation_graph.Graph.{Graph}
use Rattle.graph.specs.Compile.{OrdersAs}

abbrev pub point_of : Float → Float → Float → Vec3
point_of x y z = record { x = x; y = y; z = z }

-- document 01's reply: the bits of a number, or a refusal handed on
abbrev pub reply_of : Result ℕ Refusal → Reply
reply_of (Ok b) = bits b
reply_of (Err r) = handed (number_of r.error) (bytes_of r.tag) r.index

-- 7 first, then what document 01 defines
pub record EvaluatesAs (m : Record) (t : Tag) (p : Vec3) (r : Result ℕ Refusal) : Type 0 where
  pub fitting : passes m ≡ true → Evaluated (view m) t p (reply_of r)
  pub unfit : passes m ≡ false → reply_of r ≡ handed 7 empty 0

-- ---- what the helpers promise

-- the number that a wire brings, of those worked so far
abbrev pub input_of : List Float → Wire → Float
input_of vals (To x) = cond (ltb x 64) (get_or vals x nan) nan
input_of vals Absent = nan
input_of vals Gap = nan
input_of vals Past = nan

-- some target's order
pub record Workable (m : Record) (g : Graph) : Type 0 where
  pub target : Tag
  pub compiled : OrdersAs m target g
