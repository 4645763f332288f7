-- What a function promises that runs a list of edits and asks a form after it: document 01's demand 3, and every other case. Definitions only.
use Rattle.std.specs.Prelude.{◌≡◌, true, false, ℕ, List, Float, Result}
use Rattle.std.proofs.Math.Option.{Option, none, some}
use Rattle.std.specs.Float.{binary64}
use Rattle.std.specs.Float.Ieee.{to_bits}
use Rattle.tag.specs.Tags.{Tag, empty}
use Rattle.geometry.specs.declared.vec3f.Vec3.{Vec3}
use Rattle.model.specs.declared.implicit_model.Model.{Model as Record}
use Rattle.model.specs.declared.model_error.Refusal.{Refusal}
use Rattle.model.specs.Model.{Same}
use Rattle.model.specs.Edit.{Edit}
use Rattle.model.specs.Form.{Compiles, Number, Reply, bits, handed, Evaluated}
use Rattle.model.specs.View.{view, passes}
use Rattle.evaluating.specs.Evaluate.{reply_of}
use Rattle.steady.specs.Lists.{after, newest, Sparing}

-- refused with 7, and the very record that came in
pub record Refused (m n : Record) (r : Reply) : Type 0 where
  pub model : n ≡ m
  pub reply : r ≡ handed 7 empty 0

-- The list es was run on m and left n, and the form of t, asked at p after it, answered r.
pub record Steadied (es : List Edit) (m : Record) (t : Tag) (p : Vec3) (n : Record) (r : Reply) : Type 0 where
  -- 7 comes before all others
  pub invalid : passes m ≡ false → Refused m n r
  -- 7 lets the model after the list pass, which is the defined one, at any table positions
  pub passing : passes m ≡ true → passes n ≡ true
  pub model : passes m ≡ true → Same (after es (view m)) (view n)
  -- the answer is the defined one of the model after the list, the target under its newest tag
  pub reply : passes m ≡ true → Evaluated (after es (view m)) (newest es (view m) t) p r
  -- demand 3: where the form compiles at the start and every edit spares it, the answer is, bit for bit, the number that it has by definition in the model before the list
  pub steady : passes m ≡ true → Compiles (view m) t → Sparing es (view m) t
      → (x : Float) × Number (view m) p t x × (r ≡ bits (to_bits binary64 x))

-- what the bytes of a list come to: those that are none are refused
abbrev pub Promised : Option (List Edit) → Record → Tag → Vec3 → Record → Reply → Type 0
Promised none m t p n r = Refused m n r
Promised (some es) m t p n r = Steadied es m t p n r

-- and of the function's answer r and the model n that it leaves; a number carries no tag and no index, by its type
pub record After (o : Option (List Edit)) (m : Record) (t : Tag) (p : Vec3) (n : Record) (r : Result ℕ Refusal) : Type 0 where
  pub promised : Promised o m t p n (reply_of r)
