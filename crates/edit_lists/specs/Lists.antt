-- What the calls promise that begin a model, and that run a list of edits and ask a form after it. Definitions only.
use Rattle.std.specs.Prelude.{ℕ, ◌≡◌, true, false, List, Float, length, Option as Found, Result}
use Rattle.std.proofs.Math.Option.{Option, none, some}
use Rattle.std.specs.Float.{binary64}
use Rattle.std.specs.Float.Ieee.{to_bits}
use Rattle.tag.specs.declared.Tag.{Tag as Label}
use Rattle.tag.specs.Tags.{Tag, empty}
use Rattle.geometry.specs.declared.vec3f.Vec3.{Vec3}
use Rattle.model.specs.declared.model_error.Refusal.{Refusal}
use Rattle.model.specs.Answer.{answer_of}
use Rattle.model.specs.Model.{Model, new, valid}
use Rattle.model.specs.Edit.{Edit, done, refused}
use Rattle.model.specs.Form.{Compiles, Number, Reply, bits, handed, Evaluated}
use Rattle.model_bytes.specs.ModelBytes.{model_in}
use Rattle.report.specs.Report.{reported, of_answer, of_reply}
use Rattle.steady.specs.Lists.{after, newest, Sparing}
use Rattle.model_bytes.specs.Calls.{Holds}

-- a new model was written over the bytes s
pub record Fresh (s t out written : List ℕ) (r : ℕ) : Type 0 where
  pub code : r ≡ 0
  pub report : written ≡ reported out (of_answer done)
  pub model : Holds new s t

-- nothing was: 7
pub record Left (s t out written : List ℕ) (r : ℕ) : Type 0 where
  pub code : r ≡ 7
  pub report : written ≡ reported out (of_answer (refused 7 empty 0))
  pub kept : t ≡ s

-- a model is 27,200 bytes; a slice of another length is left alone
pub record Begun (s t out written : List ℕ) (r : ℕ) : Type 0 where
  pub room : length s ≡ 27200 → Fresh s t out written r
  pub elsewhere : (length s ≡ 27200 → ⊥) → Left s t out written r

-- The list es was run on the model m, and the form of t, asked at p after it, answered a.
pub record Answered (es : List Edit) (m : Model) (t : Tag) (p : Vec3) (a : Reply) : Type 0 where
  -- 7 comes before all others
  pub invalid : valid m ≡ false → a ≡ handed 7 empty 0
  -- the defined answer of the model after the list, the target under its newest tag
  pub reply : valid m ≡ true → Evaluated (after es m) (newest es m t) p a
  -- demand 3: where the form compiles at the start and every edit spares it, the number that it has in the model before the list
  pub steady : valid m ≡ true → Compiles m t → Sparing es m t → (x : Float) × Number m p t x × (a ≡ bits (to_bits binary64 x))

-- The list of edits o was asked of the model in the bytes s, which are t after it, and then the target's number at p; `out` became `written`, and the call returned r.
pub record AskedAfter (o : Option (List Edit)) (target : Tag) (p : Vec3) (s t out written : List ℕ) (r : ℕ) : Type 0 where
  pub reply : Reply
  pub code : r ≡ (of_reply reply).code
  pub report : written ≡ reported out (of_reply reply)
  -- bytes that hold no model, and bytes that are no list
  pub unread : model_in s ≡ none → reply ≡ handed 7 empty 0
  pub unlisted : o ≡ none → reply ≡ handed 7 empty 0
  pub answered : (m : Model) (es : List Edit) → model_in s ≡ some m → o ≡ some es → Answered es m target p reply
  -- answered: the bytes hold the model after the list
  pub model : (m : Model) (es : List Edit) → model_in s ≡ some m → o ≡ some es → r ≡ 0 → Holds (after es m) s t
  -- refused: not one byte of the model is changed
  pub kept : (r ≡ 0 → ⊥) → t ≡ s

-- ---- what the helpers promise

-- a new model is written over the bytes s, or nothing is, and 7
pub record Begins (s t : List ℕ) (a : Result (Found Label) Refusal) : Type 0 where
  pub room : length s ≡ 27200 → (answer_of a ≡ done) × Holds new s t
  pub elsewhere : (length s ≡ 27200 → ⊥) → (answer_of a ≡ refused 7 empty 0) × (t ≡ s)
