-- Document 01, "The steady number" (demand 3). Definitions only.
use Rattle.std.specs.Prelude.{◌≡◌, ◌⊎◌, ◌≢◌, ◌↔◌, cond, List, [], ◌∷◌, ℕ, T, Float}
use Rattle.std.proofs.Math.Option.{none}
use Rattle.std.specs.Float.{binary64}
use Rattle.std.specs.Float.Ieee.{to_bits}
use Rattle.tag.specs.Tags.{Tag, is}
use Rattle.geometry.specs.declared.vec3f.Vec3.{Vec3}
use Rattle.model.specs.Model.{Model, component, list, valid, Same}
use Rattle.model.specs.Edit.{Edit, rename_component, made, refused, apply}
use Rattle.model.specs.Form.{Reach, Compiles, Number, Reply, bits, Evaluated}

-- no component and no input list in the form's reach differs: tag, kind, numbers (by their bits) and places
pub record Agrees (m : Model) (t : Tag) (n : Model) : Type 0 where
  pub components : (a : Tag) → Reach m t a → component n a ≡ component m a
  pub lists : (a : Tag) → Reach m t a → list n a ≡ list m a

-- a tag after a rename
abbrev pub relabel : Tag → Tag → Tag → Tag
relabel old new t = cond (is t old) new t

-- Document 01's sparing: the edit spares the form of t in m, whose target is u after it. It is refused, changes nothing in the reach, or renames a component that has a list of its own or whose new tag has no leftover one.
pub data Spares : Edit → Model → Tag → Tag → Type 0 where
  refusal : {e : Edit} {m : Model} {t : Tag} {n : ℕ} {a : Tag} {i : ℕ} → (apply e m).answer ≡ refused n a i → Spares e m t t
  untouched : {e : Edit} {m : Model} {t : Tag} → Agrees m t (apply e m).model → Spares e m t t
  renaming : {m : Model} {t old new : Tag} → (apply (rename_component old new) m).answer ≡ made new
      → (list m old ≢ none) ⊎ (list m new ≡ none) → Spares (rename_component old new) m t (relabel old new t)

-- A list of sparing edits, each given the model that the one before it left (any that is the same as the defined one and that 7 lets pass), with the target under its newest tag.
pub data Run : List Edit → Model → Tag → Model → Tag → Type 0 where
  stop : {m : Model} {t : Tag} → Run [] m t m t
  step : {e : Edit} {es : List Edit} {m n o : Model} {t u v : Tag} → Spares e m t u → Same (apply e m).model n → T (valid n)
      → Run es n u o v → Run (e ∷ es) m t o v

-- Demand 3: after the list the form still compiles, and evaluating it answers at every point, and nothing else, the number that it has by definition in the model before the list.
abbrev pub Steady : Type 0
Steady = (es : List Edit) (m n : Model) (t u : Tag) → T (valid m) → Compiles m t → Run es m t n u
    → Compiles n u × ((p : Vec3) → (x : Float) × Number m p t x × ((r : Reply) → Evaluated n u p r ↔ (r ≡ bits (to_bits binary64 x))))
