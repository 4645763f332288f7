-- Document 01, "The steady number": a list of edits run on a model, the target's newest tag, and when the list spares a form. Definitions only.
use Rattle.std.specs.Prelude.{List, [], ◌∷◌}
use Rattle.tag.specs.Tags.{Tag}
use Rattle.model.specs.Model.{Model}
use Rattle.model.specs.Edit.{Edit, apply}
use Rattle.model.specs.Steady.{Spares}
use Rattle.newest.specs.Carried.{carried}

-- the model after the list: each edit on the model that the one before left, refused ones included
unfoldable pub after : List Edit → Model → Model
after [] m = m
after (e ∷ es) m = after es (apply e m).model

-- the target's newest tag after the list
unfoldable pub newest : List Edit → Model → Tag → Tag
newest [] m t = t
newest (e ∷ es) m t = newest es (apply e m).model (carried e (apply e m).answer t)

-- every edit of the list spares the form, judged on the model before that edit, with the target under its newest tag: t before the edit, u after it (that u is the one carried is a theorem of crate newest, `proofs/Theorems/Newest.antt`)
pub data Sparing : List Edit → Model → Tag → Type 0 where
  idle : {m : Model} {t : Tag} → Sparing [] m t
  spared : {e : Edit} {es : List Edit} {m : Model} {t u : Tag} → Spares e m t u → Sparing es (apply e m).model u → Sparing (e ∷ es) m t
