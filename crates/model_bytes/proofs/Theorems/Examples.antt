-- The bytes of a new model: the version, and 0. Assumes nothing.
use mathlib.Core.Path.{◌≡◌, refl}
use mathlib.Core.List.{◌∷◌}
use mathlib.Core.Option.{some}
use lib.ListN.{replicate}
use Rattle.model.specs.Model.{new}
use Rattle.layout.specs.Words.{word}
use Rattle.rows.specs.Rows.{blank, place_from, place_in, rows_in}
use Rattle.model_bytes.specs.ModelBytes.{headed, model_in}

pub new_bytes : model_in (1 ∷ replicate 27199 0) ≡ some new
unfolding model_in headed rows_in place_in place_from blank word new
new_bytes = refl
