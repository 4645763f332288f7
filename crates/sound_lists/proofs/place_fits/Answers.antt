-- `sound_lists::place_fits` meets its contract. Assumes nothing.
use Rattle.std.proofs.lemmas.Grind.{common_steps}
use native.Mathlib.Omega.{arith}
use Rattle.tag.specs.View.{tag_fits}
use Rattle.model.specs.View.{place_fits}
use Rattle.sound_lists.proofs.place_fits.Goals as goal

pub returns : goal.returns
unfolding place_fits tag_fits
returns c = grind (arith, common_steps)
