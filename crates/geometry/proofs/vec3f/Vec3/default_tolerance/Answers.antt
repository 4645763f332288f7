-- `geometry::vec3f::Vec3::default_tolerance` meets its contract. Assumes nothing.
use mathlib.Core.Path.{refl}
use lib.Ieee.{of_bits, of_fields, odd, div}
use Rattle.geometry.specs.Vector.{default_tolerance}
use Rattle.geometry.proofs.vec3f.Vec3.default_tolerance.Goals as goal

pub returns : goal.returns
unfolding default_tolerance of_bits of_fields odd div
returns c = refl
