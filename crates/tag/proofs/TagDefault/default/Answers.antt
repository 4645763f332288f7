-- `tag::Tag::default` meets its contract: no byte is stored, so all are 0. Assumes nothing.
use mathlib.Core.Path.{refl}
use Rattle.tag.specs.View.{bytes_of, tag_fits}
use Rattle.tag.proofs.TagDefault.default.Goals as goal

pub returns : goal.returns
unfolding bytes_of tag_fits
returns c = record { labelled = record { bytes = refl; short = refl }; padded = refl }
