-- What the kinds with no parameter answer. Assumes nothing.
use mathlib.Core.Path.{◌≡◌, refl}
use types.Run.{OneOf}
use denote.Enum.Declared.{tag_of}
use Rattle.std.specs.Prelude.{None}
use Rattle.component.specs.Parameter.{Name, read_parameter}
use Rattle.component.specs.declared.model_component.Component.{Component}
use Rattle.component.specs.contracts.model_component.Component.{the_type}
use Rattle.component.proofs.Arms.{plain, plain_is}

-- there is nothing to read under any name
pub plain_reading : (c : Component) (n : Name) → OneOf plain (tag_of the_type c) → None ≡ read_parameter c n
unfolding read_parameter
plain_reading c n h = plain_is (λ k. None ≡ read_parameter k n) refl refl refl refl refl refl refl refl c h
