-- What the kinds with no parameter list. Assumes nothing.
use mathlib.Core.Path.{◌≡◌, refl}
use Prim.Native.Nat.{ℕ}
use types.Run.{OneOf}
use denote.Enum.Declared.{tag_of}
use Rattle.std.specs.Prelude.{None}
use Rattle.component.specs.declared.model_component.Component.{Component}
use Rattle.component.specs.contracts.model_component.Component.{the_type}
use Rattle.component.proofs.Arms.{plain, plain_is}
use Rattle.naming.specs.Names.{parameter_at}

-- there is none at any place
pub plain-none : (c : Component) (i : ℕ) → OneOf plain (tag_of the_type c) → parameter_at c i ≡ None
plain-none c i h = plain_is (λ k. parameter_at k i ≡ None) refl refl refl refl refl refl refl refl c h
