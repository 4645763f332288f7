-- The edits that calls make of words. Words of no kind make an edit that document 01 refuses with 4, after 1. Definitions only.
use Rattle.std.specs.Prelude.{ℕ, false}
use Rattle.std.proofs.Math.Option.{Option, none, some, get_or}
use Rattle.std.specs.Float.{binary64}
use Rattle.std.specs.Float.Ieee.{of_bits}
use Rattle.tag.specs.Tags.{Tag}
use Rattle.component.specs.declared.model_component.Component.{Component}
use Rattle.component.specs.declared.model_component.Component.TheVariants.{Constant, Multiply}
use Rattle.component.specs.declared.parameter.Data.{Data}
use Rattle.component.specs.declared.parameter.Data.TheVariants.{Boolean}
use Rattle.model.specs.Edit.{Edit, add_function, add_component}
use Rattle.component_layout.specs.declared.component_numbers.Numbered.{Numbered}
use Rattle.component_layout.specs.declared.component_words.DataWords.{DataWords}
use Rattle.component_layout.specs.Components.{component_from, data_from}

-- the component of these words
abbrev pub component_in : Numbered ℕ → Option Component
component_in w = component_from w.kind w.a w.b w.c w.d w.e

-- the component of `add_function`: no kind is Multiply, which is no function
unfoldable pub function_of : Numbered ℕ → Component
function_of w = get_or (component_in w) Multiply

-- the component of `add_operation`: no kind is a constant, which is no operation
unfoldable pub operation_of : Numbered ℕ → Component
operation_of w = get_or (component_in w) (Constant (of_bits binary64 0))

-- what a parameter is set to: no kind is a boolean, which no parameter takes
unfoldable pub data_of : DataWords → Data
data_of w = get_or (data_from w) (Boolean false)

-- `add_component` takes every component, so that no kind is an `add_function` of what is no function
abbrev pub added_as : Tag → Option Component → Edit
added_as t none = add_function t Multiply
added_as t (some c) = add_component t c

unfoldable pub component_edit : Tag → Numbered ℕ → Edit
component_edit t w = added_as t (component_in w)
