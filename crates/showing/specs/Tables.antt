-- What the calls answer that read a model's default, components and input lists. Definitions only.
use Rattle.std.specs.Prelude.{ℕ, ◌+◌, ◌≡◌, cond, List, length, Result, Ok, Err}
use Rattle.std.proofs.Math.Option.{Option, none, some}
use Rattle.std.proofs.Math.ListN.{get_elem?}
use Rattle.tag.specs.Tags.{Tag, overlong, empty}
use Rattle.component.specs.declared.model_component.Component.{Component}
use Rattle.model.specs.declared.model_error.Refusal.{Refusal}
use Rattle.model.specs.Answer.{refusal_of}
use Rattle.model.specs.Edit.{refused as edit_refused}
use Rattle.model.specs.Model.{Place, Model, component, list}
use Rattle.rows.specs.Rows.{component_in, places_in}
use Rattle.rows.specs.Written.{Writes}
use Rattle.report.specs.Report.{Report}
use Rattle.opened.specs.Said.{held_in, plain, answered, Says}

-- ---- dw_default: 1 and the tag, or 0

abbrev pub default_of : Option Tag → Report
default_of none = plain 0
default_of (some t) = answered t 1

abbrev pub of_default : Option Model → Report
of_default none = plain 7
of_default (some m) = default_of m.default

-- ---- what a table holds, at a position or under a tag

pub data Finding (A : Type 0) : Type 0 where
  refused : ℕ → Finding A
  nothing : Finding A
  held : Tag → A → Finding A

abbrev pub at_position : {A : Type 0} → Option (Tag × A) → Finding A
at_position none = nothing
at_position (some e) = held e.0 e.1

abbrev pub under_tag : {A : Type 0} → Tag → Option A → Finding A
under_tag t none = nothing
under_tag t (some a) = held t a

-- a tag over 32 bytes is 1
unfoldable pub short : {A : Type 0} → Tag → Finding A → Finding A
short t f = cond (overlong t) (refused 1) f

-- 7 comes first
abbrev pub in_model : {A : Type 0} → (Model → Finding A) → Option Model → Finding A
in_model f none = refused 7
in_model f (some m) = f m

abbrev pub component_at : List ℕ → ℕ → Finding Component
component_at s i = in_model (λ m. at_position (get_elem? m.components i)) (held_in s)

abbrev pub component_under : List ℕ → Tag → Finding Component
component_under s t = in_model (λ m. short t (under_tag t (component m t))) (held_in s)

abbrev pub list_place_at : List ℕ → ℕ → Finding (List Place)
list_place_at s i = in_model (λ m. at_position (get_elem? m.lists i)) (held_in s)

abbrev pub list_under : List ℕ → Tag → Finding (List Place)
list_under s t = in_model (λ m. short t (under_tag t (list m t))) (held_in s)

-- ---- dw_component_at, dw_get_component: the tag and 1, or 0; six words of 48 bytes

abbrev pub of_component : Finding Component → Report
of_component (refused n) = plain n
of_component nothing = plain 0
of_component (held t c) = answered t 1

abbrev pub WordsOf : Finding Component → List ℕ → List ℕ → Type 0
WordsOf (refused n) s t = t ≡ s
WordsOf nothing s t = t ≡ s
WordsOf (held u c) s t = Writes (λ v. component_in v 0) (some c) 0 48 s t

pub record ShowsComponent (f : Finding Component) (words worded out after : List ℕ) (code : ℕ) : Type 0 where
  pub shown : WordsOf f words worded
  pub says : Says (of_component f) out after code

-- ---- dw_list_at, dw_get_inputs: the tag, and the count of places and 1, or 0; three places of 120 bytes

abbrev pub of_list : Finding (List Place) → Report
of_list (refused n) = plain n
of_list nothing = plain 0
of_list (held t ps) = answered t (length ps + 1)

abbrev pub PlacesOf : Finding (List Place) → List ℕ → List ℕ → Type 0
PlacesOf (refused n) s t = t ≡ s
PlacesOf nothing s t = t ≡ s
PlacesOf (held u ps) s t = Writes (λ v. places_in (length ps) v 0) (some ps) 0 120 s t

pub record ShowsList (f : Finding (List Place)) (places placed out after : List ℕ) (code : ℕ) : Type 0 where
  pub shown : PlacesOf f places placed
  pub says : Says (of_list f) out after code

-- ---- what the helpers promise

-- a record of what is found, where anything is; or a refusal that carries nothing
abbrev pub Finds : {A R : Type 0} → (R → Option (Tag × A)) → Finding A → Result R Refusal → Type 0
Finds read f (Ok r) = f ≡ at_position (read r)
Finds read f (Err e) = (n : ℕ) × (f ≡ refused n) × (refusal_of e ≡ edit_refused n empty 0)
