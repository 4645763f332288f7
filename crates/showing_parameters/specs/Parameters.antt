-- What the calls answer that read a parameter, and those that name a kind and its parameters. Definitions only.
use Rattle.std.specs.Prelude.{ℕ, ◌+◌, ◌≡◌, cond, List, Option as Found, Some, None, Result, Ok, Err}
use Rattle.std.proofs.Math.Option.{Option, none, some}
use Rattle.tag.specs.Tags.{Tag, overlong, empty}
use Rattle.component.specs.Value.{input_count}
use Rattle.component.specs.Parameter.{Name, read_parameter}
use Rattle.naming.specs.Names.{Entry, type_name, parameter_at}
use Rattle.component.specs.declared.parameter.Data.{Data}
use Rattle.component.specs.declared.parameter.Data.TheVariants.{Value, Vec3 as Vector, Boolean}
use Rattle.component.specs.declared.parameter.DataType.{DataType}
use Rattle.component.specs.declared.parameter.DataType.TheVariants.{Value as TakesValue, Vec3 as TakesVector}
use Rattle.component.specs.declared.model_component.Component.{Component}
use Rattle.model.specs.declared.model_error.Refusal.{Refusal}
use Rattle.model.specs.Answer.{refusal_of}
use Rattle.model.specs.Edit.{refused}
use Rattle.model.specs.Model.{Model, component}
use Rattle.component_layout.specs.Components.{component_from}
use Rattle.component_layout.specs.Numbers.{bits_of}
use Rattle.rows.specs.Rows.{three_in}
use Rattle.rows.specs.Written.{Writes}
use Rattle.report.specs.Report.{Report}
use Rattle.opened.specs.Said.{held_in, plain, answered, Says}

-- ---- dw_read_parameter: 7, 1, 12 (that tag); else 1 a value, 2 a vec3, 0 where the component has no such parameter

pub data Asked : Type 0 where
  unread : ℕ → Tag → Asked
  read : Found Data → Asked

abbrev pub read_of : Tag → Name → Option Component → Asked
read_of t n none = unread 12 t
read_of t n (some c) = read (read_parameter c n)

unfoldable pub read_short : Tag → Asked → Asked
read_short t a = cond (overlong t) (unread 1 empty) a

abbrev pub read_in : Tag → Name → Option Model → Asked
read_in t n none = unread 7 empty
read_in t n (some m) = read_short t (read_of t n (component m t))

abbrev pub parameter_in : List ℕ → Tag → Name → Asked
parameter_in s t n = read_in t n (held_in s)

-- no component has a boolean
abbrev pub of_reading : Found Data → Report
of_reading None = plain 0
of_reading (Some (Value x)) = answered empty 1
of_reading (Some (Vector v)) = answered empty 2
of_reading (Some (Boolean b)) = plain 0

abbrev pub of_asked : Asked → Report
of_asked (unread n t) = record { code = n; index = 0; tag = t; number = 0 }
of_asked (read r) = of_reading r

-- the bits in three words of 24 bytes; those that are not used are 0
abbrev pub DataOf : Found Data → List ℕ → List ℕ → Type 0
DataOf None s t = t ≡ s
DataOf (Some (Value x)) s t = Writes (λ u. three_in u 0) (bits_of x, (0, 0)) 0 24 s t
DataOf (Some (Vector v)) s t = Writes (λ u. three_in u 0) (bits_of v.x, (bits_of v.y, bits_of v.z)) 0 24 s t
DataOf (Some (Boolean b)) s t = t ≡ s

abbrev pub AskedOf : Asked → List ℕ → List ℕ → Type 0
AskedOf (unread n u) s t = t ≡ s
AskedOf (read r) s t = DataOf r s t

pub record ShowsParameter (a : Asked) (words worded out after : List ℕ) (code : ℕ) : Type 0 where
  pub shown : AskedOf a words worded
  pub says : Says (of_asked a) out after code

-- ---- dw_type_name: the name, and the count of inputs and 1; 0 where the kind is none

abbrev pub kind_of : ℕ → Option Component
kind_of kind = component_from kind 0 0 0 0 0

abbrev pub of_kind : Option Component → Report
of_kind none = plain 0
of_kind (some c) = answered (type_name c) (input_count c + 1)

-- ---- dw_parameter: the name, and 1 a value, 2 a vec3; 0 where there is none

abbrev pub takes : DataType → ℕ
takes TakesValue = 1
takes TakesVector = 2

abbrev pub of_entry : Found Entry → Report
of_entry None = plain 0
of_entry (Some e) = answered e.0 (takes e.1)

abbrev pub of_parameter : Option Component → ℕ → Report
of_parameter none i = plain 0
of_parameter (some c) i = of_entry (parameter_at c i)

-- ---- what the helpers promise

-- the data of the component, or a refusal, which has no index
abbrev pub Reads : Asked → Result (Found Data) Refusal → Type 0
Reads a (Ok d) = a ≡ read d
Reads a (Err e) = (n : ℕ) × (t : Tag) × (a ≡ unread n t) × (refusal_of e ≡ refused n t 0)
