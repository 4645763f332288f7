-- A model in bytes (docs/LAYOUT.md, "A model"): which model bytes hold, if they hold one. Definitions only.
use Rattle.std.specs.Prelude.{ℕ, ◌+◌, ◌*◌, Bool, ◌&&◌, cond, List, leb, eqb, length}
use Rattle.std.proofs.Math.Option.{Option, none, some}
use Rattle.tag.specs.Tags.{Tag}
use Rattle.component.specs.declared.model_component.Component.{Component}
use Rattle.model.specs.Table.{Table}
use Rattle.model.specs.Model.{Place, Model}
use Rattle.layout.specs.Words.{word}
use Rattle.rows.specs.Rows.{tag_in, place_in, component_in, rows_in, places_in}

-- ---- rows

abbrev pub both : {A B : Type 0} → Option A → Option B → Option (A × B)
both none b = none
both (some a) none = none
both (some a) (some b) = some (a, b)

-- a row of the component table, 88 bytes: a tag and a component
unfoldable pub entry_in : List ℕ → ℕ → Option (Tag × Component)
entry_in s at = both (tag_in s at) (component_in s (at + 40))

-- a row of the table of lists, 168 bytes: a tag, a count of at most 3, and three places, of which those past the count are 0
unfoldable pub list_in : List ℕ → ℕ → Option (Tag × List Place)
list_in s at = both (tag_in s at) (places_in (word s (at + 40)) s (at + 48))

-- ---- the model

-- 27,200 bytes, of layout version 1, whose counts are within their sizes
unfoldable pub headed : List ℕ → Bool
headed s = eqb (length s) 27200 && (eqb (word s 0) 1 && (leb (word s 8) 64 && leb (word s 16) 128))

abbrev pub entry_row : List ℕ → ℕ → Option (Tag × Component)
entry_row s k = entry_in s (64 + 88 * k)

abbrev pub list_row : List ℕ → ℕ → Option (Tag × List Place)
list_row s k = list_in s (5696 + 168 * k)

abbrev pub joined : Option (Table Component) → Option (Table (List Place)) → Option Place → Option Model
joined none ls d = none
joined (some cs) none d = none
joined (some cs) (some ls) none = none
joined (some cs) (some ls) (some d) = some (record { components = cs; lists = ls; default = d })

-- The model that the bytes hold. Rows past the counts are not looked at.
unfoldable pub model_in : List ℕ → Option Model
model_in s = cond (headed s) (joined (rows_in (entry_row s) (word s 8)) (rows_in (list_row s) (word s 16)) (place_in s 24)) none
