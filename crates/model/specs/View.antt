-- What the record of a model holds: its live rows as tables by tag; and what 7 asks of the record alone. Definitions only.
use Rattle.std.specs.Prelude.{Bool, true, ◌&&◌, List, [], ◌∷◌, map, ℕ, leb, take, Option, Some, None}
use Rattle.std.proofs.Math.Option.{none, some}
use Rattle.tag.specs.Tags.{Tag}
use Rattle.tag.specs.declared.Tag.{Tag as Label}
use Rattle.tag.specs.View.{bytes_of, tag_fits}
use Rattle.component.specs.declared.model_component.Component.{Component}
use Rattle.model.specs.declared.implicit_model.ComponentEntry.{ComponentEntry}
use Rattle.model.specs.declared.implicit_model.InputList.{InputList}
use Rattle.model.specs.declared.implicit_model.Model.{Model as Record}
use Rattle.model.specs.Table.{all, Table}
use Rattle.model.specs.Model.{Place, Model, valid}

-- a place of the record: a tag, or none
abbrev pub PlaceRecord : Type 0
PlaceRecord = Option Label

unfoldable pub place_of : PlaceRecord → Place
place_of None = none
place_of (Some t) = some (bytes_of t)

-- the first n rows of a table, each seen through g
unfoldable pub rows : {A B : Type 0} → (A → B) → ℕ → List A → List B
rows g n table = map g (take n table)

abbrev pub component_of : ComponentEntry → Tag × Component
component_of e = (bytes_of e.tag, e.component)

abbrev pub list_of : InputList → Tag × List Place
list_of l = (bytes_of l.tag, rows place_of l.count l.places)

abbrev pub components_of : Record → Table Component
components_of m = rows component_of m.component_count m.components

abbrev pub lists_of : Record → Table (List Place)
lists_of m = rows list_of m.list_count m.lists

-- the model that the record holds
unfoldable pub view : Record → Model
view m = record { components = components_of m; lists = lists_of m; default = place_of m.default }

-- ---- 7, of the record alone: the counts and lengths that it names are within their sizes

abbrev pub every : List Bool → Bool
every bs = all (λ b. b) bs

unfoldable pub place_fits : PlaceRecord → Bool
place_fits None = true
place_fits (Some t) = tag_fits t

abbrev pub entry_fits : ComponentEntry → Bool
entry_fits e = tag_fits e.tag

unfoldable pub list_fits : InputList → Bool
list_fits l = every (tag_fits l.tag ∷ leb l.count 3 ∷ every (rows place_fits l.count l.places) ∷ [])

abbrev pub sizes : Record → List Bool
sizes m =
    leb m.component_count 64
    ∷ leb m.list_count 128
    ∷ every (rows entry_fits m.component_count m.components)
    ∷ every (rows list_fits m.list_count m.lists)
    ∷ place_fits m.default
    ∷ []

unfoldable pub fits : Record → Bool
fits m = every (sizes m)

-- 7 lets the record pass
unfoldable pub passes : Record → Bool
passes m = fits m && valid (view m)
