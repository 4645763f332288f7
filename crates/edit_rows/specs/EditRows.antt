-- A list of edits in bytes: rows of 256 bytes, each an edit (docs/LAYOUT.md, "A list of edits"). Definitions only.
use Rattle.std.specs.Prelude.{ℕ, zero, suc, ◌+◌, ◌/◌, ◌%◌, Bool, ◌&&◌, cond, List, [], ◌∷◌, leb, eqb, length, get_or}
use Rattle.std.proofs.Math.Option.{Option, none, some, map}
use Rattle.tag.specs.Tags.{Tag}
use Rattle.component.specs.declared.model_component.Component.{Component}
use Rattle.component.specs.declared.parameter.Data.{Data}
use Rattle.model.specs.Edit.{Edit, add_operation, add_constant, add_function, add_component, add_input, remove_input, remove_component, rename_component, set_parameter}
use Rattle.layout.specs.Words.{word, text}
use Rattle.input_rows.specs.Inputs.{tags_given}
use Rattle.component_layout.specs.Components.{number, component_from, data_from}

-- ---- the row at byte `at` of s

-- no string of the row is longer than its 40 bytes
unfoldable pub texts_fit : List ℕ → ℕ → Bool
texts_fit s at = leb (word s (at + 64)) 40 && (leb (word s (at + 112)) 40 && (leb (word s (at + 160)) 40 && leb (word s (at + 208)) 40))

-- the component: word 1 is its kind, words 2 to 6 are its numbers
unfoldable pub component_at : List ℕ → ℕ → Option Component
component_at s at = component_from (word s (at + 8)) (word s (at + 16)) (word s (at + 24)) (word s (at + 32)) (word s (at + 40)) (word s (at + 48))

-- the data: word 1 is its kind, words 2 to 4 are its numbers
unfoldable pub data_at : List ℕ → ℕ → Option Data
data_at s at = data_from (record { kind = word s (at + 8); a = word s (at + 16); b = word s (at + 24); c = word s (at + 32) })

-- the inputs given: none where the word is 0, else one fewer than it says
unfoldable pub given : ℕ → Tag → Tag → Tag → Option (List Tag)
given zero a b c = none
given (suc n) a b c = some (tags_given n a b c)

-- The nine edits, by number, with the row's words and strings: string 0 is the tag, string 1 the second tag or the name, and word 7 the index.
abbrev pub nine : List ℕ → ℕ → List (Option Edit)
nine s at =
    none
    ∷ map (λ c. add_operation (text s (at + 64)) c (given (word s (at + 56)) (text s (at + 112)) (text s (at + 160)) (text s (at + 208)))) (component_at s at)
    ∷ some (add_constant (text s (at + 64)) (number (word s (at + 16))))
    ∷ map (add_function (text s (at + 64))) (component_at s at)
    ∷ map (add_component (text s (at + 64))) (component_at s at)
    ∷ some (add_input (text s (at + 64)) (text s (at + 112)) (word s (at + 56)))
    ∷ some (remove_input (text s (at + 64)) (word s (at + 56)))
    ∷ some (remove_component (text s (at + 64)))
    ∷ some (rename_component (text s (at + 64)) (text s (at + 112)))
    ∷ map (set_parameter (text s (at + 64)) (text s (at + 112))) (data_at s at)
    ∷ []

-- word 0 is the edit's number, 1 to 9
unfoldable pub edit_at : List ℕ → ℕ → Option Edit
edit_at s at = cond (texts_fit s at) (get_or (nine s at) (word s at) none) none

-- ---- the list

-- the edit e ahead of the edits es, where both are
abbrev pub ahead : Option Edit → Option (List Edit) → Option (List Edit)
ahead none es = none
ahead (some e) none = none
ahead (some e) (some es) = some (e ∷ es)

-- n rows from byte `at` on
unfoldable pub rows_at : ℕ → List ℕ → ℕ → Option (List Edit)
rows_at zero s at = some []
rows_at (suc n) s at = ahead (edit_at s at) (rows_at n s (at + 256))

-- the edits that the bytes hold, if they are whole rows and each of them is an edit
unfoldable pub edits_of : List ℕ → Option (List Edit)
edits_of s = cond (eqb (length s % 256) 0) (rows_at (length s / 256) s 0) none
