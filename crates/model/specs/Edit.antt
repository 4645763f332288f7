-- Document 01, "The wires" and "A parameter set": the nine edits, each with its answer and the model after it, in document 01's check order. Definitions only.
use Rattle.std.specs.Prelude.{Bool, true, false, not, ◌&&◌, ◌||◌, cond, List, [], map, ℕ, zero, suc, leb, eqb, length, take, set, replicate, Float, Ok, Err}
use Rattle.std.proofs.Math.Option.{Option, none, some}
use Rattle.tag.specs.Tags.{Tag, is, overlong, empty, numbered}
use Rattle.component.specs.Value.{input_count}
use Rattle.component.specs.Kind.{is_function, is_operation}
use Rattle.component.specs.Parameter.{Name, set_parameter as parameterSet, Setting}
use Rattle.component.specs.declared.parameter.Data.{Data}
use Rattle.component.specs.declared.parameter.ParameterError.TheVariants.{DoesNotFit, TooNear}
use Rattle.component.specs.declared.model_component.Component.{Component}
use Rattle.component.specs.declared.model_component.Component.TheVariants.{Constant}
use Rattle.model.specs.Table.{any, Table, held, cut, put, each, move}
use Rattle.model.specs.Model.{Place, Model, component, list, valid}
use Rattle.model.specs.Walk.{Walked, clear, met, gapped, walk_from}

-- Document 01's edits: the calls listed under the wires and the parameter set.
pub data Edit : Type 0 where
  -- the new tag, the operation, and the inputs given, if any are
  add_operation : Tag → Component → Option (List Tag) → Edit
  add_constant : Tag → Float → Edit
  add_function : Tag → Component → Edit
  add_component : Tag → Component → Edit
  -- target, source, index
  add_input : Tag → Tag → ℕ → Edit
  remove_input : Tag → ℕ → Edit
  remove_component : Tag → Edit
  -- old, new
  rename_component : Tag → Tag → Edit
  set_parameter : Tag → Name → Data → Edit

-- Adding and renaming answer the tag made, other edits only that they are done. A refusal has a number and carries a tag and an index.
pub data Answer : Type 0 where
  done : Answer
  made : Tag → Answer
  refused : ℕ → Tag → ℕ → Answer

-- an edit's answer, and the model after it
pub record Outcome : Type 0 where
  pub answer : Answer
  pub model : Model

-- a refusal changes nothing
abbrev pub refuse : Model → ℕ → Tag → ℕ → Outcome
refuse m n t i = record { answer = refused n t i; model = m }

-- a check: refused with n, t and i if b, else what follows
unfoldable pub check : Model → Bool → ℕ → Tag → ℕ → Outcome → Outcome
check m b n t i o = cond b (refuse m n t i) o

-- ---- adding

-- the component c under t, with the default d
abbrev pub with_component : Model → Tag → Component → Tag → Model
with_component m t c d = record { components = put t c m.components; lists = m.lists; default = some d }

-- and the tag's list l, over a leftover one
abbrev pub with_operation : Model → Tag → Component → List Place → Tag → Model
with_operation m t c l d = record { components = put t c m.components; lists = put t l m.lists; default = some d }

-- 64 components are held
abbrev pub full : Model → Bool
full m = leb 64 (length m.components)

-- a new list is needed and 128 exist
abbrev pub lists_full : Model → Tag → Bool
lists_full m t = not (held t m.lists) && leb 128 (length m.lists)

-- `add_constant`, `add_function`: 1, 11, 15. The function's kind is judged between 1 and 11 (docs/DECISIONS.md).
unfoldable pub add_plain : Model → Tag → Component → Bool → Outcome
add_plain m t c fits =
    check m (overlong t) 1 empty 0
    (check m (not fits) 4 t 0
    (check m (held t m.components) 11 t 0
    (check m (full m) 15 empty 0
    (record { answer = made t; model = with_component m t c t }))))

-- the inputs given that are looked at: the first three at most
abbrev pub looked_at : Option (List Tag) → List Tag
looked_at none = []
looked_at (some ts) = take 3 ts

-- the places of a new operation: the inputs given, or every place unassigned
abbrev pub new_places : Component → Option (List Tag) → List Place
new_places c none = replicate (input_count c) none
new_places c (some ts) = map some ts

-- `add_operation`: 1 (own tag, then inputs), 11, 2, 15, 16. The component's kind is judged between 1 and 11 (docs/DECISIONS.md).
unfoldable pub add_op : Model → Tag → Component → Option (List Tag) → Outcome
add_op m t c ts =
    check m (overlong t || any overlong (looked_at ts)) 1 empty 0
    (check m (not (is_operation c)) 4 t 0
    (check m (held t m.components) 11 t 0
    (check m (not (eqb (length (new_places c ts)) (input_count c))) 2 t 0
    (check m (full m) 15 empty 0
    (check m (lists_full m t) 16 empty 0
    (record { answer = made t; model = with_operation m t c (new_places c ts) t }))))))

-- the first free of t_k, t_(k+1) and on, d of them
unfoldable pub first_free : Table Component → Tag → ℕ → ℕ → Option Tag
first_free cs t zero k = none
first_free cs t (suc d) k = elim (held (numbered t k) cs) [ true ↦ first_free cs t d (suc k) | false ↦ some (numbered t k) ]

-- the tag if free, else t_1, t_2 and on, first free. Of one more tag than there are components one is free (`proofs/Theorems/Free.antt`).
unfoldable pub free_tag : Table Component → Tag → Option Tag
free_tag cs t = elim (held t cs) [ true ↦ first_free cs t (suc (length cs)) 1 | false ↦ some t ]

-- c under the free tag u: a new operation's list is unassigned, and the default becomes the tag asked for
unfoldable pub add_under : Model → Tag → Tag → Component → Outcome
add_under m u t c = cond (is_operation c)
    (check m (lists_full m u) 16 empty 0 (record { answer = made u; model = with_operation m u c (replicate (input_count c) none) t }))
    (record { answer = made u; model = with_component m u c t })

abbrev pub add_free : Model → Tag → Component → Option Tag → Outcome
add_free m t c none = refuse m 17 t 0
add_free m t c (some u) = check m (overlong u) 17 t 0 (check m (full m) 15 empty 0 (add_under m u t c))

-- `add_component`: 1, 17, 15, 16
unfoldable pub add_any : Model → Tag → Component → Outcome
add_any m t c = check m (overlong t) 1 empty 0 (add_free m t c (free_tag m.components t))

-- ---- wiring

abbrev pub with_list : Model → Tag → List Place → Model
with_list m t l = record { components = m.components; lists = put t l m.lists; default = m.default }

-- the walk: 14 at the target, 13 at a gap
abbrev pub walked : Model → Tag → Outcome → Walked → Outcome
walked m target o clear = o
walked m target o met = refuse m 14 target 0
walked m target o (gapped t i) = refuse m 13 t i

abbrev pub wire_in : Model → Tag → Tag → ℕ → Option (List Place) → Outcome
wire_in m target source i none = refuse m 12 target 0
wire_in m target source i (some l) =
    check m (leb (length l) i) 3 target i
    (walked m target (record { answer = done; model = with_list m target (set l i (some source)) }) (walk_from m target source))

-- `add_input`: 1 target, 1 source, 12 target, 12 source, 12 no list, 3, then the walk
unfoldable pub add_wire : Model → Tag → Tag → ℕ → Outcome
add_wire m target source i =
    check m (overlong target) 1 empty 0
    (check m (overlong source) 1 empty 0
    (check m (not (held target m.components)) 12 target 0
    (check m (not (held source m.components)) 12 source 0
    (wire_in m target source i (list m target)))))

abbrev pub unwire_in : Model → Tag → ℕ → Option (List Place) → Outcome
unwire_in m t i none = refuse m 12 t 0
unwire_in m t i (some l) = check m (leb (length l) i) 3 t i (record { answer = done; model = with_list m t (set l i none) })

-- `remove_input`: 1, 12 no list, 3. It works on any list; an unassigned place is accepted.
unfoldable pub remove_wire : Model → Tag → ℕ → Outcome
remove_wire m t i = check m (overlong t) 1 empty 0 (unwire_in m t i (list m t))

-- ---- removing and renaming

-- a place that names t becomes u
unfoldable pub swap : Tag → Place → Place → Place
swap t u none = none
swap t u (some s) = cond (is s t) u (some s)

-- every place that names the tag is cleared, and the default if it is the tag; the tag's own list stays
abbrev pub without : Model → Tag → Model
without m t = record { components = cut t m.components; lists = each (map (swap t none)) m.lists; default = swap t none m.default }

-- `remove_component`: 1, 12
unfoldable pub remove : Model → Tag → Outcome
remove m t =
    check m (overlong t) 1 empty 0
    (check m (not (held t m.components)) 12 t 0
    (record { answer = done; model = without m t }))

-- The component and its list move (over a leftover one), and every place and the default that name the old tag change. Without a list of its own it acquires the leftover list of the new tag.
abbrev pub renamed : Model → Tag → Tag → Model
renamed m t u = record {
  components = move t u m.components;
  lists = each (map (swap t (some u))) (move t u m.lists);
  default = swap t (some u) m.default;
}

-- `rename_component`: 1 old, 1 new, 11 new, 12 old
unfoldable pub rename : Model → Tag → Tag → Outcome
rename m t u =
    check m (overlong t) 1 empty 0
    (check m (overlong u) 1 empty 0
    (check m (held u m.components) 11 u 0
    (check m (not (held t m.components)) 12 t 0
    (record { answer = made u; model = renamed m t u }))))

-- ---- a parameter set

abbrev pub settle : Model → Tag → Setting → Outcome
settle m t (Err DoesNotFit) = refuse m 4 t 0
settle m t (Err TooNear) = refuse m 5 t 0
settle m t (Ok c) = record { answer = done; model = record { components = put t c m.components; lists = m.lists; default = m.default } }

abbrev pub set_in : Model → Tag → Name → Data → Option Component → Outcome
set_in m t n d none = refuse m 12 t 0
set_in m t n d (some c) = settle m t (parameterSet c n d)

-- Parameter: 1, 12, 4, 5
unfoldable pub set_at : Model → Tag → Name → Data → Outcome
set_at m t n d = check m (overlong t) 1 empty 0 (set_in m t n d (component m t))

-- ---- an edit

unfoldable pub edit : Edit → Model → Outcome
edit (add_operation t c ts) m = add_op m t c ts
edit (add_constant t x) m = add_plain m t (Constant x) true
edit (add_function t c) m = add_plain m t c (is_function c)
edit (add_component t c) m = add_any m t c
edit (add_input t s i) m = add_wire m t s i
edit (remove_input t i) m = remove_wire m t i
edit (remove_component t) m = remove m t
edit (rename_component t u) m = rename m t u
edit (set_parameter t n d) m = set_at m t n d

-- 7 comes before all others
unfoldable pub apply : Edit → Model → Outcome
apply e m = check m (not (valid m)) 7 empty 0 (edit e m)

-- An edit aims at the wire's target, or at the tag it removes, renames or gives a parameter. Adding aims at nothing.
unfoldable pub aim : Edit → Option Tag
aim (add_operation t c ts) = none
aim (add_constant t x) = none
aim (add_function t c) = none
aim (add_component t c) = none
aim (add_input t s i) = some t
aim (remove_input t i) = some t
aim (remove_component t) = some t
aim (rename_component t u) = some t
aim (set_parameter t n d) = some t
