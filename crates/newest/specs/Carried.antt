-- Document 01, "The steady number": the target's tag after an edit. Definitions only.
use Rattle.tag.specs.Tags.{Tag}
use Rattle.model.specs.Edit.{Edit, add_operation, add_constant, add_function, add_component, add_input, remove_input, remove_component, rename_component, set_parameter, Answer, done, made, refused}
use Rattle.model.specs.Steady.{relabel}

-- the target t after a rename that answered a: only one that is taken moves it
abbrev pub after_rename : Answer → Tag → Tag → Tag → Tag
after_rename done old new t = t
after_rename (made u) old new t = relabel old new t
after_rename (refused n a i) old new t = t

-- the target t after an edit that answered a
unfoldable pub carried : Edit → Answer → Tag → Tag
carried (add_operation s c is) a t = t
carried (add_constant s x) a t = t
carried (add_function s c) a t = t
carried (add_component s c) a t = t
carried (add_input s r i) a t = t
carried (remove_input s i) a t = t
carried (remove_component s) a t = t
carried (rename_component old new) a t = after_rename a old new t
carried (set_parameter s n d) a t = t
