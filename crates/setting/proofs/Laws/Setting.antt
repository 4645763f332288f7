-- Each way out of `set_parameter`. Assumes nothing.
use Rattle.std.specs.Prelude.{Option, Some, None, Result, Ok, Err, MatchResult, IsErrAnd}
use mathlib.Core.Path.{◌≡◌, refl, sym, ◌∙◌, ap, subst}
use mathlib.Core.Bool.{true, false}
use mathlib.Core.List.{[]}
use mathlib.Core.Option.{Option as Maybe, none, some}
use Prim.Native.Nat.{ℕ}
use native.Mathlib.Omega.{arith}
use lib.ListN.{get_or}
use Rattle.tag.specs.declared.Tag.{Tag as Label}
use Rattle.tag.specs.Tags.{Tag, empty, overlong}
use Rattle.tag.specs.View.{bytes_of, Labelled}
use Rattle.component.specs.Parameter.{Name, set_parameter as parameterSet, Setting}
use Rattle.component.specs.declared.parameter.Data.{Data}
use Rattle.component.specs.declared.parameter.ParameterError.{ParameterError}
use Rattle.component.specs.declared.parameter.ParameterError.TheVariants.{DoesNotFit, TooNear}
use Rattle.component.specs.declared.model_component.Component.{Component}
use Rattle.model.specs.declared.implicit_model.ComponentEntry.{ComponentEntry}
use Rattle.model.specs.declared.implicit_model.Model.{Model as Record}
use Rattle.model.specs.Model.{component}
use Rattle.model.specs.Edit.{set_parameter, done, refused, edit, set_at, set_in, settle}
use Rattle.model.specs.View.{component_of, components_of, entry_fits, view, passes}
use Rattle.model.specs.declared.model_error.Refusal.{Refusal}
use Rattle.model.specs.Answer.{number_of, unsettled, refusal_of}
use Rattle.held.specs.Search.{Sought}
use Rattle.held.proofs.Laws.Rows.{rows-length}
use Rattle.held.proofs.Laws.Search.{RowAt}
use Rattle.held.proofs.Laws.Standing.{standing}
use Rattle.edit.specs.declared.Edited.{Edited}
use Rattle.edit.specs.Meets.{Meets}
use Rattle.edit.specs.Ends.{Ends, Refused}
use Rattle.edit.specs.Rows.{with_entry}
use Rattle.edit.proofs.Laws.Step.{Step, refusal, skip, stop, finish_done, meets_on}
use Rattle.edit.proofs.Laws.Tests.{carrying, missing, sought_by, found_row}
use Rattle.edit.proofs.Laws.Stored.{over_row, entry_stands, entry-same, row_fits}

-- ---- a setting whose error is made a refusal

pub set-ok : (P : ParameterError → Refusal → Type 0) {c : Component} (s : Setting) (r : Result Component Refusal) → MatchResult s (λ x. r ≡ Ok x) (λ p. IsErrAnd r (P p)) → r ≡ Ok c → Ok c ≡ s
set-ok P {c} (Ok x) r h e = let same : c ≡ x = cc in ap Ok same
set-ok P (Err p) (Ok x) h e = absurd h
set-ok P (Err p) (Err x) h e = absurd (grind arith)

pub set-err : {P : ParameterError → Refusal → Type 0} {e : Refusal} (u : Label) (s : Setting) (r : Result Component Refusal)
    → ((p : ParameterError) (x : Refusal) → P p x → refusal_of x ≡ refused (number_of (unsettled p)) (bytes_of u) 0)
    → MatchResult s (λ x. r ≡ Ok x) (λ p. IsErrAnd r (P p)) → r ≡ Err e → (p : ParameterError) × (Err p ≡ s) × (refusal_of e ≡ refused (number_of (unsettled p)) (bytes_of u) 0)
set-err u (Ok x) (Ok y) f h q = absurd (grind arith)
set-err u (Ok x) (Err y) f h q = absurd (grind arith)
set-err u (Err p) (Ok x) f h q = absurd h
set-err {e = e} u (Err p) (Err x) f h q = let same : x ≡ e = cc in (p, refl, ap refusal_of (sym same) ∙ f p x h)

-- ---- the ways out

module _ (m : Record) (t : Tag) (n : Name) (x : Data) (r : Edited) (v : passes m ≡ true) where
  on : Step (set_at (view m) t n x) m r → Meets (set_parameter t n x) m r
  unfolding edit
  on s = meets_on v s

  pub set_1 : overlong t ≡ true → Refused m 1 [] 0 r → Meets (set_parameter t n x) m r
  unfolding set_at
  set_1 h z = on (stop (overlong t) 1 empty 0 _ h z)

  module _ (st : overlong t ≡ false) (u : Label) (lt : Labelled t u) (f : Option ℕ) (q : Sought (components_of m) 64 (bytes_of u) f) where
    into : (o : Maybe Component) → component (view m) t ≡ o → Step (set_in (view m) t n x o) m r → Meets (set_parameter t n x) m r
    unfolding set_at
    into o e s = on (skip (overlong t) 1 empty 0 st (subst (λ (c : Maybe Component). Step (set_in (view m) t n x c) m r) (sym e) s))

    pub set_12 : f ≡ None → Refused m 12 (bytes_of u) 0 r → Meets (set_parameter t n x) m r
    unfolding view
    set_12 e z = into none (missing (sought_by lt q) e) (refusal (carrying lt z))

    module _ (i : ℕ) (e : f ≡ Some i) (d : ComponentEntry) where
      at : RowAt component_of m.components m.component_count i t d
      at = found_row component_of m.components m.component_count d (sought_by lt q) e

      settled : (o : Setting) → o ≡ parameterSet (get_or m.components i d).component n x → Step (settle (view m) t o) m r → Meets (set_parameter t n x) m r
      unfolding view
      settled o p s = into (some (get_or m.components i d).component) at.entry (subst (λ (y : Setting). Step (settle (view m) t y) m r) p s)

      -- 4 or 5
      pub set_refused : (p : ParameterError) → Err p ≡ parameterSet (get_or m.components i d).component n x → Refused m (number_of (unsettled p)) (bytes_of u) 0 r → Meets (set_parameter t n x) m r
      set_refused DoesNotFit y z = settled (Err DoesNotFit) y (refusal (carrying lt z))
      set_refused TooNear y z = settled (Err TooNear) y (refusal (carrying lt z))

      pub set-done : (c : Component) → Ok c ≡ parameterSet (get_or m.components i d).component n x → Ends done (with_entry m i (record { tag = (get_or m.components i d).tag; component = c })) r → Meets (set_parameter t n x) m r
      unfolding view
      set-done c y z =
          let g = standing m v in
          let row : ComponentEntry = record { tag = (get_or m.components i d).tag; component = c } in
          let s = over_row component_of entry_fits m.components m.component_count t c row (ap (λ (b : Tag). (b, c)) at.tag)
          (row_fits entry_fits m.components m.component_count i d g.entries at.below (omega (arith, at.within, rows-length component_of m.components m.component_count)))
          g.once g.entries i d at in
          settled (Ok c) y (finish_done z (entry-same m g i row s) (entry_stands m g i row s))
