-- A parameter set in the bytes: the model that they then hold. Assumes nothing.
use Rattle.std.specs.Prelude.{Result, Ok, Err, Some}
use Rattle.std.specs.Result.{result_ok}
use Prim.Native.Nat.{ℕ, ◌+◌, ◌*◌, ◌<◌}
use native.Mathlib.Omega.{arith}
use mathlib.Core.Path.{◌≡◌, sym, ap, subst, ◌∙◌}
use mathlib.Core.Bool.{false}
use mathlib.Core.List.{List, []}
use mathlib.Core.Option.{Option, some}
use lib.Dec.{T}
use lib.Ieee.{nan}
use lib.ListN.{length, get_or, set}
use Rattle.tag.specs.Tags.{Tag, empty, overlong}
use Rattle.component.specs.Parameter.{Name, set_parameter as parameterSet}
use Rattle.component.specs.declared.parameter.Data.{Data}
use Rattle.component.specs.declared.parameter.ParameterError.{ParameterError}
use Rattle.component.specs.declared.model_component.Component.{Component}
use Rattle.component.specs.declared.model_component.Component.TheVariants.{Constant}
use Rattle.model.specs.Table.{Table, put, distinct}
use Rattle.model.specs.Model.{Place, Model, component}
use Rattle.model.specs.Edit.{Outcome, set_parameter, done, apply, edit, set_at, set_in, settle}
use Rattle.model.proofs.Laws.Valid.{good}
use Rattle.held.proofs.Laws.Changes.{Becomes, becomes_refl, overwritten}
use Rattle.layout.specs.Words.{word}
use Rattle.layout.proofs.Kept.{agree_below}
use Rattle.rows.specs.Rows.{component_in}
use Rattle.rows.specs.Written.{Wrote, Writes}
use Rattle.rows.proofs.Laws.Local.{tag_local}
use Rattle.model_bytes.specs.ModelBytes.{entry_row}
use Rattle.model_bytes.proofs.Laws.Reading.{entry_is}
use Rattle.finding.specs.Rows.{component_at, component_row}
use Rattle.standing.specs.Standing.{Passing, RowOfComponent}
use Rattle.standing.proofs.Laws.Rows.{built_get_d}
use Rattle.direct_rows.specs.Took.{Took}
use Rattle.direct_rows.proofs.Laws.Parts.{Whole, whole, entry_parts}
use Rattle.direct_rows.proofs.Laws.Found.{entry_at, component-found, component-held, components-length}
use Rattle.direct_rows.proofs.Laws.Took.{applied, took}
use Rattle.direct_rows.proofs.Laws.Written.{pass, kept-within, entry-written, entry-spares}

-- a component written under the row's tag
component-put : {s t : List ℕ} (i : ℕ) {x : Tag × Component} (k : Component) → entry_row s i ≡ some x → Wrote (λ u. component_in u (104 + 88 * i)) (some k) (104 + 88 * i) 48 s t → entry_row t i ≡ some (x.0, k)
component-put {s} {t} i k e p =
    let at : 64 + 88 * i + 40 ≡ 104 + 88 * i = omega arith in
    entry_is t (64 + 88 * i) (tag_local (agree_below (64 + 88 * i) 40 p.kept (omega arith)) ∙ (entry_parts s (64 + 88 * i) e).tag) (ap (component_in t) at ∙ p.holds)

-- any entry
blank : Tag × Component
blank = ([], Constant nan)

-- the component that a change answers
pub changed : {r : Result Component ParameterError} {k : Component} (x : Result Component ParameterError) → x ≡ r → Some k ≡ result_ok x → r ≡ Ok k
changed (Ok y) m e = let q : y ≡ _ = cc in sym m ∙ ap Ok q
changed (Err z) m e = cc

-- what the edit is, where the component of t becomes k
set-edit : (m : Model) (t : Tag) (n : Name) (x : Data) {c k : Component} → overlong t ≡ false → component m t ≡ some c → parameterSet c n x ≡ Ok k
    → edit (set_parameter t n x) m ≡ record { answer = done; model = record { components = put t k m.components; lists = m.lists; default = m.default } }
unfolding edit set_at
set-edit m t n x {c} {k} short e p =
    pass m (overlong t) 1 empty 0 (set_in m t n x (component m t)) short
    ∙ ap (λ (o : Option Component). set_in m t n x o) e
    ∙ ap (settle m t) p

module _ {s t : List ℕ} (tag : Tag) (n : Name) (x : Data) (i : ℕ) (there : RowOfComponent s tag i)
    (c k : Component) (row : component_row s i ≡ some c) (change : parameterSet c n x ≡ Ok k) (writes : Writes (λ u. component_in u (104 + 88 * i)) (some k) (104 + 88 * i) 48 s t) where
  g : Passing s
  g = there.passing

  w : Whole s g.model
  w = whole g.is

  wrote : Wrote (λ u. component_in u (104 + 88 * i)) (some k) (104 + 88 * i) 48 s t
  wrote = writes.wrote (omega (arith, w.size))

  once : T (distinct g.model.components)
  once = (good g.model g.sound).once

  at : (i < word s 8) × ((get_or g.model.components i blank).0 ≡ tag)
  at = component-found w blank there.row

  below : i < length g.model.components
  below = omega (arith, at.0, components-length w)

  found : component g.model tag ≡ some c
  found = component-held w blank once there.row ∙ sym (entry_at w blank i at.0).component ∙ row

  result : apply (set_parameter tag n x) g.model ≡ record { answer = done; model = record { components = put tag k g.model.components; lists = g.model.lists; default = g.model.default } }
  result = applied (set_parameter tag n x) g.model g.sound ∙ set-edit g.model tag n x there.short found change

  written : Whole t (record { components = set g.model.components i (tag, k); lists = g.model.lists; default = g.model.default })
  written = entry-written w i (tag, k) at.0 (kept-within (component_at i) 88 wrote.kept (omega arith) (omega arith))
      (component-put i k (built_get_d w.components blank i at.0) wrote ∙ ap (λ (a : Tag). some (a, k)) at.1)

  pub parameter_set : Took (set_parameter tag n x) done s t
  parameter_set =
      took (set_parameter tag n x) g.is g.sound (ap (λ (o : Outcome). o.answer) result) written
      (subst (λ (r : Table Component). Becomes r (set g.model.components i (tag, k))) (sym (ap (λ (o : Outcome). o.model.components) result)) (overwritten blank g.model.components i tag k once below at.1))
      (subst (λ (r : Table (List Place)). Becomes r g.model.lists) (sym (ap (λ (o : Outcome). o.model.lists) result)) (becomes_refl (good g.model g.sound).once-lists))
      (ap (λ (o : Outcome). o.model.default) result)
      (entry-spares w i (tag, k) at.0 (kept-within (component_at i) 88 wrote.kept (omega arith) (omega arith)))
