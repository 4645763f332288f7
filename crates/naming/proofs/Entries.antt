-- The parameters of a component, one by one: each has a name that fits a tag. Assumes nothing.
use denote.Bor.{Bor}
use mathlib.Core.Path.{◌≡◌, refl, sym, ◌∙◌, ap, subst}
use mathlib.Core.Bool.{true≢false}
use lib.ListN.{length, get_or, take}
use Rattle.std.specs.Prelude.{ℕ, zero, suc, ◌<◌, List, [], ◌∷◌, Some, is_some, map, slice_get}
use Rattle.std.specs.Option.{option_map, unwrap_or}
use Rattle.std.proofs.lemmas.Option.{slice_get-map, slice_get-get_or}
use Rattle.tag.specs.declared.Tag.{Tag as Label}
use Rattle.tag.specs.View.{Made}
use Rattle.component.specs.Parameter.{name_value, name_centre, name_radius, name_thickness, name_factor, name_from_min, name_from_max, name_to_min, name_to_max, name_distance}
use Rattle.component.specs.declared.parameter.DataType.{DataType}
use Rattle.component.specs.declared.model_component.Component.{Component}
use Rattle.component.specs.declared.model_component.Component.TheVariants.{Constant, Sphere, Torus, Multiply, Add, Subtract, Divide, Lerp, VariableLerp, Remap, BooleanUnion, BooleanIntersection, BooleanDifference, Offset, Thickness}
use Rattle.naming.specs.Names.{Entry, parameters, entry, parameter_at, DescribedAt}

abbrev Short : List Entry → Type 0
Short [] = Unit {0}
Short (e ∷ es) = (take 32 e.0 ≡ e.0) × Short es

short : (c : Component) → Short (parameters c)
unfolding name_value name_centre name_radius name_thickness name_factor name_from_min name_from_max name_to_min name_to_max name_distance
short (Constant v) = (refl, tt)
short (Sphere s) = (refl, (refl, tt))
short (Torus s) = (refl, (refl, (refl, tt)))
short Multiply = tt
short Add = tt
short Subtract = tt
short Divide = tt
short (Lerp f) = (refl, tt)
short VariableLerp = tt
short (Remap f g t u) = (refl, (refl, (refl, (refl, tt))))
short BooleanUnion = tt
short BooleanIntersection = tt
short BooleanDifference = tt
short (Offset d) = (refl, tt)
short (Thickness t) = (refl, tt)

short_at : (es : List Entry) (i : ℕ) (e : Entry) → Short es → slice_get es i ≡ Some e → take 32 e.0 ≡ e.0
short_at [] i e h k = absurd (true≢false (sym (ap is_some k)))
short_at (x ∷ es) zero e h k = subst (λ (y : Entry). take 32 y.0 ≡ y.0) (ap (λ o. unwrap_or o x) k) h.0
short_at (x ∷ es) (suc i) e h k = short_at es i e h.1 k

-- the entry that a table in memory has at place i
pub described : (c : Component) (table : List (Bor (List ℕ) × DataType)) (i : ℕ) (row : Bor (List ℕ) × DataType) (t : Label)
    → map entry table ≡ parameters c → i < length table → row ≡ get_or table i row → Made (take 32 row.0.now) t
    → DescribedAt (parameter_at c i) (Some (record { name = t; data_type = row.1 }))
described c table i row t e h r m =
    let at : parameter_at c i ≡ Some (entry row) =
    ap (λ (es : List Entry). slice_get es i) (sym e) ∙ slice_get-map entry table i ∙ ap (option_map entry) (slice_get-get_or table i row h ∙ ap Some (sym r)) in
    rw at (record { name = (rw (short_at (parameters c) i (entry row) (short c) at) at m).labelled; takes = refl })
