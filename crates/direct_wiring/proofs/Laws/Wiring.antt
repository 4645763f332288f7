-- `remove_input` and `add_input` in the bytes, where nothing refuses them. Assumes nothing.
use Rattle.std.specs.Prelude.{Some, None}
use Prim.Native.Nat.{ℕ, ◌<◌, min}
use native.Mathlib.Omega.{arith}
use mathlib.Core.Path.{◌≡◌, refl, sym, ap, subst, ◌∙◌}
use mathlib.Core.Bool.{Bool, false, not}
use mathlib.Core.List.{List, []}
use mathlib.Core.Option.{Option, none, some}
use lib.Dec.{leb}
use lib.Ieee.{nan}
use lib.ListN.{length, get_or, set}
use borrow.Author.Tests.{lt-leb}
use Rattle.tag.specs.declared.Tag.{Tag as Label}
use Rattle.tag.specs.Tags.{Tag, empty, overlong}
use Rattle.tag.specs.View.{Made}
use Rattle.component.specs.declared.model_component.Component.{Component}
use Rattle.component.specs.declared.model_component.Component.TheVariants.{Constant}
use Rattle.model.specs.Table.{held}
use Rattle.model.specs.Model.{Place, Model, list, component}
use Rattle.model.specs.Edit.{Outcome, add_input, remove_input, done, edit, with_list, walked, wire_in, add_wire, unwire_in, remove_wire}
use Rattle.model.specs.View.{place_of}
use Rattle.model.specs.Walk.{clear, walk_from}
use Rattle.model.proofs.Laws.Bool.{T→true}
use Rattle.model.proofs.Laws.Valid.{found-held, good}
use Rattle.layout.specs.Words.{word}
use Rattle.finding.specs.Rows.{component_at, tag_of, RowSought}
use Rattle.standing.specs.declared.Wire.{Wire}
use Rattle.standing.specs.Standing.{Passing, Stands}
use Rattle.direct.specs.Along.{Clear}
use Rattle.direct_rows.specs.Took.{Takes}
use Rattle.direct_rows.proofs.Laws.Parts.{whole}
use Rattle.direct_rows.proofs.Laws.Found.{component-held}
use Rattle.direct_rows.proofs.Laws.Written.{pass}
use Rattle.direct_wiring.specs.Placing.{PlacedIn, PlacesIn}
use Rattle.direct_wiring.proofs.Laws.Placing.{list_there, place_there, place-put}

-- ---- what the edits are

unwired : (m : Model) (t : Tag) (p : ℕ) {l : List Place} → overlong t ≡ false → list m t ≡ some l → p < length l
    → edit (remove_input t p) m ≡ record { answer = done; model = with_list m t (set l p none) }
unfolding edit remove_wire
unwired m t p {l} short e h =
    pass m (overlong t) 1 empty 0 (unwire_in m t p (list m t)) short
    ∙ ap (λ (o : Option (List Place)). unwire_in m t p o) e
    ∙ pass m (leb (length l) p) 3 t p (record { answer = done; model = with_list m t (set l p none) }) (lt-leb (length l) p h)

there_held : (m : Model) (t : Tag) {c : Component} → component m t ≡ some c → not (held t m.components) ≡ false
there_held m t {c} e = ap not (T→true (held t m.components) (found-held t m.components (c, e)))

wired_in : (m : Model) (t u : Tag) (p : ℕ) {l : List Place} {c d : Component} → overlong t ≡ false → overlong u ≡ false → component m t ≡ some c → component m u ≡ some d → list m t ≡ some l → p < length l
    → walk_from m t u ≡ clear → edit (add_input t u p) m ≡ record { answer = done; model = with_list m t (set l p (some u)) }
unfolding edit add_wire
wired_in m t u p {l} short-t short-u a b e h walk =
    let o : Outcome = record { answer = done; model = with_list m t (set l p (some u)) } in
    let z = wire_in m t u p (list m t) in
    pass m (overlong t) 1 empty 0 _ short-t
    ∙ pass m (overlong u) 1 empty 0 _ short-u
    ∙ pass m (not (held t m.components)) 12 t 0 _ (there_held m t a)
    ∙ pass m (not (held u m.components)) 12 u 0 z (there_held m u b)
    ∙ ap (λ (x : Option (List Place)). wire_in m t u p x) e
    ∙ pass m (leb (length l) p) 3 t p _ (lt-leb (length l) p h)
    ∙ ap (walked m t o) walk

-- ---- what their places are

unassigned : place_of None ≡ none
unfolding place_of
unassigned = refl

assigned : {t : Tag} {y : Label} → Made t y → place_of (Some y) ≡ some t
unfolding place_of
assigned made = ap some made.labelled.bytes

-- ---- `remove_input`

pub input_removed : {s t : List ℕ} {r : Bool} (g : Passing s) (tag : Tag) (p : ℕ) → overlong tag ≡ false → PlacesIn tag p (place_of None) s t r
    → Takes (remove_input tag p) done s t r
input_removed {s} {t} g tag p short k = record {
  taken = λ e.
      let put = subst (λ (q : Place). PlacedIn tag p q s t) unassigned (k.placed e) in
      place-put g.is g.sound put (remove_input tag p) (unwired g.model tag p short (list_there g.is g.sound put) (place_there g.is g.sound put));
  left = k.left;
}

-- ---- `add_input`

module _ {s : List ℕ} {n : ℕ} {w : List (List Wire)} (g : Stands s n w) (target source : Tag) {i k : ℕ} (to : RowSought s component_at (min (word s 8) 64) target (Some i)) (from : RowSought s component_at (min (word s 8) 64) source (Some k)) where
  held_by : {t : Tag} {r : ℕ} → RowSought s component_at (min (word s 8) 64) t (Some r) → component g.model t ≡ some (get_or g.model.components r ([], Constant nan)).1
  held_by q = component-held (whole g.is) ([], Constant nan) (good g.model g.sound).once q

  walk-clear : Clear w n i k → walk_from g.model target source ≡ clear
  walk-clear c =
      let a = to.found in
      let b = from.found in
      ap (λ (t : Tag). walk_from g.model t source) (sym a.1) ∙ ap (λ (t : Tag). walk_from g.model (tag_of s i) t) (sym b.1) ∙ c s g (omega (arith, a.0, g.count))

  pub input_added : {t : List ℕ} {r : Bool} (p : ℕ) (y : Label) → overlong target ≡ false → overlong source ≡ false → Clear w n i k → Made source y
      → PlacesIn target p (place_of (Some y)) s t r → Takes (add_input target source p) done s t r
  input_added {t} p y short-t short-s c made k = record {
    taken = λ e.
        let put = subst (λ (q : Place). PlacedIn target p q s t) (assigned made) (k.placed e) in
        place-put g.is g.sound put (add_input target source p)
        (wired_in g.model target source p short-t short-s (held_by to) (held_by from) (list_there g.is g.sound put) (place_there g.is g.sound put) (walk-clear c));
    left = k.left;
  }
