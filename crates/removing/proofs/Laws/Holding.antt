-- A record that stands and holds what a model does, at any table positions, after each step of an edit. Assumes nothing.
use mathlib.Core.Path.{◌≡◌, sym, ◌∙◌, ap, subst}
use mathlib.Core.Bool.{Bool}
use mathlib.Core.List.{List, map}
use mathlib.Core.Option.{some}
use Prim.Native.Nat.{ℕ, ◌≤◌}
use lib.Dec.{T}
use Rattle.std.specs.Prelude.{Some}
use Rattle.tag.specs.declared.Tag.{Tag as Label}
use Rattle.tag.specs.Tags.{Tag}
use Rattle.tag.specs.View.{Labelled}
use Rattle.component.specs.declared.model_component.Component.{Component}
use Rattle.model.specs.declared.implicit_model.ComponentEntry.{ComponentEntry}
use Rattle.model.specs.declared.implicit_model.Model.{Model as Record}
use Rattle.model.specs.Table.{Table, each}
use Rattle.model.specs.Model.{Place, Model, Same}
use Rattle.model.specs.Edit.{swap}
use Rattle.model.specs.View.{PlaceRecord, place_of, rows, component_of, components_of, lists_of, every, place_fits, entry_fits, view}
use Rattle.model.proofs.Laws.Bool.{true→T}
use Rattle.held.proofs.Laws.Changes.{Becomes, becomes_each}
use Rattle.held.proofs.Laws.Standing.{Standing, same_view}
use Rattle.removing.specs.Swapping.{PlacesSwapped}

pub record Holds (w : Model) (n : Record) : Type 0 where
  pub components : Becomes w.components (components_of n)
  pub lists : Becomes w.lists (lists_of n)
  pub default : w.default ≡ place_of n.default
  pub stands : Standing n

pub holds_same : {w : Model} {n : Record} → Holds w n → Same w (view n)
holds_same {n = n} h = same_view n h.components h.lists h.default

-- a model's places and default swapped
abbrev pub swapped_in : Tag → Place → Model → Model
swapped_in t p w = record { components = w.components; lists = each (map (swap t p)) w.lists; default = swap t p w.default }

module _ (t : Tag) (by : PlaceRecord) (o : T (place_fits by)) (n r : Record) (s : PlacesSwapped t by n r) where
  rows-kept : {A : Type 0} (g : ComponentEntry → A) → rows g n.component_count n.components ≡ rows g r.component_count r.components
  rows-kept g = rw (s.components, s.count)

  pub holds_swapped : (w : Model) → Holds w n → Holds (swapped_in t (place_of by) w) r
  holds_swapped w h =
      let C : Becomes w.components (components_of r) = subst (λ (x : Table Component). Becomes w.components x) (rows-kept component_of) h.components in
      let L : Becomes (each (map (swap t (place_of by))) w.lists) (lists_of r) =
      subst (λ (x : Table (List Place)). Becomes (each (map (swap t (place_of by))) w.lists) x) (sym s.lists) (becomes_each (map (swap t (place_of by))) h.lists) in
      let g = h.stands in
      record {
        components = C;
        lists = L;
        default = ap (swap t (place_of by)) h.default ∙ sym s.default.place;
        stands = record {
          few = subst (λ (k : ℕ). k ≤ 64) (sym s.count) g.few;
          few_lists = subst (λ (k : ℕ). k ≤ 128) (sym s.list_count) g.few_lists;
          entries = subst (λ (bs : List Bool). T (every bs)) (rows-kept entry_fits) g.entries;
          lists = s.fits o g.lists;
          default = s.default.fits o g.default;
          once = C.once;
          once-lists = L.once;
        };
      }

-- ---- a place swapped by a tag

pub named : {t : Tag} {y : Label} → Labelled t y → place_of (Some y) ≡ some t
unfolding place_of
named l = ap some l.bytes

pub named-fits : {t : Tag} {y : Label} → Labelled t y → T (place_fits (Some y))
unfolding place_fits
named-fits l = true→T _ l.short
