-- The record with one component more, and the check for room before it. Assumes nothing.
use mathlib.Core.Path.{◌≡◌, sym, ap, subst}
use mathlib.Core.List.{List}
use mathlib.Core.Option.{none, some}
use Prim.Native.Nat.{ℕ, ◌+◌, ◌<◌, ◌≤◌}
use native.Mathlib.Omega.{arith}
use native.Mathlib.Decide.{dec_le}
use lib.ListN.{length, set}
use Rattle.std.specs.Prelude.{Some}
use Rattle.tag.specs.declared.Tag.{Tag as Label}
use Rattle.tag.specs.Tags.{Tag, empty}
use Rattle.tag.specs.View.{tag_fits, Labelled}
use Rattle.component.specs.declared.model_component.Component.{Component}
use Rattle.model.specs.declared.implicit_model.InputList.{InputList}
use Rattle.model.specs.declared.implicit_model.Model.{Model as Record}
use Rattle.model.specs.Table.{Table, find, put}
use Rattle.model.specs.Model.{Place, Same}
use Rattle.model.specs.Edit.{made, check, full, with_component}
use Rattle.model.specs.View.{place_of, place_fits, component_of, list_of, entry_fits, list_fits, components_of, lists_of, view}
use Rattle.model.proofs.Laws.Bool.{true→T}
use Rattle.held.proofs.Laws.Changes.{becomes_refl}
use Rattle.held.proofs.Laws.Standing.{Standing, same_view}
use Rattle.edit.specs.declared.Edited.{Edited}
use Rattle.edit.specs.Ends.{Ends}
use Rattle.edit.proofs.Laws.Step.{Step, skip, stop, finish_made}
use Rattle.edit.proofs.Laws.Stored.{Stored, more_row}
use Rattle.edit.proofs.Laws.Tests.{is_full, has_room}
use Rattle.adding.specs.Grown.{with_more, Grew}

-- the component c under u, the default e, and the lists ls of which n are live
abbrev pub grown : Record → Label → Component → Label → List InputList → ℕ → Record
grown m u c e ls n = record {
  components = set m.components m.component_count (record { tag = u; component = c });
  component_count = m.component_count + 1;
  lists = ls;
  list_count = n;
  default = Some e;
}

module _ (m : Record) (g : Standing m) (size : length m.components ≡ 64) (k : m.component_count < 64) {t : Tag} {u : Label} (lt : Labelled t u) {a : Tag} {e : Label} (la : Labelled a e)
    (c : Component) (free : find t (components_of m) ≡ none) where
  more : Stored component_of entry_fits (put t c (components_of m)) (m.component_count + 1) (set m.components m.component_count (record { tag = u; component = c }))
  more = more_row component_of entry_fits m.components m.component_count t c (record { tag = u; component = c }) (ap (λ (b : Tag). (b, c)) lt.bytes) (true→T (tag_fits u) lt.short)
      g.once g.entries free (omega arith)

  module _ {w : Table (List Place)} (ls : List InputList) (n : ℕ) (few : n ≤ 128) (s : Stored list_of list_fits w n ls) where
    pub grown_stands : Standing (grown m u c e ls n)
    unfolding place_fits
    grown_stands = record {
      few = omega arith;
      few_lists = few;
      entries = more.fits;
      lists = s.fits;
      default = true→T (tag_fits e) la.short;
      once = more.becomes.once;
      once-lists = s.becomes.once;
    }

    pub grown_same : Same (record { components = put t c (components_of m); lists = w; default = some a }) (view (grown m u c e ls n))
    unfolding view place_of
    grown_same = same_view (grown m u c e ls n) more.becomes s.becomes (ap some (sym la.bytes))

-- the lists as they were
pub lists_stay : (m : Record) → Standing m → Stored list_of list_fits (lists_of m) m.list_count m.lists
lists_stay m g = record { becomes = becomes_refl g.once-lists; fits = g.lists }

-- what `add_more` answers, for a tag that no component has
pub grew : (m : Record) → Standing m → length m.components ≡ 64 → {t : Tag} {u : Label} → Labelled t u → {a : Tag} {e : Label} → Labelled a e → (c : Component)
    → find t (components_of m) ≡ none → {r : Edited} → Grew m u c e r → Step (check (view m) (full (view m)) 15 empty 0 (record { answer = made t; model = with_component (view m) t c a })) m r
unfolding view
grew m g size {t} {u} lt {a} {e} la c x {r} w = go (dec_le 64 m.component_count)
  where
    go : Dec (64 ≤ m.component_count) → Step (check (view m) (full (view m)) 15 empty 0 (record { answer = made t; model = with_component (view m) t c a })) m r
    go (yes h) = stop (full (view m)) 15 empty 0 _ (is_full m size h) (w.full h)
    go (no h) =
        let k : m.component_count < 64 = omega arith in
        skip (full (view m)) 15 empty 0 (has_room m size k) (finish_made (subst (λ (b : Tag). Ends (made b) (with_more m u c e) r) lt.bytes (w.more k))
        (grown_same m g size k lt la c x m.lists m.list_count g.few_lists (lists_stay m g))
        (grown_stands m g size k lt la c x m.lists m.list_count g.few_lists (lists_stay m g)))
