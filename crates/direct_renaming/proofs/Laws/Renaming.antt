-- Each way out of `rename_component_in`. Assumes nothing.
use Rattle.std.specs.Prelude.{Option, Some, None}
use Prim.Native.Nat.{ℕ, ◌+◌, ◌*◌, ◌≤◌, ◌<◌, min}
use native.Mathlib.Omega.{arith}
use mathlib.Core.Path.{◌≡◌, refl, sym, ap, subst, ◌∙◌}
use mathlib.Core.Bool.{Bool, false, not}
use mathlib.Core.List.{List, [], map}
use mathlib.Core.Option.{none, some}
use lib.Dec.{T}
use lib.ListN.{length, get_or, set}
use Rattle.tag.specs.declared.Tag.{Tag as Label}
use Rattle.tag.specs.Tags.{Tag, empty, overlong}
use Rattle.tag.specs.View.{bytes_of, Made}
use Rattle.tag.proofs.Laws.View.{length-short, short-length}
use Rattle.component.specs.declared.model_component.Component.{Component}
use Rattle.component.specs.declared.model_component.Component.TheVariants.{Add}
use Rattle.model.specs.Table.{Table, held, find, distinct, move, each}
use Rattle.model.specs.Model.{Place, Model, valid}
use Rattle.model.specs.View.{place_of}
use Rattle.model.specs.Edit.{rename_component, made, Outcome, check, swap, renamed, rename, edit, apply}
use Rattle.model.proofs.Laws.Bool.{T→true}
use Rattle.model.proofs.Laws.Valid.{found-held, good}
use Rattle.held.proofs.Laws.Changes.{Becomes, becomes_each, find_at, move-free, move-nothing}
use Rattle.layout.specs.Words.{word}
use Rattle.rows.specs.Rows.{tag_in}
use Rattle.rows.specs.Written.{Writes}
use Rattle.model_bytes.specs.Calls.{Spares}
use Rattle.finding.specs.Rows.{component_at, list_place_at, RowSought}
use Rattle.standing.specs.Standing.{RowOfComponent}
use Rattle.direct_rows.specs.Took.{Took}
use Rattle.direct_rows.proofs.Laws.Parts.{Whole, whole}
use Rattle.direct_rows.proofs.Laws.Found.{components-length, lists_length, component-found, component-missing, list-found, list-missing, unheld}
use Rattle.direct_rows.proofs.Laws.Took.{applied, took}
use Rattle.direct_swapping.specs.Swapping.{Swapped}
use Rattle.direct_swapping.proofs.Laws.Swapped.{swapped_whole, swapped_spares}
use Rattle.direct_renaming.specs.Renaming.{Renamable, ListRenamed}
use Rattle.direct_renaming.proofs.Laws.Tagged.{entry_tagged, entry_kept, list_tagged, list_kept}

-- ---- the edit

renames : (m : Model) (t u : Tag) {c : Component} → T (valid m) → length t ≤ 32 → length u ≤ 32 → find u m.components ≡ none → find t m.components ≡ some c
    → apply (rename_component t u) m ≡ record { answer = made u; model = renamed m t u }
unfolding edit rename check
renames m t u {c} v h k n f =
    let o : Outcome = record { answer = made u; model = renamed m t u } in
    applied (rename_component t u) m v
    ∙ ap (λ (b : Bool). check m b 1 empty 0 (check m (overlong u) 1 empty 0 (check m (held u m.components) 11 u 0 (check m (not (held t m.components)) 12 t 0 o)))) (length-short t h)
    ∙ ap (λ (b : Bool). check m b 1 empty 0 (check m (held u m.components) 11 u 0 (check m (not (held t m.components)) 12 t 0 o))) (length-short u k)
    ∙ ap (λ (b : Bool). check m b 11 u 0 (check m (not (held t m.components)) 12 t 0 o)) (unheld u m.components n)
    ∙ ap (λ (b : Bool). check m (not b) 12 t 0 o) (T→true (held t m.components) (found-held t m.components (c, f)))

-- any rows: what stands past the tables
beyond : Tag × Component
beyond = ([], Add)

beyond_lists : Tag × List Place
beyond_lists = ([], [])

-- ---- the list moved

-- v, of the model m whose components became cs, has the list of t under u; rows past the counts are as in r
record Moved (t u : Tag) (m : Model) (cs : Table Component) (r v : List ℕ) : Type 0 where
  lists : Table (List Place)
  whole : Whole v (record { components = cs; lists = lists; default = m.default })
  becomes : Becomes (move t u m.lists) lists
  spares : Spares (length cs) (length lists) r v

module _ {t u : Tag} {m : Model} {cs : Table Component} {r s v : List ℕ} (start : Whole r m) (g : Whole s (record { components = cs; lists = m.lists; default = m.default }))
    (once : T (distinct m.lists)) (n : find u m.lists ≡ none) (k : Spares (length cs) (length m.lists) r s) where
  list-moved : (row : Option ℕ) → RowSought r list_place_at (min (word r 16) 128) t row → ListRenamed row u s v → Moved t u m cs r v
  list-moved (Some j) q f =
      let a = list-found start beyond_lists q in
      let l : j < word s 16 = omega (arith, a.0, lists_length start, lists_length g) in
      let w = f.wrote (omega (arith, l, g.few_lists, g.size)) in
      record {
        lists = set m.lists j (u, (get_or m.lists j beyond_lists).1);
        whole = list_tagged g u beyond_lists l w;
        becomes = move-free beyond_lists m.lists j t u once (omega (arith, a.0, lists_length start)) a.1 n;
        spares = list_kept g u beyond_lists l w k;
      }
  list-moved None q e = record {
    lists = m.lists;
    whole = subst (λ (x : List ℕ). Whole x (record { components = cs; lists = m.lists; default = m.default })) (sym e) g;
    becomes = move-nothing t u m.lists (list-missing start q) once;
    spares = subst (λ (x : List ℕ). Spares (length cs) (length m.lists) r x) (sym e) k;
  }

-- ---- renamed

named : (l : Label) → place_of (Some l) ≡ some (bytes_of l)
unfolding place_of
named l = refl

module _ {s : List ℕ} (t u : Tag) {i : ℕ} (b : Renamable s t u i) (row : Option ℕ) (q : RowSought s list_place_at (min (word s 16) 128) t row) where
  done : {v w x : List ℕ} → Writes (λ y. tag_in y (64 + 88 * i)) (some u) (64 + 88 * i) 40 s v → ListRenamed row u v w → Swapped t (some u) w x → Took (rename_component t u) (made u) s x
  done {v} {w} {x} p f a =
      let m = b.passing.model in
      let valid-m = b.passing.sound in
      let g : Whole s m = whole b.passing.is in
      let here = component-found g beyond b.row in
      let once = (good m valid-m).once in
      let once-lists = (good m valid-m).once-lists in
      let l : i < length m.components = omega (arith, components-length g, here.0) in
      let missing = component-missing g (record { found = tt; missing = b.free }) in
      let missing-list = list-missing g (record { found = tt; missing = b.free-list }) in
      let e = renames m t u valid-m b.short b.short_new missing (ap (λ (y : Tag). find y m.components) (sym here.1) ∙ find_at beyond m.components i once l) in
      let wrote = p.wrote (omega (arith, g.size)) in
      let cs = set m.components i (u, (get_or m.components i beyond).1) in
      let d = list-moved g (entry_tagged g u beyond here.0 wrote) once-lists missing-list (entry_kept g u beyond here.0 wrote) row q f in
      took (rename_component t u) b.passing.is valid-m (ap (λ (o : Outcome). o.answer) e) (swapped_whole d.whole a)
      (subst (λ (o : Outcome). Becomes o.model.components cs) (sym e) (move-free beyond m.components i t u once l here.1 missing))
      (subst (λ (o : Outcome). Becomes o.model.lists (each (map (swap t (some u))) d.lists)) (sym e) (becomes_each (map (swap t (some u))) d.becomes))
      (ap (λ (o : Outcome). o.model.default) e)
      (swapped_spares d.whole a d.spares)

  pub rename-done : {v w x : List ℕ} (l : Label) → Made u l → Writes (λ y. tag_in y (64 + 88 * i)) (some (bytes_of l)) (64 + 88 * i) 40 s v → ListRenamed row (bytes_of l) v w
      → Swapped t (place_of (Some l)) w x → Took (rename_component t u) (made (bytes_of l)) s x
  rename-done {v} {w} {x} l k p f a =
      let e : bytes_of l ≡ u = k.labelled.bytes in
      subst (λ (y : Tag). Took (rename_component t u) (made y) s x) (sym e)
      (done (subst (λ (y : Tag). Writes (λ z. tag_in z (64 + 88 * i)) (some y) (64 + 88 * i) 40 s v) e p) (subst (λ (y : Tag). ListRenamed row y v w) e f)
      (subst (λ (y : Place). Swapped t y w x) (named l ∙ ap some e) a))

-- ---- what the helpers answer

pub renamable : {s : List ℕ} {t u : Tag} {r : ℕ} → RowOfComponent s t r → overlong u ≡ false → RowSought s component_at (min (word s 8) 64) u None → RowSought s list_place_at (min (word s 16) 128) u None → Renamable s t u r
renamable {t = t} {u = u} p b c d = record { passing = p.passing; short = short-length t p.short; short_new = short-length u b; free = c.missing; free-list = d.missing; row = p.row }
