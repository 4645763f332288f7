-- Each way out of `remove_component_in`. Assumes nothing.
use Rattle.std.specs.Prelude.{Some, None}
use Prim.Native.Nat.{ℕ, suc, ◌+◌, ◌*◌, ◌-◌, ◌≤◌, ◌<◌, min}
use native.Mathlib.Omega.{arith}
use native.Mathlib.Decide.{dec_lt, ℕ_discrete}
use mathlib.Core.Path.{◌≡◌, refl, sym, ap, subst, ◌∙◌}
use mathlib.Core.Logic.{◌≢◌}
use mathlib.Core.Bool.{Bool, true, false, not, true≢false}
use mathlib.Core.List.{List, [], map}
use mathlib.Core.Option.{none, some}
use lib.Dec.{T}
use lib.ListN.{length, get_or, take, set, length-take, length-set}
use lib.Seq.{get_or-set_same, get_or-set_other}
use borrow.Author.Tests.{not-true}
use Rattle.tag.specs.declared.Tag.{Tag as Label}
use Rattle.tag.specs.Tags.{Tag, empty, overlong}
use Rattle.tag.specs.View.{bytes_of, Made}
use Rattle.tag.proofs.Laws.View.{made_whole}
use Rattle.component.specs.declared.model_component.Component.{Component}
use Rattle.component.specs.declared.model_component.Component.TheVariants.{Add}
use Rattle.model.specs.Table.{held, find, each}
use Rattle.model.specs.Model.{Model, valid}
use Rattle.model.specs.View.{place_of}
use Rattle.model.specs.Edit.{remove_component, done, Outcome, check, swap, without, remove, edit, apply}
use Rattle.model.proofs.Laws.Bool.{T→true}
use Rattle.model.proofs.Laws.Valid.{some_some, found-held, good}
use Rattle.held.proofs.Laws.Changes.{Becomes, becomes_refl, becomes_each, find_at, removed}
use Rattle.layout.specs.Words.{word, text}
use Rattle.layout.specs.Writing.{Kept}
use Rattle.layout.proofs.Kept.{kept-none, Agree, word_same}
use Rattle.rows.specs.Written.{Wrote, Writes}
use Rattle.rows.proofs.Laws.Local.{place_local}
use Rattle.model_bytes.specs.ModelBytes.{entry_row}
use Rattle.model_bytes.specs.Calls.{Spares}
use Rattle.model_bytes.proofs.Laws.Local.{entry_local, list_local}
use Rattle.finding.specs.Rows.{component_at, component_row, RowSought}
use Rattle.standing.specs.Standing.{Passing}
use Rattle.standing.proofs.Laws.Rows.{Built, built_get_d}
use Rattle.standing.proofs.Laws.Model.{entry_shows}
use Rattle.direct_rows.specs.Rows.{PutEntry}
use Rattle.direct_rows.specs.Took.{Took}
use Rattle.direct_rows.proofs.Laws.Table.{built_same, built_fewer}
use Rattle.direct_rows.proofs.Laws.Parts.{Whole, whole, whole_of}
use Rattle.direct_rows.proofs.Laws.Found.{components-length, component-found}
use Rattle.direct_rows.proofs.Laws.Took.{applied, took}
use Rattle.direct_swapping.specs.Swapping.{Swapped}
use Rattle.direct_removing.specs.Removing.{LastMoved}
use Rattle.direct_swapping.proofs.Laws.Swapped.{swapped_whole, swapped_spares}

-- ---- the last row moved

module _ {i last : ℕ} {s : List ℕ} where
  pub moved-over : {u : List ℕ} (l : Label) (c : Component) → i < 64 → i ≢ last → some c ≡ component_row s last → Made (take 32 (text s (component_at last))) l → PutEntry i (record { tag = l; component = c }) s u → LastMoved i last s u true
  moved-over {u} l c h n r k p = record {
    moved = λ y size x e. (p.wrote size h).holds ∙ ap some (row x e);
    kept = within (ℕ_discrete (length s) 27200);
    same = λ z. absurd (n z);
    left = λ y. absurd (true≢false y);
  }
    where
      within : Dec (length s ≡ 27200) → Kept s u (component_at i) 88
      within (yes e) = (p.wrote e h).kept
      within (no e) = subst (λ (v : List ℕ). Kept s v (component_at i) 88) (sym (p.narrow e)) (kept-none s (component_at i) 88)

      row : (x : Tag × Component) → entry_row s last ≡ some x → (bytes_of l, c) ≡ x
      row x e =
          let g = entry_shows s last x e in
          let a : bytes_of l ≡ x.0 = (made_whole x.0 l (not-true (overlong x.0) (T→true _ g.tag.short)) (subst (λ (t : Tag). Made (take 32 t) l) g.tag.is k)).labelled.bytes in
          let b : c ≡ x.1 = some_some (r ∙ g.component) in
          λ j. (a j, b j)

-- ---- the edit

pub removes : (m : Model) (t : Tag) {c : Component} → T (valid m) → overlong t ≡ false → find t m.components ≡ some c → apply (remove_component t) m ≡ record { answer = done; model = without m t }
unfolding edit remove check
removes m t {c} v h f =
    let o : Outcome = record { answer = done; model = without m t } in
    applied (remove_component t) m v
    ∙ ap (λ (b : Bool). check m b 1 empty 0 (check m (not (held t m.components)) 12 t 0 o)) h
    ∙ ap (λ (b : Bool). check m (not b) 12 t 0 o) (T→true (held t m.components) (found-held t m.components (c, f)))

-- any row: what stands past a table
beyond : Tag × Component
beyond = ([], Add)

-- the last of n rows moved into the row i, and the count lowered
module _ {s v w : List ℕ} {m : Model} {i k : ℕ} (g : Whole s m) (size : word s 8 ≡ suc k) (h : i ≤ k) (f : LastMoved i k s v true) (low : Writes (λ x. word x 8) k 8 8 v w) where
  lowered : Wrote (λ x. word x 8) k 8 8 v w
  lowered = low.wrote (omega (arith, f.kept.size, g.size))

  head : (j n : ℕ) → (j + n ≤ 8) → Agree s w j n
  head j n l = record { size = lowered.kept.size ∙ f.kept.size; same = λ x a b. lowered.kept.below x (omega arith) ∙ f.kept.below x (omega arith) }

  rest : (j n : ℕ) → 16 ≤ j → j + n ≤ 64 + 88 * i → Agree s w j n
  rest j n l q = record { size = lowered.kept.size ∙ f.kept.size; same = λ x a b. lowered.kept.above x (omega arith) ∙ f.kept.below x (omega arith) }

  after : (j n : ℕ) → 64 + 88 * i + 88 ≤ j → Agree s w j n
  after j n l = record { size = lowered.kept.size ∙ f.kept.size; same = λ x a b. lowered.kept.above x (omega arith) ∙ f.kept.above x (omega arith) }

  row : (j : ℕ) → j < k → entry_row w j ≡ some (get_or (set m.components i (get_or m.components k beyond)) j beyond)
  row j l = go (ℕ_discrete j i)
    where
      last : get_or (set m.components i (get_or m.components k beyond)) i beyond ≡ get_or m.components k beyond
      last = get_or-set_same m.components i (get_or m.components k beyond) beyond (omega (arith, components-length g, size))

      here : entry_row w i ≡ some (get_or m.components k beyond)
      here =
          entry_local (record { size = lowered.kept.size; same = λ x a b. lowered.kept.above x (omega arith) })
          ∙ f.moved refl g.size (get_or m.components k beyond) (built_get_d g.components beyond k (omega (arith, size)))

      kept : j ≢ i → Dec (j < i) → entry_row w j ≡ entry_row s j
      kept n (yes b) = entry_local (rest (64 + 88 * j) 88 (omega arith) (omega arith))
      kept n (no b) = entry_local (after (64 + 88 * j) 88 (omega (arith, n, b)))

      go : Dec (j ≡ i) → entry_row w j ≡ some (get_or (set m.components i (get_or m.components k beyond)) j beyond)
      go (yes e) = ap (entry_row w) e ∙ here ∙ ap some (sym (ap (λ (x : ℕ). get_or (set m.components i (get_or m.components k beyond)) x beyond) e ∙ last))
      go (no n) =
          kept n (dec_lt j i) ∙ built_get_d g.components beyond j (omega (arith, size))
          ∙ ap some (sym (get_or-set_other m.components i j (get_or m.components k beyond) beyond n))

  lowered_whole : Whole w (record { components = take k (set m.components i (get_or m.components k beyond)); lists = m.lists; default = m.default })
  lowered_whole =
      whole_of (lowered.kept.size ∙ f.kept.size ∙ g.size) (word_same (head 0 8 (omega arith)) ∙ g.version) lowered.holds (omega (arith, g.few, size)) (word_same (rest 16 8 (omega arith) (omega arith))) g.few_lists
      (built_fewer beyond (subst (λ (n : ℕ). Built (entry_row s) n m.components) size g.components) i row)
      (built_same g.lists (λ j l. list_local (after (5696 + 168 * j) 168 (omega (arith, g.few, size))))) (place_local (rest 24 40 (omega arith) (omega arith)) ∙ g.default)

  lowered_spares : Spares k (length m.lists) s w
  lowered_spares = record {
    size = lowered.kept.size ∙ f.kept.size;
    components = λ x a b. lowered.kept.above x (omega arith) ∙ past x a (ℕ_discrete i k);
    lists = λ x a. lowered.kept.above x (omega arith) ∙ f.kept.above x (omega (arith, g.few, size));
  }
    where
      past : (x : ℕ) → 64 + 88 * k ≤ x → Dec (i ≡ k) → get_or v x 0 ≡ get_or s x 0
      past x a (yes e) = ap (λ (y : List ℕ). get_or y x 0) (f.same e)
      past x a (no n) = f.kept.above x (omega (arith, n))

module _ {s : List ℕ} (t : Tag) {i n k : ℕ} (b : Passing s) (short : overlong t ≡ false) (q : RowSought s component_at (min (word s 8) 64) t (Some i))
    (c : n ≡ min (word s 8) 64) (e : k ≡ n - 1) where
  g : Whole s b.model
  g = whole b.is

  found : (i < word s 8) × ((get_or b.model.components i beyond).0 ≡ t)
  found = component-found g beyond q

  size : word s 8 ≡ suc k
  size = omega (arith, found.0, c, e, g.few)

  pub remove-done : {v w u : List ℕ} {r : Bool} → r ≡ true → LastMoved i k s v r → Writes (λ x. word x 8) k 8 8 v w → Swapped t (place_of None) w u → Took (remove_component t) done s u
  unfolding place_of
  remove-done {v} {w} {u} {r} y f low a =
      let m = b.model in
      let once = (good m b.sound).once in
      let l : i < length m.components = omega (arith, components-length g, found.0) in
      let x = removes m t b.sound short (ap (λ (y : Tag). find y m.components) (sym found.1) ∙ find_at beyond m.components i once l) in
      let f' : LastMoved i k s v true = subst (LastMoved i k s v) y f in
      let whole-w = lowered_whole g size (omega (arith, found.0, size)) f' low in
      let fewer = take k (set m.components i (get_or m.components k beyond)) in
      let long : length fewer ≡ k = omega (arith, length-take k (set m.components i (get_or m.components k beyond)), length-set m.components i (get_or m.components k beyond), components-length g, size) in
      took (remove_component t) b.is b.sound (ap (λ (o : Outcome). o.answer) x) (swapped_whole whole-w a)
      (subst (λ (o : Outcome). Becomes o.model.components fewer) (sym x) (removed beyond m.components i k t once l found.1 (components-length g ∙ size)))
      (subst (λ (o : Outcome). Becomes o.model.lists (each (map (swap t none)) m.lists)) (sym x) (becomes_each (map (swap t none)) (becomes_refl (good m b.sound).once-lists)))
      (ap (λ (o : Outcome). o.model.default) x)
      (swapped_spares whole-w a (subst (λ (j : ℕ). Spares j (length m.lists) s w) (sym long) (lowered_spares g size (omega (arith, found.0, size)) f' low)))
