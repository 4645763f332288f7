-- The wires that the lists come to, and what they say of the record. Assumes nothing.
use Prim.Native.Nat.{ℕ, ◌+◌, ◌≤◌, ◌<◌, min}
use native.Mathlib.Omega.{arith}
use native.Mathlib.Decide.{ℕ_discrete}
use mathlib.Core.Path.{◌≡◌, refl, sym, ap, subst, ◌∙◌}
use mathlib.Core.Bool.{Bool, true, false, cond, true≢false}
use mathlib.Core.List.{List, [], map}
use mathlib.Core.Option
use mathlib.Core.Option.{Option, none, some}
use lib.ListN.{take, length, get_or, set, replicate, length-set, length-take, length-replicate, length-map, get_or-map}
use lib.Seq.{get_or-set_same, get_or-set_other}
use borrow.Author.Tests.{leb-true}
use Rattle.tag.specs.Tags.{Tag, is}
use Rattle.tag.specs.View.{bytes_of}
use Rattle.std.specs.Prelude.{Option as Maybe, Some, None}
use Rattle.std.specs.List.{zip, position as position_of}
use Rattle.std.proofs.Common.{nat_eq}
use Rattle.std.proofs.lemmas.List.Quantifiers.{position-Some}
use Rattle.std.proofs.lemmas.Slice.Zip.{get_or-zip, length-zip}
use Rattle.std.specs.Option.{MatchOption}
use Rattle.tag.proofs.Laws.Is.{is_true}
use Rattle.model.specs.declared.implicit_model.ComponentEntry.{ComponentEntry}
use Rattle.model.specs.declared.implicit_model.Model.{Model as Record}
use Rattle.model.specs.Model.{Place, list, inputs}
use Rattle.model.specs.View.{place_of, rows, component_of, list_of, components_of, lists_of, view, passes}
use Rattle.held.specs.Search.{position}
use Rattle.model.proofs.Laws.Bool.{T→true}
use Rattle.model.proofs.Laws.Places.{good_three}
use Rattle.held.proofs.Laws.Rows.{no_entry, no_list, rows-length, rows_at}
use Rattle.held.proofs.Laws.Standing.{Standing, standing, passes-valid}
use Rattle.model.proofs.Laws.Valid.{good}
use Rattle.nodes.specs.declared.Wire.TheVariants.{Past}
use Rattle.nodes.specs.Nodes.{target, wire_to}
use Rattle.nodes.proofs.Laws.Wires.{target_to}
use Rattle.resolving.specs.declared.slots.ListWires.{ListWires}
use Rattle.resolving.specs.Slots.{place_want, node_of, NodeOf, settled, Settled, no_wires, Resolved, owner_of}
use Rattle.resolving.proofs.Laws.Node.{position_at, node_hit, listed-node, list_row}

-- ---- a guess

-- a live row that has the tag is its node
pub guess_right : (m : Record) → Standing m → {xs : List ComponentEntry} → xs ≡ take m.component_count m.components → (c : ℕ) → c < length xs → (d : ComponentEntry) (a : Tag) → is (bytes_of (get_or xs c d).tag) a ≡ true → NodeOf m a (Some c)
unfolding rows
guess_right m s {xs} e c h d a q =
    let long : length (components_of m) ≡ length xs = length-map (take m.component_count m.components) component_of ∙ ap length (sym e) in
    let few : length (components_of m) ≤ 64 = omega (arith, rows-length component_of m.components m.component_count, s.few) in
    let tag : (get_or (components_of m) c (component_of d)).0 ≡ a = ap (λ (z : List ComponentEntry). (get_or (map component_of z) c (component_of d)).0) (sym e) ∙ ap (λ (z : Tag × _). z.0) (get_or-map component_of xs c d) ∙ is_true _ _ q in
    (omega (arith, long, few), node_hit m a c (position_at (component_of d) (components_of m) c a s.once (omega (arith, long)) tag))

-- the guess: a key with the row behind it, where both are those of the tag
abbrev pub guess : ℕ → Tag → ℕ × ComponentEntry → Bool
guess k a p = cond (nat_eq p.0 k) (is (bytes_of p.1.tag) a) false

cond_right : (b c : Bool) → cond b c false ≡ true → c ≡ true
cond_right true c e = e
cond_right false c e = absurd (true≢false (sym e))

-- a guess that holds, or what is found without it
pub guessed : (m : Record) → Standing m → {xs : List ComponentEntry} → xs ≡ take m.component_count m.components → (a : Tag) (k : ℕ) (keys : List ℕ) (o r : Maybe ℕ) {P : Type 0} → o ≡ position_of (guess k a) (zip keys xs)
    → MatchOption o P (λ c. r ≡ Some c) → (P → NodeOf m a r) → NodeOf m a r
guessed m s {xs} e a k keys None r at found else = else found
guessed m s {xs} e a k keys (Some c) r at found else =
    let d : ℕ × ComponentEntry = (0, no_entry) in
    let (h, q, first) = position-Some (guess k a) (zip keys xs) c d (sym at) in
    let left : c < length keys = omega (arith, h, length-zip keys xs) in
    let right : c < length xs = omega (arith, h, length-zip keys xs) in
    let row = ap (guess k a) (sym (get_or-zip keys xs c d left right)) ∙ q in
    subst (NodeOf m a) (sym found) (guess_right m s e c right no_entry a (cond_right (nat_eq (get_or keys c 0) k) _ row))

-- ---- all lists, one after the other

pub record Upto (m : Record) (found : List ListWires) (l : ℕ) : Type 0 where
  pub found-length : length found ≡ 128
  pub each : (k : ℕ) → k < l → Settled m (get_or m.lists k no_list) (get_or found k no_wires)

module _ (m : Record) where
  pub upto_start : (row : ListWires) → Upto m (replicate 128 row) 0
  upto_start row = record { found-length = length-replicate 128 row; each = λ k h. absurd (let z : ⊥ = omega arith in z) }

  pub upto_more : (found : List ListWires) (l : ℕ) (row : ListWires) → Upto m found l → l < 128 → Settled m (get_or m.lists l no_list) row → Upto m (set found l row) (l + 1)
  upto_more found l row g h e = record { found-length = length-set found l row ∙ g.found-length; each = λ k lt. by k lt (ℕ_discrete k l) }
    where
      by : (k : ℕ) → k < l + 1 → Dec (k ≡ l) → Settled m (get_or m.lists k no_list) (get_or (set found l row) k no_wires)
      by k lt (yes q) = subst (λ (z : ℕ). Settled m (get_or m.lists z no_list) (get_or (set found l row) z no_wires)) (sym q) (subst (Settled m (get_or m.lists l no_list)) (sym (get_or-set_same found l row no_wires (omega (arith, g.found-length)))) e)
      by k lt (no n) = subst (Settled m (get_or m.lists k no_list)) (sym (get_or-set_other found l k row no_wires n)) (g.each k (omega arith))

  pub upto_end : (found : List ListWires) (l : ℕ) → Upto m found l → min m.list_count 128 ≤ l → Resolved no_list m found
  upto_end found l g h = record { found-length = g.found-length; each = λ k lt. g.each k (omega arith) }

-- ---- what the arrays say of the record

pub inputs_short : (m : Record) → passes m ≡ true → (a : Tag) → length (inputs (view m) a) ≤ 3
inputs_short m pass a = go (list (view m) a) refl
  where
    go : (o : Option (List Place)) → list (view m) a ≡ o → length (Option.get_or o []) ≤ 3
    go none e = omega arith
    go (some l) e = leb-true (length l) 3 (T→true _ (good_three a l ((good (view m) (passes-valid m pass)).places a l e)))

-- the live rows stand in the table
pub in_table : {A : Type 0} (table : List A) {xs : List A} (n : ℕ) → xs ≡ take n table → length xs ≡ min n 128 → min n (length table) ≡ min n 128
in_table table n e f = sym (length-take n table) ∙ sym (ap length e) ∙ f

module _ (m : Record) (pass : passes m ≡ true) (long : min m.list_count (length m.lists) ≡ min m.list_count 128) (found : List ListWires) (r : Resolved no_list m found) where
  s : Standing m
  s = standing m pass

  abbrev count : ℕ
  count = min m.list_count 128

  abbrev pub tag_of : ℕ → Tag
  tag_of l = bytes_of (get_or m.lists l no_list).tag

  pub owner : (l : ℕ) → l < count → (get_or found l no_wires).own ≡ wire_to (node_of m (tag_of l))
  owner l h = (r.each l h).own

  pub place : (l p : ℕ) → l < count → p < 3 → get_or (get_or found l no_wires).places p Past ≡ settled m (place_want (rows place_of (get_or m.lists l no_list).count (get_or m.lists l no_list).places) p)
  place l p h k = (r.each l h).each p k

  pub live : (l : ℕ) → l < count → l < length (lists_of m)
  live l h = omega (arith, rows-length list_of m.lists m.list_count)

  pub row_tag : (l : ℕ) → l < count → (get_or (lists_of m) l (list_of no_list)).0 ≡ tag_of l
  row_tag l h = ap (λ (z : Tag × _). z.0) (rows_at list_of m.lists m.list_count l no_list (live l h))

  pub listed_at : (l : ℕ) → l < count → position (tag_of l) 0 (lists_of m) ≡ Some l
  listed_at l h = position_at (list_of no_list) (lists_of m) l (tag_of l) s.once-lists (live l h) (row_tag l h)

  -- a list has a node
  pub small : (l : ℕ) → l < count → node_of m (tag_of l) < 192
  small l h = listed-node m s (tag_of l) l (listed_at l h)

  pub owned_by : (l : ℕ) → l < count → owner_of found l ≡ Some (node_of m (tag_of l))
  owned_by l h = ap target (owner l h) ∙ target_to (node_of m (tag_of l)) (small l h)

  pub inputs_at : (a : Tag) (l : ℕ) → position a 0 (lists_of m) ≡ Some l → inputs (view m) a ≡ rows place_of (get_or m.lists l no_list).count (get_or m.lists l no_list).places
  unfolding view
  inputs_at a l e = ap (λ (o : Option (List Place)). Option.get_or o []) (list_row m a l e).entry

  pub places-short : (l : ℕ) → l < count → length (rows place_of (get_or m.lists l no_list).count (get_or m.lists l no_list).places) ≤ 3
  places-short l h = subst (λ (z : List Place). length z ≤ 3) (inputs_at (tag_of l) l (listed_at l h)) (inputs_short m pass (tag_of l))
