-- The numbers along an order, and what evaluate_at answers. Assumes nothing.
use Prim.Native.Nat.{ℕ, zero, suc, ◌+◌, ◌-◌, ◌≤◌, ◌<◌}
use native.Mathlib.Numerals.{add-one}
use native.Mathlib.Omega.{arith}
use native.Mathlib.Decide.{dec_lt}
use mathlib.Core.Path.{◌≡◌, refl, sym, ap, ap₂, subst, ◌∙◌}
use mathlib.Core.Logic.{◌⊎◌, inl, inr, ⊎_elim}
use mathlib.Core.Bool.{Bool, cond, not, true≢false}
use mathlib.Core.List.Memᴰ
use mathlib.Core.List.{List, [], ◌∷◌, ◌++◌, map, Memᴰ}
use mathlib.Core.Option.{none, some}
use lib.Dec.{T}
use lib.Ieee.{Float, nan, binary64, to_bits, of_bits, of_fields, odd}
use lib.ListN.{length, get_or, take, drop, set, length-set, length-take, length-map, length-append, get_or-map}
use lib.Seq.{take-suc, split_at, take-take, get_or-take, length-take-le, get_or-set_same, get_or-set_other}
use borrow.Author.Tests.{lt-ltb}
use Rattle.std.specs.Prelude.{Some, Ok, Err}
use Rattle.tag.specs.Tags.{Tag, overlong}
use Rattle.tag.specs.View.{bytes_of}
use Rattle.geometry.specs.declared.vec3f.Vec3.{Vec3}
use Rattle.component.specs.Value.{compute}
use Rattle.model.specs.declared.implicit_model.Model.{Model as Record}
use Rattle.model.specs.declared.model_error.Refusal.{Refusal}
use Rattle.model.specs.Edit.{Answer, done, made, refused}
use Rattle.model.specs.Model.{Place, Model, component, inputs, valid}
use Rattle.model.specs.Form.{Wire, Compiles, Placed, start, then, Order, ordered, stopped, Compiled, order, refusal, value, Number, worked, Numbers, nothing, another, Reply, bits, handed, Evaluated, number, refused_by}
use Rattle.model.specs.View.{component_of, components_of, view}
use Rattle.held.specs.Search.{position}
use Rattle.held.proofs.Laws.Rows.{no_entry, rows-length}
use Rattle.held.proofs.Laws.Standing.{Standing, standing}
use Rattle.graph.specs.declared.computation_graph.Graph.{Graph}
use Rattle.nodes.specs.declared.Wire.TheVariants.{To, Absent, Past}
use Rattle.nodes.specs.Nodes.{◌∈◌, wire_to}
use Rattle.resolving.specs.Slots.{look, place_want, node_of, settled}
use Rattle.graph.specs.Compile.{tag_at, positions_of, OrdersAs, RefusesAs}
use Rattle.evaluating.specs.Evaluate.{input_of, EvaluatesAs}
use Rattle.nodes.proofs.Laws.Order.{snoc_cut, no_cut}
use Rattle.nodes.proofs.Laws.Wires.{take_at}
use Rattle.resolving.proofs.Laws.Node.{position_at, node_hit, entry_row}
use Rattle.resolving.proofs.Laws.Places.{want_names, want_past}
use Rattle.graph.proofs.Laws.Names.{map_mem, map_mem_inv}
use Rattle.resolving.proofs.Laws.Slots.{inputs_short}

-- the code's NaN
pub nan_is : of_bits binary64 9221120237041090560 ≡ nan
unfolding of_bits of_fields odd
nan_is = refl

-- ---- an order cut in front of one of its tags

placed-cut : {m : Model} {o : List Tag} → Placed m o → (ahead : List Tag) (a : Tag) (rest : List Tag) → o ≡ ahead ++ (a ∷ rest) → (¬ (a ∈ ahead)) × ((b : Tag) → Wire m a b → b ∈ ahead)
placed-cut start ahead a rest e = absurd (no_cut ahead a rest e)
placed-cut {m} (then {o = o} {a = z} p n k) ahead a rest e = go (λ r q. placed-cut p ahead a r q) (snoc_cut o z ahead a rest e)
  where
    go : ((r : List Tag) → o ≡ ahead ++ (a ∷ r) → (¬ (a ∈ ahead)) × ((b : Tag) → Wire m a b → b ∈ ahead)) → ((ahead ≡ o) × (a ≡ z)) ⊎ ((r : List Tag) × (o ≡ ahead ++ (a ∷ r)))
        → (¬ (a ∈ ahead)) × ((b : Tag) → Wire m a b → b ∈ ahead)
    go ih (inl (q, f)) = (
      (λ i. n (subst (λ (l : List Tag). z ∈ l) q (subst (λ (x : Tag). x ∈ ahead) f i))),
      (λ b w. subst (λ (l : List Tag). b ∈ l) (sym q) (k b (subst (λ (x : Tag). Wire m x b) f w))),
    )
    go ih (inr (r, q)) = ih r q

map-cut : {A B : Type 0} (f : A → B) (xs : List A) (y : A) (ys : List A) → map f (xs ++ (y ∷ ys)) ≡ map f xs ++ (f y ∷ map f ys)
map-cut f [] y ys = refl
map-cut f (x ∷ xs) y ys = ap (λ (l : List _). f x ∷ l) (map-cut f xs y ys)

last_of : {A : Type 0} (d t : A) (ahead : List A) → get_or (ahead ++ (t ∷ [])) (length ahead) d ≡ t
last_of d t [] = refl
last_of d t (x ∷ l) = last_of d t l

take-cut : (xs : List ℕ) (n k : ℕ) → k < n → n ≤ length xs → take n xs ≡ take k xs ++ (get_or xs k 0 ∷ drop (suc k) (take n xs))
take-cut xs n k h f =
    let e : length (take n xs) ≡ n = length-take-le n xs f in
    let p : take k (take n xs) ≡ take k xs = take-take k n xs (omega arith) in
    let q : get_or (take n xs) k 0 ≡ get_or xs k 0 = get_or-take n xs k 0 h in
    let s : take n xs ≡ take k (take n xs) ++ (get_or (take n xs) k 0 ∷ drop (suc k) (take n xs)) = split_at (take n xs) k 0 (omega arith) in
    cc

-- ---- the numbers of a list's places, where f gives the one of each

numbers_of : {m : Model} {p : Vec3} (l : List Place) (f : ℕ → Float) → ¬ Memᴰ none l → ((q : ℕ) (b : Tag) → q < length l → place_want l q ≡ look b → Number m p b (f q))
    → (xs : List Float) × Numbers m p l xs × ((q : ℕ) → q < length l → get_or xs q nan ≡ f q) × ((q : ℕ) → length l ≤ q → get_or xs q nan ≡ nan)
unfolding place_want
numbers_of [] f full each = ([], nothing, (λ q h. absurd (let z : ⊥ = omega arith in z)), (λ q h. refl))
numbers_of (none ∷ l) f full each = absurd (full (Memᴰ.head refl))
numbers_of {m} {p} (some b ∷ l) f full each =
    let (xs, ns, same, past) = numbers_of l (λ q. f (suc q)) (λ h. full (Memᴰ.tail h)) (λ q a h e. each (suc q) a (omega arith) e) in
    (f 0 ∷ xs, another (each 0 b (omega arith) refl) ns, at xs same, beyond xs past)
  where
    at : (xs : List Float) → ((q : ℕ) → q < length l → get_or xs q nan ≡ f (suc q)) → (q : ℕ) → q < suc (length l) → get_or (f 0 ∷ xs) q nan ≡ f q
    at xs same zero h = refl
    at xs same (suc q) h = same q (omega arith)

    beyond : (xs : List Float) → ((q : ℕ) → length l ≤ q → get_or xs q nan ≡ nan) → (q : ℕ) → suc (length l) ≤ q → get_or (f 0 ∷ xs) q nan ≡ nan
    beyond xs past zero h = absurd (let z : ⊥ = omega arith in z)
    beyond xs past (suc q) h = past q (omega arith)

-- ---- what an order of n gives

pub record Formed (m : Model) (t : Tag) (o : List Tag) : Type 0 where
  pub sound : T (valid m)
  pub short : T (not (overlong t))
  pub compiles : Compiles m t
  pub order : Order m t o

formed : {m : Model} {t : Tag} {o : List Tag} → Compiled m t ordered o → Formed m t o
formed (order v s c o) = record { sound = v; short = s; compiles = c; order = o }

-- the first k components of the order have their numbers, and `number` is that of the last of them
pub record Worked (m : Record) (order : List ℕ) (p : Vec3) (vals : List Float) (number : Float) (k : ℕ) : Type 0 where
  pub vals_length : length vals ≡ 64
  pub last : (i : ℕ) → i + 1 ≡ k → number ≡ get_or vals (get_or order i 0) nan
  pub right : (i : ℕ) → i ∈ take k order → Number (view m) p (tag_at m i) (get_or vals i nan)

module _ (m : Record) (g : Graph) (t : Tag) (says : OrdersAs m t g) where
  abbrev n : ℕ
  n = g.count

  fit : Standing m
  fit = standing m says.passing

  pub shaped : Formed (view m) t (map (tag_at m) (take n g.order))
  shaped = formed says.compiled

  pub room : n ≤ length g.order
  room = omega (arith, says.counted, length-take n g.order)

  pub held : (x : ℕ) → x ∈ take n g.order → x < length (components_of m)
  held = says.held

  small : (k : ℕ) → k < n → get_or g.order k 0 < 64
  small k h = omega (arith, held _ (take_at g.order n k h room), rows-length component_of m.components m.component_count, fit.few)

  -- the position at hand
  pub at_hand : {xs : List ℕ} → xs ≡ positions_of g → (k : ℕ) → k < length xs → (k < n) × (get_or xs k 0 ≡ get_or g.order k 0)
  at_hand e k h = let lt : k < n = omega (arith, ap length e, says.counted) in (lt, ap (λ (l : List ℕ). get_or l k 0) e ∙ get_or-take n g.order k 0 lt)

  pub small_at : {xs : List ℕ} → xs ≡ positions_of g → (k : ℕ) → k < length xs → get_or xs k 0 < 64
  small_at e k h = let (lt, same) = at_hand e k h in subst (λ (z : ℕ). z < 64) (sym same) (small k lt)

  seated : (x : ℕ) → x ∈ take n g.order → position (tag_at m x) 0 (components_of m) ≡ Some x
  unfolding bytes_of
  seated x h = position_at (component_of no_entry) (components_of m) x (tag_at m x) fit.once (held x h) (sym (get_or-map (λ e. e.0) (components_of m) x (component_of no_entry)))

  holds : (x : ℕ) → x ∈ take n g.order → component (view m) (tag_at m x) ≡ some (get_or m.components x no_entry).component
  unfolding view
  holds x h = (entry_row m (tag_at m x) x (seated x h)).entry

  module _ (p : Vec3) (vals : List Float) (number : Float) (k : ℕ) (w : Worked m g.order p vals number k) (h : k < n) where
    abbrev x : ℕ
    x = get_or g.order k 0

    x_in : x ∈ take n g.order
    x_in = take_at g.order n k h room

    earlier : (y : ℕ) → y ∈ take k g.order → y ∈ take n g.order
    earlier y i = subst (λ (l : List ℕ). y ∈ l) (sym (take-cut g.order n k h room)) (Memᴰ.append_left _ i)

    cut : (¬ (tag_at m x ∈ map (tag_at m) (take k g.order))) × ((b : Tag) → Wire (view m) (tag_at m x) b → b ∈ map (tag_at m) (take k g.order))
    cut = placed-cut shaped.order.placed (map (tag_at m) (take k g.order)) (tag_at m x) (map (tag_at m) (drop (suc k) (take n g.order)))
        (ap (map (tag_at m)) (take-cut g.order n k h room) ∙ map-cut (tag_at m) (take k g.order) x (drop (suc k) (take n g.order)))

    abbrev places : List Place
    places = inputs (view m) (tag_at m x)

    abbrev read : ℕ → Float
    read q = input_of vals (get_or (get_or g.inputs x []) q Past)

    entry : (q : ℕ) → q < 3 → get_or (get_or g.inputs x []) q Past ≡ settled m (place_want places q)
    entry q hq = says.wired x q x_in hq

    -- a place's number is what was worked out for its tag
    read_number : (q : ℕ) (b : Tag) → q < 3 → place_want places q ≡ look b → Number (view m) p b (read q)
    read_number q b hq e =
        let (y, i, f) = map_mem_inv (tag_at m) (take k g.order) (cut.1 b (want_names places q e)) in
        let lt : y < 64 = omega (arith, held y (earlier y i), rows-length component_of m.components m.component_count, fit.few) in
        let s : y ≡ node_of m b = node_hit m b y (subst (λ (a : Tag). position a 0 (components_of m) ≡ Some y) f (seated y (earlier y i))) in
        let r : get_or (get_or g.inputs x []) q Past ≡ To y = entry q hq ∙ ap (settled m) e ∙ ap wire_to (sym s) ∙ ap (λ (c : Bool). cond c (To y) Absent) (lt-ltb y 192 (omega (arith, lt))) in
        let v : read q ≡ get_or vals y nan = ap (input_of vals) r ∙ ap (λ (c : Bool). cond c (get_or vals y nan) nan) (lt-ltb y 64 lt) in
        subst (λ (z : Float). Number (view m) p b z) (sym v) (subst (λ (a : Tag). Number (view m) p a (get_or vals y nan)) f (w.right y i))

    three : (f : Float → Float → Float → Float) {a b c a' b' c' : Float} → a ≡ a' → b ≡ b' → c ≡ c' → f a b c ≡ f a' b' c'
    three f p q r = cc

    pub next-number : (v : Float) → v ≡ compute (get_or m.components x no_entry).component p (read 0) (read 1) (read 2) → Number (view m) p (tag_at m x) v
    unfolding value
    next-number v e =
        let (xs, ns, same, past) = numbers_of places read (λ i. shaped.compiles.assigned (tag_at m x) (shaped.order.reached (tag_at m x) there, i)) (λ q b hq f. read_number q b (omega (arith, inputs_short m says.passing (tag_at m x))) f) in
        worked (get_or m.components x no_entry).component xs (holds x x_in) ns
        (sym (e ∙ three (compute (get_or m.components x no_entry).component p) (sym (all xs same past 0 (omega arith))) (sym (all xs same past 1 (omega arith))) (sym (all xs same past 2 (omega arith)))))
      where
        there : tag_at m x ∈ map (tag_at m) (take n g.order)
        there = subst (λ (l : List ℕ). tag_at m x ∈ map (tag_at m) l) (sym (take-cut g.order n k h room))
            (subst (λ (l : List Tag). tag_at m x ∈ l) (sym (map-cut (tag_at m) (take k g.order) x (drop (suc k) (take n g.order)))) (Memᴰ.append_right (map (tag_at m) (take k g.order)) (Memᴰ.head refl)))

        all : (xs : List Float) → ((q : ℕ) → q < length places → get_or xs q nan ≡ read q) → ((q : ℕ) → length places ≤ q → get_or xs q nan ≡ nan) → (q : ℕ) → q < 3 → get_or xs q nan ≡ read q
        all xs same past q hq = by (dec_lt q (length places))
          where
            by : Dec (q < length places) → get_or xs q nan ≡ read q
            by (yes lt) = same q lt
            by (no nlt) =
                let r : get_or (get_or g.inputs x []) q Past ≡ Past = entry q hq ∙ ap (settled m) (want_past places q (omega arith)) in
                past q (omega arith) ∙ sym (ap (input_of vals) r)

    worked-more : (a b c v : Float) → a ≡ read 0 → b ≡ read 1 → c ≡ read 2 → v ≡ compute (get_or m.components x no_entry).component p a b c → Worked m g.order p (set vals x v) v (k + 1)
    worked-more a b c v ea eb ec e = record {
      vals_length = length-set vals x v ∙ w.vals_length;
      last = λ i q. let same : i ≡ k = omega arith in sym (ap (λ (z : ℕ). get_or (set vals x v) (get_or g.order z 0) nan) same ∙ get_or-set_same vals x v nan (omega (arith, w.vals_length, small k h)));
      right = λ i j. ⊎_elim (old i) (new i) (Memᴰ.append_cases (take k g.order) (subst (λ (l : List ℕ). i ∈ l) (rw add-one (take-suc g.order k 0 (omega (arith, room)))) j));
    }
      where
        old : (i : ℕ) → i ∈ take k g.order → Number (view m) p (tag_at m i) (get_or (set vals x v) i nan)
        old i j = subst (Number (view m) p (tag_at m i)) (sym (get_or-set_other vals x i v nan (λ q. cut.0 (subst (λ (z : ℕ). tag_at m z ∈ map (tag_at m) (take k g.order)) q (map_mem (tag_at m) j))))) (w.right i j)

        new : (i : ℕ) → i ∈ (x ∷ []) → Number (view m) p (tag_at m i) (get_or (set vals x v) i nan)
        new i j =
            let q : i ≡ x = Memᴰ.eq_of_singleton j in
            subst (λ (z : ℕ). Number (view m) p (tag_at m z) (get_or (set vals x v) z nan)) (sym q) (subst (Number (view m) p (tag_at m x)) (sym (get_or-set_same vals x v nan (omega (arith, w.vals_length, small k h)))) (next-number v (e ∙ three (compute (get_or m.components x no_entry).component p) ea eb ec)))

  -- the same at a position of the order's slice
  pub worked-next : {xs : List ℕ} → xs ≡ positions_of g → (p : Vec3) (vals : List Float) (number : Float) (k : ℕ) → Worked m g.order p vals number k → k < length xs → (a b c v : Float)
      → a ≡ input_of vals (get_or (get_or g.inputs (get_or xs k 0) []) 0 Past) → b ≡ input_of vals (get_or (get_or g.inputs (get_or xs k 0) []) 1 Past) → c ≡ input_of vals (get_or (get_or g.inputs (get_or xs k 0) []) 2 Past)
      → v ≡ compute (get_or m.components (get_or xs k 0) no_entry).component p a b c → Worked m g.order p (set vals (get_or xs k 0) v) v (k + 1)
  worked-next e p vals last k w h a b c v =
      let (lt, same) = at_hand e k h in
      subst
      (λ (y : ℕ). a ≡ input_of vals (get_or (get_or g.inputs y []) 0 Past) → b ≡ input_of vals (get_or (get_or g.inputs y []) 1 Past) → c ≡ input_of vals (get_or (get_or g.inputs y []) 2 Past)
      → v ≡ compute (get_or m.components y no_entry).component p a b c → Worked m g.order p (set vals y v) v (k + 1))
      (sym same) (worked-more p vals last k w lt a b c v)

  tags-length : length (map (tag_at m) (take n g.order)) ≡ n
  tags-length = length-map (take n g.order) (tag_at m) ∙ length-take-le n g.order room

  ahead-length : length shaped.order.last.0 + 1 ≡ n
  ahead-length = sym (length-append shaped.order.last.0 (t ∷ [])) ∙ ap length (sym shaped.order.last.1) ∙ tags-length

  some_of_them : 1 ≤ n
  some_of_them = omega (arith, ahead-length)

  last_tag : tag_at m (get_or g.order (n - 1) 0) ≡ t
  last_tag =
      let z : n - 1 ≡ length shaped.order.last.0 = omega (arith, ahead-length) in
      ap (tag_at m) (sym (get_or-take n g.order (n - 1) 0 (omega (arith, some_of_them))))
      ∙ sym (get_or-map (tag_at m) (take n g.order) (n - 1) 0)
      ∙ ap₂ (λ (l : List Tag) (i : ℕ). get_or l i (tag_at m 0)) shaped.order.last.1 z
      ∙ last_of (tag_at m 0) t shaped.order.last.0

  pub worked_end : (p : Vec3) (vals : List Float) (number : Float) (k : ℕ) → Worked m g.order p vals number k → k ≡ n → Number (view m) p t number
  worked_end p vals v k w e =
      let last : v ≡ get_or vals (get_or g.order (n - 1) 0) nan = w.last (n - 1) (omega (arith, some_of_them)) in
      subst (Number (view m) p t) (sym last) (subst (λ (a : Tag). Number (view m) p a (get_or vals (get_or g.order (n - 1) 0) nan)) last_tag
      (w.right (get_or g.order (n - 1) 0) (subst (λ (z : ℕ). get_or g.order (n - 1) 0 ∈ take z g.order) (sym e) (take_at g.order n (n - 1) (omega (arith, some_of_them)) room))))

  -- ---- the reply

  pub replies : (p : Vec3) (x : Float) → Number (view m) p t x → (b : ℕ) → b ≡ to_bits binary64 x → EvaluatesAs m t p (Ok b)
  replies p x h b q = record {
    fitting = λ s. subst (λ (z : ℕ). Evaluated (view m) t p (bits z)) (sym q) (number shaped.sound shaped.short shaped.compiles h);
    unfit = λ s. absurd (true≢false (sym says.passing ∙ s));
  }

-- compile's refusal handed on
handed_from : {m : Model} {t : Tag} {p : Vec3} {n : ℕ} {a : Tag} {i : ℕ} {o : List Tag} → Compiled m t (stopped n a i) o → Evaluated m t p (handed n a i)
handed_from (refusal r) = refused_by r

pub hands_on : (m : Record) (t : Tag) (p : Vec3) {r : Refusal} → RefusesAs m t r → EvaluatesAs m t p (Err r)
hands_on m t p says = record { fitting = λ s. handed_from (says.fitting s); unfit = λ s. ap reply (says.unfit s) }
  where
    reply : Answer → Reply
    reply (refused n a i) = handed n a i
    reply done = bits 0
    reply (made a) = bits 0
