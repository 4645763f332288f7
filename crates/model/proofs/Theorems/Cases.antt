-- Document 01's proved cases P1 to P12, and rows beside them, about the definitions: one table with a single claim. Assumes nothing.
use mathlib.Core.Path.{◌≡◌, refl, sym, ◌∙◌, ap, subst}
use mathlib.Core.Logic.{◌⊎◌, inl, inr, ◌≢◌}
use mathlib.Core.Bool.{true, false}
use mathlib.Core.List.Memᴰ
use mathlib.Core.List.{List, [], ◌∷◌, ◌++◌, Memᴰ}
use mathlib.Core.Option.{Option, none, some}
use Prim.Native.Nat.{ℕ}
use native.Mathlib.Omega.{arith}
use lib.Dec.{T}
use lib.IntN.{pos, negsuc}
use lib.Ieee.{Float, nan, fin, add, sub, mul, div, neg, lt, is_nan, round, sum, size}
use Rattle.tag.specs.Tags.{Tag, is, before, overlong, decimal}
use Rattle.float.specs.RootOf.{root_of}
use Rattle.float.specs.Extrema.{minimum_number, maximum_number}
use Rattle.geometry.specs.Distance.{to_coord, to_coord_squared}
use Rattle.shapes.specs.Distance.{to_sphere, signed_root, to_torus}
use Rattle.geometry.specs.declared.vec3f.Vec3.{Vec3}
use Rattle.component.specs.Value.{compute}
use Rattle.component.specs.Parameter.{name_from_min, name_from_max, too_near, set_value, set_parameter as parameterSet}
use Rattle.component.specs.declared.parameter.Data.TheVariants.{Value}
use Rattle.component.specs.declared.model_component.Component.{Component}
use Rattle.component.specs.declared.model_component.Component.TheVariants.{Constant, Sphere, Torus, Add, Lerp, Remap, BooleanUnion, BooleanDifference, Offset, Thickness}
use Rattle.model.specs.Table.{find, held, distinct, cut, put, each, move}
use Rattle.model.specs.Model.{Place, Model, new, component, list, inputs, valid}
use Rattle.model.specs.Walk.{gap, tags, fresh, walk, total, walk_from}
use Rattle.model.specs.Edit.{Edit, add_operation, add_constant, add_component, add_input, remove_input, remove_component, rename_component, set_parameter, Answer, done, made, refused, check, add_plain, add_op, first_free, free_tag, add_under, add_any, add_wire, remove_wire, swap, remove, rename, set_at, edit, apply}
use Rattle.model.specs.Form.{Wire, Reach, here, along, Cyclic, Refuses, cyclic, absent, gapped, Placed, start, then, Order, Compiled, order, ordered, value, Number, worked, nothing, another}
use Rattle.model.proofs.Laws.Reach.{placed-closed}
use Rattle.model.proofs.Laws.Valid.{some_some, none_some}
use Rattle.model.proofs.Theorems.Order.{order-acyclic}

-- the model after edits
abbrev pub after : List Edit → Model → Model
after [] m = m
after (e ∷ es) m = after es (apply e m).model

-- what is asked, and what document 01 answers; edits start from a new model
pub data Row : Type 0 where
  -- a component's number at a point, from the numbers of its inputs
  number : Component → Vec3 → List Float → Float → Row
  root : Float → Float → Row
  -- a target that compiles after edits: its order, and its number at a point
  compiles : List Edit → Tag → List Tag → Vec3 → Float → Row
  -- a target that compile refuses after edits
  refuses : List Edit → Tag → ℕ → Tag → ℕ → Row
  -- what the last edit answers
  answers : List Edit → Edit → Answer → Row
  -- the list under a tag, and the default, after edits
  lists : List Edit → Tag → Option (List Place) → Row
  defaults : List Edit → Option Tag → Row

abbrev pub Holds : Row → Type 0
Holds (number c p xs x) = value c p xs ≡ x
Holds (root x y) = root_of x ≡ y
Holds (compiles es t o p x) = Compiled (after es new) t ordered o × Number (after es new) p t x
Holds (refuses es t n a i) = Refuses (after es new) t n a i
Holds (answers es e a) = (apply e (after es new)).answer ≡ a
Holds (lists es t l) = list (after es new) t ≡ l
Holds (defaults es d) = (after es new).default ≡ d

-- ---- the numbers and tags of the rows

abbrev n0 : Float
n0 = fin false 0 (pos 0)

abbrev n1 : Float
n1 = fin false 1 (pos 0)

abbrev n2 : Float
n2 = fin false 1 (pos 1)

abbrev n3 : Float
n3 = fin false 3 (pos 0)

abbrev n4 : Float
n4 = fin false 1 (pos 2)

abbrev n5 : Float
n5 = fin false 5 (pos 0)

abbrev n6 : Float
n6 = fin false 3 (pos 1)

abbrev n7 : Float
n7 = fin false 7 (pos 0)

abbrev n10 : Float
n10 = fin false 5 (pos 1)

abbrev half : Float
half = fin false 1 (negsuc 0)

abbrev quarter : Float
quarter = fin false 1 (negsuc 1)

-- 2 to the 60th
abbrev huge : Float
huge = fin false 1 (pos 60)

abbrev minus1 : Float
minus1 = fin true 1 (pos 0)

abbrev minus2 : Float
minus2 = fin true 1 (pos 1)

abbrev minus3 : Float
minus3 = fin true 3 (pos 0)

abbrev at : Float → Float → Float → Vec3
at a b c = record { x = a; y = b; z = c }

abbrev origin : Vec3
origin = at n0 n0 n0

abbrev ball : Component
ball = Sphere (record { centre = origin; radius = n1 })

abbrev ring : Float → Float → Component
ring r t = Torus (record { centre = origin; r = r; t = t })

abbrev a : Tag
a = 97 ∷ []

abbrev b : Tag
b = 98 ∷ []

abbrev d : Tag
d = 100 ∷ []

-- a_1
abbrev a1 : Tag
a1 = 97 ∷ 95 ∷ 49 ∷ []

-- an Add wired to itself when added
abbrev looped : List Edit
looped = add_operation a Add (some (a ∷ a ∷ [])) ∷ []

-- an Add with both places on constant 3
abbrev twice : List Edit
twice = add_constant a n3 ∷ add_operation b Add (some (a ∷ a ∷ [])) ∷ []

-- an Offset of a constant
abbrev offset : List Edit
offset = add_constant a n3 ∷ add_operation b (Offset n1) (some (a ∷ [])) ∷ []

-- an Offset with its place unassigned
abbrev unwired : List Edit
unwired = add_operation a (Offset n1) none ∷ []

-- an Offset of a tag that nothing has
abbrev dangling : List Edit
dangling = add_operation a (Offset n1) (some (b ∷ [])) ∷ []

-- an Offset of an Offset of one with its place unassigned
abbrev chain : List Edit
chain = add_operation a (Offset n1) none ∷ add_operation b (Offset n1) (some (a ∷ [])) ∷ add_operation d (Offset n1) (some (b ∷ [])) ∷ []

pub table : List Row
table =
    -- P1 to P10
    number ball (at n3 n4 n0) [] n4
    ∷ number (ring n5 n1) (at n3 n0 n4) [] minus1
    ∷ number (ring n5 n1) (at n5 n1 n0) [] n0
    ∷ root (fin false 1 (negsuc 1073)) (fin false 1 (negsuc 536))
    ∷ number BooleanDifference origin (n1 ∷ minus2 ∷ []) n2
    ∷ number BooleanDifference origin (minus2 ∷ n1 ∷ []) minus1
    ∷ number (Thickness n2) origin (minus3 ∷ []) n2
    ∷ number (Lerp quarter) origin (n2 ∷ n6 ∷ []) n3
    ∷ number (Remap n0 n10 n0 n1) origin (n5 ∷ []) half
    ∷ number BooleanUnion origin (nan ∷ n7 ∷ []) n7
    -- P11, P12
    ∷ refuses looped a 14 a 0
    ∷ compiles twice b (a ∷ b ∷ []) origin n6
    -- A weighted sum gives 1 here. A torus with Y and Z swapped gives no 4 here.
    ∷ number (Lerp n1) origin (huge ∷ n1 ∷ []) n0
    ∷ number (ring n5 n3) (at n5 n5 n0) [] n4
    -- `add_component` makes a numbered tag; the default becomes the tag asked for
    ∷ answers (add_constant a n1 ∷ []) (add_component a (Constant n2)) (made a1)
    ∷ defaults (add_constant a n1 ∷ add_constant b n1 ∷ add_component a (Constant n2) ∷ []) (some a)
    -- the removed tag's own list stays; every place that names it is cleared
    ∷ lists (offset ++ remove_component b ∷ []) b (some (some a ∷ []))
    ∷ lists (offset ++ remove_component a ∷ []) b (some (none ∷ []))
    ∷ defaults (offset ++ remove_component b ∷ []) none
    -- a rename takes the list with it, and every place and the default that name the old tag
    ∷ lists (offset ++ rename_component b a1 ∷ []) a1 (some (some a ∷ []))
    ∷ lists (offset ++ rename_component b a1 ∷ []) b none
    ∷ lists (offset ++ rename_component a a1 ∷ []) b (some (some a1 ∷ []))
    ∷ defaults (offset ++ rename_component b a1 ∷ []) (some a1)
    -- without a list of its own it acquires the leftover one of the new tag
    ∷ lists (offset ++ remove_component b ∷ rename_component a b ∷ []) b (some (some b ∷ []))
    -- a gap is 13 and no 0; a tag without a component is 12
    ∷ refuses unwired a 13 a 0
    ∷ refuses dangling a 12 b 0
    -- the walk: the target is met before its gap is, also behind other tags; a gap at another tag is 13
    ∷ answers (add_operation a (Offset n1) none ∷ []) (add_input a a 0) (refused 14 a 0)
    ∷ answers chain (add_input a d 0) (refused 14 a 0)
    ∷ answers (add_operation a (Offset n1) none ∷ add_operation b (Offset n1) none ∷ []) (add_input a b 0) (refused 13 b 0)
    ∷ answers (add_constant a n1 ∷ add_operation b (Offset n1) none ∷ []) (add_input b a 0) done
    ∷ answers offset (add_input a b 0) (refused 12 a 0)
    -- a count that is not the operation's is 2; an index equal to the list's length is 3
    ∷ answers [] (add_operation a Add (some (b ∷ []))) (refused 2 a 0)
    ∷ answers offset (remove_input b 0) done
    ∷ answers offset (remove_input b 1) (refused 3 b 1)
    -- Remap keeps its old number where the new one lies nearer than 2 to the -52nd
    ∷ answers (add_operation a (Remap (fin false 1 (negsuc 51)) n1 n0 n1) none ∷ []) (set_parameter a name_from_max (Value n0)) done
    ∷ answers (add_operation a (Remap (fin false 1 (negsuc 52)) n1 n0 n1) none ∷ []) (set_parameter a name_from_max (Value n0)) (refused 5 a 0)
    ∷ []

-- ---- the rows that need more than computing

-- P11: the wire from a to itself
p11 : Refuses (after looped new) a 14 a 0
unfolding apply edit add_op check new valid find held distinct put cut overlong is
p11 = cyclic tt tt (record { tag = a; next = a; reached = here; wire = Memᴰ.head refl; back = here })

two : Model
two = after twice new

p12_number : Number two origin b n6
unfolding two apply edit add_plain add_op check new valid find held distinct put cut overlong is value compute add round sum size
p12_number =
    let k = worked (Constant n3) [] refl nothing refl in
    worked Add (n3 ∷ n3 ∷ []) refl (another k (another k nothing)) refl

b_not_a : b ≢ a
b_not_a e = let q : ◌≡◌ {A = ℕ} 98 97 = cc in absurd (omega arith)

-- a tag in b's list is a
wires : (c : Tag) → Memᴰ (some c) (some a ∷ some a ∷ []) → c ≡ a
wires c (Memᴰ.head e) = some_some e
wires c (Memᴰ.tail (Memᴰ.head e)) = some_some e
wires c (Memᴰ.tail (Memᴰ.tail i)) = elim i [ ]

unassigned : Memᴰ none (some a ∷ some a ∷ []) → ⊥
unassigned (Memᴰ.head e) = none_some e
unassigned (Memᴰ.tail (Memᴰ.head e)) = none_some e
unassigned (Memᴰ.tail (Memᴰ.tail i)) = elim i [ ]

-- a property of a and of b holds of the tags of the order
both : (P : Tag → Type 0) → P a → P b → (c : Tag) → Memᴰ c (a ∷ b ∷ []) → P c
both P x y c (Memᴰ.head e) = subst P (sym e) x
both P x y c (Memᴰ.tail (Memᴰ.head e)) = subst P (sym e) y
both P x y c (Memᴰ.tail (Memᴰ.tail i)) = elim i [ ]

p12_order : Order two b (a ∷ b ∷ [])
unfolding two apply edit add_plain add_op check new valid find held distinct put cut overlong is
p12_order = record {
  placed = placed;
  reached = both (Reach two b) (along here (Memᴰ.head refl)) here;
  all = λ c r. placed-closed placed (Memᴰ.tail (Memᴰ.head refl)) r;
  last = (a ∷ [], refl);
}
  where
    placed : Placed two (a ∷ b ∷ [])
    placed =
        then {o = a ∷ []} {a = b} (then {o = []} {a = a} start (λ i. elim i [ ]) (λ c w. elim w [ ]))
        (λ i. b_not_a (Memᴰ.eq_of_singleton i)) (λ c w. Memᴰ.head (wires c w))

p12_compiled : Compiled two b ordered (a ∷ b ∷ [])
unfolding two apply edit add_plain add_op check new valid find held distinct put cut overlong is
p12_compiled = order tt tt (record {
  acyclic = order-acyclic p12_order;
  present = λ c x. both (λ c. ¬ (component two c ≡ none)) (λ e. none_some (sym e)) (λ e. none_some (sym e)) c (p12_order.all c x.0) x.1;
  assigned = λ c x. both (λ c. ¬ Memᴰ none (inputs two c)) (λ i. elim i [ ]) unassigned c (p12_order.all c x.0) x.1;
}) p12_order

p12 : Holds (compiles twice b (a ∷ b ∷ []) origin n6)
unfolding two
p12 = (p12_compiled, p12_number)

-- an unassigned place: a alone is reached
alone : Model
alone = after unwired new

alone_wire : (c : Tag) → ¬ Wire alone a c
unfolding alone apply edit add_op check new valid find held distinct put cut overlong is
alone_wire c (Memᴰ.head q) = none_some (sym q)
alone_wire c (Memᴰ.tail i) = elim i [ ]

alone_reach : {c : Tag} → Reach alone a c → c ≡ a
alone_reach here = refl
alone_reach (along {b = e} r w) = absurd (alone_wire e (subst (λ (x : Tag). Wire alone x e) (alone_reach r) w))

gap_13 : Refuses alone a 13 a 0
unfolding alone apply edit add_op check new valid find held distinct put cut overlong is before gap
gap_13 = gapped tt tt
    (λ x. alone_wire x.next (subst (λ (y : Tag). Wire alone y x.next) (alone_reach x.reached) x.wire))
    (λ c x. none_some (sym x.1 ∙ ap (component alone) (alone_reach x.0)))
    ((here, Memᴰ.head refl), λ c h g. subst (λ (x : Tag). T (before x a)) (alone_reach g.0) h) refl

-- a tag without a component: a and b are reached
pair : Model
pair = after dangling new

pair_first : (c : Tag) → Wire pair a c → c ≡ b
unfolding pair apply edit add_op check new valid find held distinct put cut overlong is
pair_first c (Memᴰ.head q) = some_some q
pair_first c (Memᴰ.tail i) = elim i [ ]

pair_second : (c : Tag) → ¬ Wire pair b c
unfolding pair apply edit add_op check new valid find held distinct put cut overlong is
pair_second c i = elim i [ ]

pair_wire : {c e : Tag} → (c ≡ a) ⊎ (c ≡ b) → Wire pair c e → e ≡ b
pair_wire {e = e} (inl q) w = pair_first e (subst (λ (x : Tag). Wire pair x e) q w)
pair_wire {e = e} (inr q) w = absurd (pair_second e (subst (λ (x : Tag). Wire pair x e) q w))

pair_reach : {c : Tag} → Reach pair a c → (c ≡ a) ⊎ (c ≡ b)
pair_reach here = inl refl
pair_reach (along r w) = inr (pair_wire (pair_reach r) w)

-- what b reaches is b
pair_end : {c : Tag} → Reach pair b c → c ≡ b
pair_end here = refl
pair_end (along {b = e} r w) = pair_wire (inr (pair_end r)) w

pair_acyclic : ¬ Cyclic pair a
pair_acyclic x =
    let n : x.next ≡ b = pair_wire (pair_reach x.reached) x.wire in
    let t : x.tag ≡ b = pair_end (subst (λ (y : Tag). Reach pair y x.tag) n x.back) in
    pair_second x.next (subst (λ (y : Tag). Wire pair y x.next) t x.wire)

dangling_12 : Refuses pair a 12 b 0
unfolding pair apply edit add_op check new valid find held distinct put cut overlong is before
dangling_12 = absent tt tt pair_acyclic
    ((along here (Memᴰ.head refl), refl), λ c h g. least c h g.1 (pair_reach g.0))
  where
    least : (c : Tag) → T (before c b) → component pair c ≡ none → (c ≡ a) ⊎ (c ≡ b) → ⊥
    least c h e (inl q) = none_some (sym e ∙ ap (component pair) q)
    least c h e (inr q) = subst (λ (x : Tag). T (before x b)) q h

-- ---- the one claim

infixr 5 ◌▸◌
data All : List Row → Type 0 where
  end : All []
  ◌▸◌ : {r : Row} {l : List Row} → Holds r → All l → All (r ∷ l)

all_at : (l : List Row) → All l → (r : Row) → Memᴰ r l → Holds r
all_at [] h r i = elim i [ ]
all_at (q ∷ l) (h ▸ hs) r (Memᴰ.head e) = subst Holds (sym e) h
all_at (q ∷ l) (h ▸ hs) r (Memᴰ.tail i) = all_at l hs r i

rows : All table
unfolding table value compute to_sphere to_coord to_coord_squared to_torus signed_root root_of minimum_number maximum_number add sub mul div neg lt is_nan round sum size two alone pair
    find held distinct cut put each move gap tags fresh walk total walk_from check add_plain add_op first_free free_tag add_under add_any add_wire remove_wire swap remove rename set_at edit apply new valid overlong is decimal
    parameterSet set_value too_near name_from_min name_from_max
rows =
    refl ▸ refl ▸ refl ▸ refl ▸ refl ▸ refl ▸ refl ▸ refl ▸ refl ▸ refl ▸ p11 ▸ p12 ▸ refl ▸ refl
    ▸ refl ▸ refl ▸ refl ▸ refl ▸ refl ▸ refl ▸ refl ▸ refl ▸ refl ▸ refl ▸ gap_13 ▸ dangling_12
    ▸ refl ▸ refl ▸ refl ▸ refl ▸ refl ▸ refl ▸ refl ▸ refl ▸ refl ▸ refl ▸ end

-- every row of the table holds
pub cases : (r : Row) → Memᴰ r table → Holds r
cases r i = all_at table rows r i
