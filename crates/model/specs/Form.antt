-- Document 01, "The order and the number at a point": reach, compile, the order, the form's number, and evaluation. Definitions only.
use Rattle.std.specs.Prelude.{◌≡◌, not, ℕ, T, get_or, Float}
use mathlib.Core.List.{List, [], ◌∷◌, ◌++◌, Memᴰ}
use Rattle.std.proofs.Math.Option.{none, some}
use Rattle.std.specs.Float.{nan, binary64}
use Rattle.std.specs.Float.Ieee.{to_bits}
use Rattle.tag.specs.Tags.{Tag, before, overlong, empty}
use Rattle.geometry.specs.declared.vec3f.Vec3.{Vec3}
use Rattle.component.specs.Value.{compute}
use Rattle.component.specs.declared.model_component.Component.{Component}
use Rattle.model.specs.Model.{Place, Model, component, inputs, valid}
use Rattle.model.specs.Walk.{gap}

-- ---- reach

-- a wire: a place of a's list names b
abbrev pub Wire : Model → Tag → Tag → Type 0
Wire m a b = Memᴰ (some b) (inputs m a)

-- Document 01's reach: the target, and every tag assigned in the list of a reached tag.
pub data Reach (m : Model) (t : Tag) : Tag → Type 0 where
  here : Reach m t t
  along : {a b : Tag} → Reach m t a → Wire m a b → Reach m t b

-- ---- compile

-- a reached tag reaches itself by one or more wires
pub record Cyclic (m : Model) (t : Tag) : Type 0 where
  pub tag : Tag
  pub next : Tag
  pub reached : Reach m t tag
  pub wire : Wire m tag next
  pub back : Reach m next tag

-- a reached tag has no component
abbrev pub Absent : Model → Tag → Tag → Type 0
Absent m t a = Reach m t a × (component m a ≡ none)

-- a place of a reached tag's list is unassigned
abbrev pub Gapped : Model → Tag → Tag → Type 0
Gapped m t a = Reach m t a × Memᴰ none (inputs m a)

-- `compile` succeeds exactly if no reached tag reaches itself, each has a component, and every place of their lists is assigned
pub record Compiles (m : Model) (t : Tag) : Type 0 where
  pub acyclic : ¬ Cyclic m t
  pub present : (a : Tag) → ¬ Absent m t a
  pub assigned : (a : Tag) → ¬ Gapped m t a

-- the least tag in byte order with a property
abbrev pub Least : (Tag → Type 0) → Tag → Type 0
Least P a = P a × ((b : Tag) → T (before b a) → ¬ P b)

-- `compile`, `evaluate_at`: 7, 1, 14, 12, 13. 14 carries the target, 12 and 13 the least tag in byte order, and 13 the lowest index.
pub data Refuses (m : Model) (t : Tag) : ℕ → Tag → ℕ → Type 0 where
  invalid : T (not (valid m)) → Refuses m t 7 empty 0
  long : T (valid m) → T (overlong t) → Refuses m t 1 empty 0
  cyclic : T (valid m) → T (not (overlong t)) → Cyclic m t → Refuses m t 14 t 0
  absent : {a : Tag} → T (valid m) → T (not (overlong t)) → ¬ Cyclic m t → Least (Absent m t) a → Refuses m t 12 a 0
  gapped : {a : Tag} {i : ℕ} → T (valid m) → T (not (overlong t)) → ¬ Cyclic m t → ((b : Tag) → ¬ Absent m t b)
      → Least (Gapped m t) a → gap 0 (inputs m a) ≡ some i → Refuses m t 13 a i

-- a list of tags, each once and after its inputs
pub data Placed (m : Model) : List Tag → Type 0 where
  start : Placed m []
  then : {o : List Tag} {a : Tag} → Placed m o → ¬ Memᴰ a o → ((b : Tag) → Wire m a b → Memᴰ b o) → Placed m (o ++ a ∷ [])

-- The order holds each reached tag once, inputs ahead of users, target last. Which such order is left open; its length is the count.
pub record Order (m : Model) (t : Tag) (o : List Tag) : Type 0 where
  pub placed : Placed m o
  pub reached : (a : Tag) → Memᴰ a o → Reach m t a
  pub all : (a : Tag) → Reach m t a → Memᴰ a o
  pub last : (before : List Tag) × (o ≡ before ++ t ∷ [])

-- how compile ended
pub data Compiling : Type 0 where
  ordered : Compiling
  stopped : ℕ → Tag → ℕ → Compiling

-- what compile answers: an order, or a refusal with an empty order
pub data Compiled (m : Model) (t : Tag) : Compiling → List Tag → Type 0 where
  order : {o : List Tag} → T (valid m) → T (not (overlong t)) → Compiles m t → Order m t o → Compiled m t ordered o
  refusal : {n : ℕ} {a : Tag} {i : ℕ} → Refuses m t n a i → Compiled m t (stopped n a i) []

-- ---- the number

-- the value of a component on the numbers of its inputs
unfoldable pub value : Component → Vec3 → List Float → Float
value c p xs = compute c p (get_or xs 0 nan) (get_or xs 1 nan) (get_or xs 2 nan)

-- Document 01's form's number, worked tag by tag: a constant gives its number, a sphere or torus its distance, an operation its value on the numbers of the tags in its places.
mutual
  pub data Number (m : Model) (p : Vec3) : Tag → Float → Type 0 where
    worked : {t : Tag} {x : Float} (c : Component) (xs : List Float) → component m t ≡ some c → Numbers m p (inputs m t) xs
        → value c p xs ≡ x → Number m p t x

  pub data Numbers (m : Model) (p : Vec3) : List Place → List Float → Type 0 where
    nothing : Numbers m p [] []
    another : {t : Tag} {x : Float} {l : List Place} {xs : List Float} → Number m p t x → Numbers m p l xs → Numbers m p (some t ∷ l) (x ∷ xs)

-- what `evaluate_at` answers: the bits of a number, or compile's refusal handed on
pub data Reply : Type 0 where
  bits : ℕ → Reply
  handed : ℕ → Tag → ℕ → Reply

-- `to_bits` writes NaN as 7FF8000000000000.
pub data Evaluated (m : Model) (t : Tag) (p : Vec3) : Reply → Type 0 where
  number : {x : Float} → T (valid m) → T (not (overlong t)) → Compiles m t → Number m p t x → Evaluated m t p (bits (to_bits binary64 x))
  refused_by : {n : ℕ} {a : Tag} {i : ℕ} → Refuses m t n a i → Evaluated m t p (handed n a i)
