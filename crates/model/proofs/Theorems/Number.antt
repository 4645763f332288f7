-- Document 01's form's number: a form that compiles has one at every point, and only one. Assumes nothing.
use mathlib.Core.Path.{◌≡◌, refl, ap₂, subst}
use mathlib.Core.Logic.{◌⊎◌, inl, inr}
use mathlib.Core.List.Memᴰ
use mathlib.Core.List.{List, [], ◌∷◌, Memᴰ}
use mathlib.Core.Option.{Option, none, some}
use lib.Ieee.{Float}
use Rattle.tag.specs.Tags.{Tag}
use Rattle.geometry.specs.declared.vec3f.Vec3.{Vec3}
use Rattle.model.specs.Model.{Place, Model, component, inputs}
use Rattle.model.specs.Form.{Wire, here, Cyclic, Compiles, Placed, start, then, Order, value, Number, worked, Numbers, nothing, another}
use Rattle.model.proofs.Theorems.Order.{cycle_or_order}

-- ---- one number at most

mutual
  pub number_unique : {m : Model} {p : Vec3} {t : Tag} {x y : Float} → Number m p t x → Number m p t y → x ≡ y
  number_unique (worked c xs e ns q) (worked d ys f ms r) =
      let k : c ≡ d = cc in
      let s : xs ≡ ys = numbers_unique ns ms in
      cc

  pub numbers_unique : {m : Model} {p : Vec3} {l : List Place} {xs ys : List Float} → Numbers m p l xs → Numbers m p l ys → xs ≡ ys
  numbers_unique nothing nothing = refl
  numbers_unique (another x ns) (another y ms) = ap₂ ◌∷◌ (number_unique x y) (numbers_unique ns ms)

-- ---- one number at least: worked along an order

some_of : {A : Type 0} (o : Option A) → ¬ (o ≡ none) → (a : A) × (o ≡ some a)
some_of none h = absurd (h refl)
some_of (some a) h = (a, refl)

all-worked : {m : Model} {p : Vec3} (l : List Place) → ((b : Tag) → Memᴰ (some b) l → (x : Float) × Number m p b x) → ¬ Memᴰ none l
    → (xs : List Float) × Numbers m p l xs
all-worked [] f h = ([], nothing)
all-worked (none ∷ l) f h = absurd (h (Memᴰ.head refl))
all-worked (some t ∷ l) f h =
    let x = f t (Memᴰ.head refl) in
    let xs = all-worked l (λ b w. f b (Memᴰ.tail w)) (λ w. h (Memᴰ.tail w)) in
    (x.0 ∷ xs.0, another x.1 xs.1)

-- a tag has a number where it has a component and each of its places one
worked_at : {m : Model} (p : Vec3) (a : Tag) → ¬ (component m a ≡ none) → ¬ Memᴰ none (inputs m a)
    → ((b : Tag) → Wire m a b → (x : Float) × Number m p b x) → (x : Float) × Number m p a x
worked_at {m} p a there full f =
    let c = some_of (component m a) there in
    let xs = all-worked (inputs m a) f full in
    (value c.0 p xs.0, worked c.0 xs.0 c.1 xs.1 refl)

-- each tag of an order has a number, if all of them have a component and no gap
along-order : {m : Model} (p : Vec3) {o : List Tag} → Placed m o → ((a : Tag) → Memᴰ a o → ¬ (component m a ≡ none))
    → ((a : Tag) → Memᴰ a o → ¬ Memᴰ none (inputs m a)) → (a : Tag) → Memᴰ a o → (x : Float) × Number m p a x
along-order p start there full a i = elim i [ ]
along-order {m} p (then {o = o} {a = d} q new ahead) there full a i =
    go (λ b k. along-order p q (λ c j. there c (Memᴰ.append_left (d ∷ []) j)) (λ c j. full c (Memᴰ.append_left (d ∷ []) j)) b k) (Memᴰ.append_cases o i)
  where
    go : ((b : Tag) → Memᴰ b o → (x : Float) × Number m p b x) → Memᴰ a o ⊎ Memᴰ a (d ∷ []) → (x : Float) × Number m p a x
    go earlier (inl j) = earlier a j
    go earlier (inr j) =
        worked_at p a (there a i) (full a i) (λ b w. earlier b (ahead b (subst (λ (x : Tag). Wire m x b) (Memᴰ.eq_of_singleton j) w)))

pub number_exists : {m : Model} {t : Tag} → Compiles m t → (p : Vec3) → (x : Float) × Number m p t x
number_exists {m} {t} h p = go (cycle_or_order m t)
  where
    go : Cyclic m t ⊎ ((o : List Tag) × Order m t o) → (x : Float) × Number m p t x
    go (inl c) = absurd (h.acyclic c)
    go (inr (o, k)) =
        along-order p k.placed (λ a i e. h.present a (k.reached a i, e)) (λ a i g. h.assigned a (k.reached a i, g)) t (k.all t here)
