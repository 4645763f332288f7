-- A form carried into another model, tag by tag: it compiles there if it does here, and has the same number. Assumes nothing.
use mathlib.Core.Path.{◌≡◌, refl, sym, ◌∙◌, ap, subst}
use mathlib.Core.List.{List, [], ◌∷◌, map, Memᴰ}
use mathlib.Core.Option.{Option, none, some, get_or}
use lib.Ieee.{Float}
use Rattle.tag.specs.Tags.{Tag}
use Rattle.geometry.specs.declared.vec3f.Vec3.{Vec3}
use Rattle.model.specs.Model.{Place, Model, component, inputs}
use Rattle.model.specs.Form.{Wire, Reach, here, along, Cyclic, Absent, Gapped, Compiles, Number, worked, Numbers, nothing, another}
use Rattle.model.specs.Steady.{Agrees}
use Rattle.model.proofs.Laws.Valid.{none_some}
use Rattle.model.proofs.Laws.Reach.{reach_on}

-- a place with its tag changed
abbrev pub retag : (Tag → Tag) → Place → Place
retag f none = none
retag f (some t) = some (f t)

-- The form of t in m stands in n, with each reached tag a under f a.
pub record Carries (f : Tag → Tag) (m : Model) (t : Tag) (n : Model) : Type 0 where
  pub one_to_one : (a b : Tag) → Reach m t a → Reach m t b → f a ≡ f b → a ≡ b
  pub components : (a : Tag) → Reach m t a → component n (f a) ≡ component m a
  pub places : (a : Tag) → Reach m t a → inputs n (f a) ≡ map (retag f) (inputs m a)

-- a tag in a list of changed places comes from one in the list
mem_back : (f : Tag → Tag) (l : List Place) {b' : Tag} → Memᴰ (some b') (map (retag f) l) → (b : Tag) × Memᴰ (some b) l × (b' ≡ f b)
mem_back f [] h = elim h [ ]
mem_back f (none ∷ l) (Memᴰ.head e) = none_some (sym e)
mem_back f (none ∷ l) (Memᴰ.tail h) = let r = mem_back f l h in (r.0, Memᴰ.tail r.1, r.2)
mem_back f (some t ∷ l) (Memᴰ.head e) = (t, Memᴰ.head refl, cc)
mem_back f (some t ∷ l) (Memᴰ.tail h) = let r = mem_back f l h in (r.0, Memᴰ.tail r.1, r.2)

none-back : (f : Tag → Tag) (l : List Place) → Memᴰ none (map (retag f) l) → Memᴰ none l
none-back f [] h = elim h [ ]
none-back f (none ∷ l) h = Memᴰ.head refl
none-back f (some t ∷ l) (Memᴰ.head e) = none_some e
none-back f (some t ∷ l) (Memᴰ.tail h) = Memᴰ.tail (none-back f l h)

module _ {f : Tag → Tag} {m n : Model} {t : Tag} (c : Carries f m t n) where
  wire-back : {a b' : Tag} → Reach m t a → Wire n (f a) b' → (b : Tag) × Wire m a b × (b' ≡ f b)
  wire-back {a} {b'} r w = mem_back f (inputs m a) (subst (Memᴰ (some b')) (c.places a r) w)

  -- what is reached there is a reached tag's new name
  pub reach-back : {a b' : Tag} → Reach m t a → Reach n (f a) b' → (b : Tag) × Reach m a b × (b' ≡ f b)
  reach-back {a} r here = (a, here, refl)
  reach-back {a} {b'} r (along {a = d} s w) =
      let h = reach-back r s in
      let v = wire-back (reach_on r h.1) (subst (λ (x : Tag). Wire n x b') h.2 w) in
      (v.0, along h.1 v.1, v.2)

  acyclic_on : ¬ Cyclic m t → ¬ Cyclic n (f t)
  acyclic_on h y =
      let a = reach-back here y.reached in
      let b = wire-back a.1 (subst (λ (x : Tag). Wire n x y.next) a.2 y.wire) in
      let r = along a.1 b.1 in
      let d = reach-back r (subst (λ (x : Tag). Reach n x y.tag) b.2 y.back) in
      let q : a.0 ≡ d.0 = c.one_to_one a.0 d.0 a.1 (reach_on r d.1) (sym a.2 ∙ d.2) in
      h (record { tag = a.0; next = b.0; reached = a.1; wire = b.1; back = subst (Reach m b.0) (sym q) d.1 })

  present_on : ((a : Tag) → ¬ Absent m t a) → (a : Tag) → ¬ Absent n (f t) a
  present_on h a' y =
      let a = reach-back here y.0 in
      h a.0 (a.1, sym (c.components a.0 a.1) ∙ (ap (component n) (sym a.2) ∙ y.1))

  assigned_on : ((a : Tag) → ¬ Gapped m t a) → (a : Tag) → ¬ Gapped n (f t) a
  assigned_on h a' y =
      let a = reach-back here y.0 in
      h a.0 (a.1, none-back f (inputs m a.0) (subst (Memᴰ none) (ap (inputs n) a.2 ∙ c.places a.0 a.1) y.1))

  -- a form that compiles still does where it is carried
  pub compiles_carried : Compiles m t → Compiles n (f t)
  compiles_carried h = record { acyclic = acyclic_on h.acyclic; present = present_on h.present; assigned = assigned_on h.assigned }

  -- and has the same number
  mutual
    pub number-carried : {p : Vec3} {a : Tag} {x : Float} → Number m p a x → Reach m t a → Number n p (f a) x
    number-carried {p} {a} (worked k xs e ns q) r =
        worked k xs (c.components a r ∙ e)
        (subst (λ (l : List Place). Numbers n p l xs) (sym (c.places a r)) (numbers_carried ns (λ b w. along r w))) q

    numbers_carried : {p : Vec3} {l : List Place} {xs : List Float} → Numbers m p l xs → ((b : Tag) → Memᴰ (some b) l → Reach m t b)
        → Numbers n p (map (retag f) l) xs
    numbers_carried nothing h = nothing
    numbers_carried (another {t = b} x ns) h =
        another (number-carried x (h b (Memᴰ.head refl))) (numbers_carried ns (λ d w. h d (Memᴰ.tail w)))

-- ---- agreement

map_same : (l : List Place) → l ≡ map (retag (λ a. a)) l
map_same [] = refl
map_same (none ∷ l) = ap (none ∷◌) (map_same l)
map_same (some t ∷ l) = ap (some t ∷◌) (map_same l)

-- the places that an optional list has
pub inputs_agree : {m n : Model} {t a : Tag} → Agrees m t n → Reach m t a → inputs n a ≡ inputs m a
inputs_agree {a = a} h r = ap (λ (o : Option (List Place)). get_or o []) (h.lists a r)

-- a form whose reach is unchanged is carried under its own tags
pub agree_carries : {m n : Model} {t : Tag} → Agrees m t n → Carries (λ a. a) m t n
agree_carries {m} h = record {
  one_to_one = λ a b r s e. e;
  components = λ a r. h.components a r;
  places = λ a r. inputs_agree h r ∙ map_same (inputs m a);
}
