-- What has a number compiles. A number's derivation is finite, and takes a component and assigned places at every tag that it passes. Assumes nothing.
use mathlib.Core.Path.{◌≡◌, refl, sym, ◌∙◌, subst}
use mathlib.Core.Logic.{◌⊎◌, inl, inr}
use mathlib.Core.List.{List, Memᴰ}
use mathlib.Core.Option.{none, some}
use lib.Ieee.{Float}
use Rattle.tag.specs.Tags.{Tag}
use Rattle.geometry.specs.declared.vec3f.Vec3.{Vec3}
use Rattle.model.specs.Model.{Place, Model, component, inputs}
use Rattle.model.specs.Form.{Wire, Reach, here, along, Compiles, Number, worked, Numbers, nothing, another}
use Rattle.model.proofs.Laws.Valid.{some_some, none_some}
use Rattle.model.proofs.Laws.Reach.{Over}

-- every way along the wires from a tag ends
data Ends (m : Model) : Tag → Type 0 where
  ends : {a : Tag} → ((b : Tag) → Wire m a b → Ends m b) → Ends m a

module _ {m : Model} {p : Vec3} where
  mutual
    number-ends : {t : Tag} {x : Float} → Number m p t x → Ends m t
    number-ends (worked c xs e ns q) = ends (λ b w. numbers_end ns b w)

    numbers_end : {l : List Place} {xs : List Float} → Numbers m p l xs → (b : Tag) → Memᴰ (some b) l → Ends m b
    numbers_end nothing b i = elim i [ ]
    numbers_end (another n ns) b (Memᴰ.head e) = subst (Ends m) (sym (some_some e)) (number-ends n)
    numbers_end (another n ns) b (Memᴰ.tail i) = numbers_end ns b i

  numbers_at : {l : List Place} {xs : List Float} → Numbers m p l xs → (b : Tag) → Memᴰ (some b) l → (x : Float) × Number m p b x
  numbers_at nothing b i = elim i [ ]
  numbers_at (another {x = x} n ns) b (Memᴰ.head e) = (x, subst (λ (t : Tag). Number m p t x) (sym (some_some e)) n)
  numbers_at (another n ns) b (Memᴰ.tail i) = numbers_at ns b i

  no_gap : {l : List Place} {xs : List Float} → Numbers m p l xs → ¬ Memᴰ none l
  no_gap nothing i = elim i [ ]
  no_gap (another n ns) (Memᴰ.head e) = none_some e
  no_gap (another n ns) (Memᴰ.tail i) = no_gap ns i

  next-number : {a b : Tag} {x : Float} → Number m p a x → Wire m a b → (y : Float) × Number m p b y
  next-number {b = b} (worked c xs e ns q) w = numbers_at ns b w

  reached-number : {t a : Tag} {x : Float} → Number m p t x → Reach m t a → (y : Float) × Number m p a y
  reached-number {x = x} n here = (x, n)
  reached-number n (along r w) = next-number (reached-number n r).1 w

  number-present : {a : Tag} {x : Float} → Number m p a x → ¬ (component m a ≡ none)
  number-present (worked c xs e ns q) h = none_some (sym h ∙ e)

  number-assigned : {a : Tag} {x : Float} → Number m p a x → ¬ Memᴰ none (inputs m a)
  number-assigned (worked c xs e ns q) i = no_gap ns i

-- ---- no cycle

first-wire : {m : Model} {b a : Tag} → Reach m b a → (b ≡ a) ⊎ Over m b a
first-wire here = inl refl
first-wire {m} {b} (along {a = x} {b = y} r w) = go (first-wire r)
  where
    go : (b ≡ x) ⊎ Over m b x → (b ≡ y) ⊎ Over m b y
    go (inl e) = inr (record { next = y; wire = subst (λ (z : Tag). Wire m z y) (sym e) w; on = here })
    go (inr o) = inr (record { next = o.next; wire = o.wire; on = along o.on w })

-- a cycle seen from its next tag
turned : {m : Model} {a : Tag} (o : Over m a a) → Over m o.next o.next
turned {m} {a} o = go (first-wire o.on)
  where
    go : (o.next ≡ a) ⊎ Over m o.next a → Over m o.next o.next
    go (inl e) = record { next = o.next; wire = subst (λ (z : Tag). Wire m z o.next) (sym e) o.wire; on = here }
    go (inr v) = record { next = v.next; wire = v.wire; on = along v.on o.wire }

no_cycle : {m : Model} {a : Tag} → Ends m a → ¬ Over m a a
no_cycle (ends f) o = no_cycle (f o.next o.wire) (turned o)

pub number_compiles : {m : Model} {p : Vec3} {t : Tag} {x : Float} → Number m p t x → Compiles m t
number_compiles n = record {
  acyclic = λ c. no_cycle (number-ends (reached-number n c.reached).1) (record { next = c.next; wire = c.wire; on = c.back });
  present = λ a h. number-present (reached-number n h.0).1 h.1;
  assigned = λ a h. number-assigned (reached-number n h.0).1 h.1;
}
