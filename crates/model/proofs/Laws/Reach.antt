-- Reach, wire after wire, and lists of tags placed with inputs ahead of users. Assumes nothing.
use mathlib.Core.Path.{sym, ap, subst}
use mathlib.Core.Logic.{◌⊎◌, inl, inr}
use mathlib.Core.List.Memᴰ
use mathlib.Core.List.{List, [], ◌∷◌, ◌++◌, Memᴰ}
use mathlib.Core.Option.{none, some}
use Rattle.tag.specs.Tags.{Tag}
use Rattle.model.specs.Model.{Place, Model}
use Rattle.model.specs.Walk.{tags}
use Rattle.model.specs.Form.{Wire, Reach, here, along, Placed, start, then}
use Rattle.model.proofs.Laws.Valid.{some_some, none_some}
use Rattle.model.proofs.Laws.Once.{Once, no_tag, once_last}

pub reach_on : {m : Model} {a b c : Tag} → Reach m a b → Reach m b c → Reach m a c
reach_on r here = r
reach_on r (along s w) = along (reach_on r s) w

-- the tags of a list are those that its places name
pub wire-named : {b : Tag} (l : List Place) → Memᴰ (some b) l → Memᴰ b (tags l)
unfolding tags
wire-named [] i = elim i [ ]
wire-named (none ∷ l) (Memᴰ.head e) = none_some (sym e)
wire-named (none ∷ l) (Memᴰ.tail i) = wire-named l i
wire-named (some t ∷ l) (Memᴰ.head e) = Memᴰ.head (some_some e)
wire-named (some t ∷ l) (Memᴰ.tail i) = Memᴰ.tail (wire-named l i)

pub named-wire : {b : Tag} (l : List Place) → Memᴰ b (tags l) → Memᴰ (some b) l
unfolding tags
named-wire [] i = elim i [ ]
named-wire (none ∷ l) i = Memᴰ.tail (named-wire l i)
named-wire (some t ∷ l) (Memᴰ.head e) = Memᴰ.head (ap some e)
named-wire (some t ∷ l) (Memᴰ.tail i) = Memᴰ.tail (named-wire l i)

-- d reaches a by one or more wires
pub record Over (m : Model) (d a : Tag) : Type 0 where
  pub next : Tag
  pub wire : Wire m d next
  pub on : Reach m next a

-- what is over a is over the tags that a's list names, and so is a
pub over-next : {m : Model} {a b : Tag} {above : List Tag} → Wire m a b → ((d : Tag) → Memᴰ d above → Over m d a)
    → (d : Tag) → Memᴰ d (a ∷ above) → Over m d b
over-next {m} {b = b} w o d (Memᴰ.head e) = record { next = b; wire = subst (λ (x : Tag). Wire m x b) (sym e) w; on = here }
over-next w o d (Memᴰ.tail i) = let v = o d i in record { next = v.next; wire = v.wire; on = along v.on w }

-- ---- tags each once and after its inputs

module _ {m : Model} where
  pub placed-once : {o : List Tag} → Placed m o → Once o
  placed-once start = no_tag
  placed-once (then p n k) = once_last (placed-once p) n

  placed-wire : {o : List Tag} {a b : Tag} → Placed m o → Memᴰ a o → Wire m a b → Memᴰ b o
  placed-wire start h w = elim h [ ]
  placed-wire {a = a} {b = b} (then {o = o} {a = d} p n k) h w = go (λ i v. placed-wire p i v) (Memᴰ.append_cases o h)
    where
      go : (Memᴰ a o → Wire m a b → Memᴰ b o) → Memᴰ a o ⊎ Memᴰ a (d ∷ []) → Memᴰ b (o ++ d ∷ [])
      go ih (inl i) = Memᴰ.append_left (d ∷ []) (ih i w)
      go ih (inr i) = Memᴰ.append_left (d ∷ []) (k b (subst (λ (x : Tag). Wire m x b) (Memᴰ.eq_of_singleton i) w))

  -- what is placed has its reach placed
  pub placed-closed : {o : List Tag} {a b : Tag} → Placed m o → Memᴰ a o → Reach m a b → Memᴰ b o
  placed-closed p h here = h
  placed-closed p h (along r w) = placed-wire p (placed-closed p h r) w

  -- no placed tag reaches itself by one or more wires
  pub placed-acyclic : {o : List Tag} {a b : Tag} → Placed m o → Memᴰ a o → Wire m a b → Reach m b a → ⊥
  placed-acyclic start h w r = elim h [ ]
  placed-acyclic {a = a} {b = b} (then {o = o} {a = d} p n k) h w r = go (λ i v q. placed-acyclic p i v q) (Memᴰ.append_cases o h)
    where
      go : (Memᴰ a o → Wire m a b → Reach m b a → ⊥) → Memᴰ a o ⊎ Memᴰ a (d ∷ []) → ⊥
      go ih (inl i) = ih i w r
      go ih (inr i) =
          let e = Memᴰ.eq_of_singleton i in
          n (subst (λ (x : Tag). Memᴰ x o) e (placed-closed p (k b (subst (λ (x : Tag). Wire m x b) e w)) r))
