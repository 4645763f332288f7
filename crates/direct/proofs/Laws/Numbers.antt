-- One more number: a component's, from the numbers of its places. Assumes nothing.
use Rattle.std.specs.Prelude.{Option as Maybe, Some, None}
use Prim.Native.Nat.{ℕ, zero, suc, ◌≤◌, ◌<◌}
use native.Mathlib.Omega.{arith}
use native.Mathlib.Decide.{dec_lt, ℕ_discrete}
use mathlib.Core.Path.{◌≡◌, refl, sym, ap, subst, ◌∙◌}
use mathlib.Core.List.{List, [], ◌∷◌}
use mathlib.Core.Option.{none, some}
use lib.Ieee.{Float, nan}
use lib.ListN.{length, get_or, set, replicate, length-set}
use lib.Seq.{get_or-set_same, get_or-set_other}
use Rattle.tag.specs.Tags.{Tag}
use Rattle.geometry.specs.declared.vec3f.Vec3.{Vec3}
use Rattle.model.specs.Model.{Place, Model, inputs}
use Rattle.model.specs.Form.{value, Number, worked, Numbers, nothing, another}
use Rattle.model.proofs.Laws.Valid.{some_some, none_some}
use Rattle.finding.specs.Rows.{tag_of}
use Rattle.standing.specs.declared.Wire.{Wire}
use Rattle.standing.specs.declared.Wire.TheVariants.{To, Past, Open}
use Rattle.standing.specs.Standing.{wire_at, Leads, Stands}
use Rattle.direct.specs.Along.{Brings, Value}
use Rattle.direct.proofs.Laws.Ready.{at_first}

-- the numbers of a list's places, where f gives the one of each
pub record Numbered (m : Model) (p : Vec3) (l : List Place) (f : ℕ → Float) : Type 0 where
  pub numbers : List Float
  pub worked : Numbers m p l numbers
  pub same : (q : ℕ) → q < length l → get_or numbers q nan ≡ f q
  pub past : (q : ℕ) → length l ≤ q → get_or numbers q nan ≡ nan

numbers_of : {m : Model} {p : Vec3} (l : List Place) (f : ℕ → Float) → ((q : ℕ) → q < length l → (b : Tag) × (get_or l q none ≡ some b) × Number m p b (f q)) → Numbered m p l f
numbers_of [] f each = record { numbers = []; worked = nothing; same = λ q h. absurd (let z : ⊥ = omega arith in z); past = λ q h. refl }
numbers_of (none ∷ l) f each = none_some (each 0 (omega arith)).1
numbers_of {m} {p} (some b ∷ l) f each =
    let r = numbers_of l (λ q. f (suc q)) (λ q h. each (suc q) (omega arith)) in
    let e = each 0 (omega arith) in
    record {
      numbers = f 0 ∷ r.numbers;
      worked = another (subst (λ (t : Tag). Number m p t (f 0)) (sym (some_some e.1)) e.2) r.worked;
      same = at r.numbers r.same;
      past = beyond r.numbers r.past;
    }
  where
    at : (xs : List Float) → ((q : ℕ) → q < length l → get_or xs q nan ≡ f (suc q)) → (q : ℕ) → q < suc (length l) → get_or (f 0 ∷ xs) q nan ≡ f q
    at xs same zero h = refl
    at xs same (suc q) h = same q (omega arith)

    beyond : (xs : List Float) → ((q : ℕ) → length l ≤ q → get_or xs q nan ≡ nan) → (q : ℕ) → suc (length l) ≤ q → get_or (f 0 ∷ xs) q nan ≡ nan
    beyond xs past zero h = absurd (let z : ⊥ = omega arith in z)
    beyond xs past (suc q) h = past q (omega arith)

-- what is worked is the number of its component
pub record Worked (s : List ℕ) (n : ℕ) (w : List (List Wire)) (p : Vec3) (numbers : List (Maybe Float)) : Type 0 where
  pub size : length numbers ≡ 64
  pub right : (g : Stands s n w) (i : ℕ) (v : Float) → get_or numbers i None ≡ Some v → Number g.model p (tag_of s i) v

module _ {s : List ℕ} {n : ℕ} {w : List (List Wire)} {p : Vec3} {numbers : List (Maybe Float)} {x : ℕ} {v : Float} (k : Worked s n w p numbers) (c : Value s n w numbers x p v) (g : Stands s n w) where
  abbrev places : List Place
  places = inputs g.model (tag_of s x)

  place : (q : ℕ) → q < length places → (b : Tag) × (get_or places q none ≡ some b) × Number g.model p b (c.input q)
  place q h = go (wire_at w x q) (g.wired x q c.below (omega (arith, g.short x c.below))) (c.brings q (omega (arith, g.short x c.below)))
    where
      go : (e : Wire) → Leads s n places q e → Brings numbers e (c.input q) → (b : Tag) × (get_or places q none ≡ some b) × Number g.model p b (c.input q)
      go (To r) l b = (tag_of s r, l.2, k.right g r (c.input q) b)
      go Past l b = absurd (let z : ⊥ = omega (arith, l) in z)
      go Open l b = absurd b

  numbered : Numbered g.model p places c.input
  numbered = numbers_of places c.input place

  same : (q : ℕ) → q < 3 → get_or numbered.numbers q nan ≡ c.input q
  same q h = go (dec_lt q (length places))
    where
      unread : (e : Wire) → Leads s n places q e → Brings numbers e (c.input q) → length places ≤ q → nan ≡ c.input q
      unread (To r) l b m = absurd (let z : ⊥ = omega (arith, l.1) in z)
      unread Past l b m = sym b
      unread Open l b m = absurd b

      go : Dec (q < length places) → get_or numbered.numbers q nan ≡ c.input q
      go (yes l) = numbered.same q l
      go (no l) = numbered.past q (omega arith) ∙ unread (wire_at w x q) (g.wired x q c.below h) (c.brings q h) (omega arith)

  next-number : Number g.model p (tag_of s x) v
  unfolding value
  next-number =
      let a = same 0 (omega arith) in
      let b = same 1 (omega arith) in
      let d = same 2 (omega arith) in
      worked c.component numbered.numbers (g.component x c.component c.below c.is) numbered.worked (rw (a, b, d) (sym c.value))

some_is : {a b : Float} → ◌≡◌ {A = Maybe Float} (Some a) (Some b) → a ≡ b
some_is e = cc

pub none_worked : {s : List ℕ} {n : ℕ} {w : List (List Wire)} {p : Vec3} → Worked s n w p (replicate 64 None)
none_worked = record { size = refl; right = λ g i v e. let z : ⊥ = cc (at_first {A = Maybe Float} None 64 i) in absurd z }

pub worked_more : {s : List ℕ} {n : ℕ} {w : List (List Wire)} {p : Vec3} {numbers : List (Maybe Float)} {x : ℕ} {v : Float} → n ≤ 64 → Worked s n w p numbers → Value s n w numbers x p v → Worked s n w p (set numbers x (Some v))
worked_more {s} {n} {w} {p} {numbers} {x} {v} few k c = record { size = length-set numbers x (Some v) ∙ k.size; right = λ g i u e. go g i u e (ℕ_discrete i x) }
  where
    go : (g : Stands s n w) (i : ℕ) (u : Float) → get_or (set numbers x (Some v)) i None ≡ Some u → Dec (i ≡ x) → Number g.model p (tag_of s i) u
    go g i u e (yes q) =
        let z : v ≡ u = some_is (sym (get_or-set_same numbers x (Some v) None (omega (arith, k.size, c.below))) ∙ ap (λ (j : ℕ). get_or (set numbers x (Some v)) j None) (sym q) ∙ e) in
        subst (λ (j : ℕ). Number g.model p (tag_of s j) u) (sym q) (subst (Number g.model p (tag_of s x)) z (next-number k c g))
    go g i u e (no q) = k.right g i u (sym (get_or-set_other numbers x i (Some v) None q) ∙ e)
