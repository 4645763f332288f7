-- A component is read back from its numbers and from its words. Assumes nothing.
use Prim.Native.Nat.{ℕ}
use mathlib.Core.Path.{◌≡◌, refl, ap, ◌∙◌}
use mathlib.Core.Option.{some}
use lib.Ieee.{Float, binary64, of_bits, to_bits}
use Rattle.component.specs.declared.model_component.Component.{Component}
use Rattle.component.specs.declared.model_component.Component.TheVariants.{Constant, Sphere, Torus, Multiply, Add, Subtract, Divide, Lerp, VariableLerp, Remap, BooleanUnion, BooleanIntersection, BooleanDifference, Offset, Thickness}
use Rattle.component_layout.specs.declared.component_numbers.Numbered.{Numbered}
use Rattle.component_layout.specs.Components.{component_of, component_from}
use Rattle.component_layout.specs.Numbers.{numbers_of, words_for, words_of, Worded}

-- the component that numbers are read as
numbers_back : (c : Component) → component_of (numbers_of c).kind (numbers_of c).a (numbers_of c).b (numbers_of c).c (numbers_of c).d (numbers_of c).e ≡ some c
unfolding component_of numbers_of
numbers_back (Constant v) = refl
numbers_back (Sphere s) = refl
numbers_back (Torus t) = refl
numbers_back Multiply = refl
numbers_back Add = refl
numbers_back Subtract = refl
numbers_back Divide = refl
numbers_back (Lerp f) = refl
numbers_back VariableLerp = refl
numbers_back (Remap a b c d) = refl
numbers_back BooleanUnion = refl
numbers_back BooleanIntersection = refl
numbers_back BooleanDifference = refl
numbers_back (Offset d) = refl
numbers_back (Thickness t) = refl

-- the bits of a number, from which it is read back
abbrev Bits : ℕ → Float → Type 0
Bits w x = (w ≡ to_bits binary64 x) × (of_bits binary64 w ≡ x)

pub worded : (x : Component) {n : Numbered Float} {a b c d e : ℕ} → n ≡ numbers_of x → Bits a n.a → Bits b n.b → Bits c n.c → Bits d n.d → Bits e n.e
    → Worded x (record { kind = n.kind; a = a; b = b; c = c; d = d; e = e })
unfolding words_of component_from
worded x {n} p q r s t u = record {
  words = rw (q.0, r.0, s.0, t.0, u.0) (ap words_for p);
  back = rw (q.1, r.1, s.1, t.1, u.1) (ap (λ (m : Numbered Float). component_of m.kind m.a m.b m.c m.d m.e) p ∙ numbers_back x);
}
