-- Same reach, same everything: two models that agree on what a target reaches have the same orders of it, compile's same answer and the same reply at every point. Assumes nothing.
use mathlib.Core.Path.{refl, sym, ◌∙◌, ap, subst}
use mathlib.Core.List.Memᴰ
use mathlib.Core.List.{List, [], ◌∷◌, Memᴰ}
use mathlib.Core.Option.{none, some}
use Prim.Native.Nat.{ℕ}
use lib.Dec.{T, T_not}
use Rattle.tag.specs.Tags.{Tag}
use Rattle.geometry.specs.declared.vec3f.Vec3.{Vec3}
use Rattle.model.specs.Model.{Model, valid}
use Rattle.model.specs.Walk.{gap}
use Rattle.model.specs.Form.{Reach, here, along, Cyclic, Absent, Gapped, Least, Refuses, invalid, long, cyclic, absent, gapped, Placed, start, then, Order, Compiling, Compiled, order, refusal, Evaluated, number, refused_by, Reply}
use Rattle.model.specs.Steady.{Agrees}
use Rattle.model.proofs.Laws.Reach.{reach_on}
use Rattle.model.proofs.Theorems.Carry.{agree_carries, inputs_agree, reach-back, compiles_carried, number-carried}

module _ {m n : Model} {t : Tag} (h : Agrees m t n) where
  agree_back : {a : Tag} → Reach n t a → Reach m t a
  agree_back r = let b = reach-back (agree_carries h) here r in subst (Reach m t) (sym b.2) b.1

  -- from a reached tag on
  agree_from : {a b : Tag} → Reach m t a → Reach m a b → Reach n a b
  agree_from r here = here
  agree_from {b = b} r (along s w) = along (agree_from r s) (subst (Memᴰ (some b)) (sym (inputs_agree h (reach_on r s))) w)

  agree_on : {a : Tag} → Reach m t a → Reach n t a
  agree_on r = agree_from here r

  -- agreement goes both ways
  pub agrees_sym : Agrees n t m
  agrees_sym = record { components = λ a r. sym (h.components a (agree_back r)); lists = λ a r. sym (h.lists a (agree_back r)) }

  cyclic_on : Cyclic m t → Cyclic n t
  cyclic_on c = record {
    tag = c.tag;
    next = c.next;
    reached = agree_on c.reached;
    wire = subst (Memᴰ (some c.next)) (sym (inputs_agree h c.reached)) c.wire;
    back = agree_from (along c.reached c.wire) c.back;
  }

  absent_on : {a : Tag} → Absent m t a → Absent n t a
  absent_on {a} x = (agree_on x.0, h.components a x.0 ∙ x.1)

  gapped_on : {a : Tag} → Gapped m t a → Gapped n t a
  gapped_on x = (agree_on x.0, subst (Memᴰ none) (sym (inputs_agree h x.0)) x.1)

  -- a list of reached tags, placed in the one model, is placed in the other
  placed_on : {o : List Tag} → Placed m o → ((a : Tag) → Memᴰ a o → Reach m t a) → Placed n o
  placed_on start r = start
  placed_on (then {o = o} {a = a} p f w) r =
      then (placed_on p (λ b i. r b (Memᴰ.append_left (a ∷ []) i))) f
      (λ b v. w b (subst (Memᴰ (some b)) (inputs_agree h (r a (Memᴰ.append_right o (Memᴰ.head refl)))) v))

  pub order_agrees : {o : List Tag} → Order m t o → Order n t o
  order_agrees x = record {
    placed = placed_on x.placed x.reached;
    reached = λ a i. agree_on (x.reached a i);
    all = λ a r. x.all a (agree_back r);
    last = x.last;
  }

least_on : {a : Tag} (P Q : Tag → Type 0) → ((b : Tag) → P b → Q b) → ((b : Tag) → Q b → P b) → Least P a → Least Q a
least_on {a} P Q f g l = (f a l.0, λ b k q. l.1 b k (g b q))

module _ {m n : Model} {t : Tag} (v : T (valid m)) (w : T (valid n)) (h : Agrees m t n) where
  pub refuses_agrees : {k : ℕ} {a : Tag} {i : ℕ} → Refuses m t k a i → Refuses n t k a i
  refuses_agrees (invalid x) = absurd (T_not (valid m) x v)
  refuses_agrees (long x q) = long w q
  refuses_agrees (cyclic x q c) = cyclic w q (cyclic_on h c)
  refuses_agrees (absent x q c l) =
      let g = agrees_sym h in
      absent w q (λ d. c (cyclic_on g d)) (least_on (Absent m t) (Absent n t) (λ b. absent_on h) (λ b. absent_on g) l)
  refuses_agrees (gapped x q c d l e) =
      let g = agrees_sym h in
      gapped w q (λ y. c (cyclic_on g y)) (λ b y. d b (absent_on g y))
      (least_on (Gapped m t) (Gapped n t) (λ b. gapped_on h) (λ b. gapped_on g) l) (ap (gap 0) (inputs_agree h l.0.0) ∙ e)

  pub compiled_agrees : {r : Compiling} {o : List Tag} → Compiled m t r o → Compiled n t r o
  compiled_agrees (refusal x) = refusal (refuses_agrees x)
  compiled_agrees (order x s c o) = order w s (compiles_carried (agree_carries h) c) (order_agrees h o)

  pub evaluated_agrees : {p : Vec3} {r : Reply} → Evaluated m t p r → Evaluated n t p r
  evaluated_agrees (number x s c k) = number w s (compiles_carried (agree_carries h) c) (number-carried (agree_carries h) k here)
  evaluated_agrees (refused_by x) = refused_by (refuses_agrees x)
