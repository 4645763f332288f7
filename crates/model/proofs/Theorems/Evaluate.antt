-- Document 01's `evaluate_at`: it always answers, and with one answer only: a form that compiles gets its number, any other compile's refusal. Assumes nothing.
use mathlib.Core.Path.{◌≡◌, sym, ap, subst}
use mathlib.Core.Logic.{◌↔◌}
use mathlib.Core.List.{List}
use lib.Dec.{T}
use lib.Ieee.{Float, binary64, to_bits}
use Rattle.tag.specs.Tags.{Tag}
use Rattle.geometry.specs.declared.vec3f.Vec3.{Vec3}
use Rattle.model.specs.Model.{Model, valid}
use Rattle.model.specs.Form.{Compiles, Compiling, Compiled, order, refusal, Number, Reply, bits, handed, Evaluated, number, refused_by}
use Rattle.model.proofs.Theorems.Number.{number_unique, number_exists}
use Rattle.model.proofs.Theorems.Compile.{refuses_unique, not_refused, compiles_short, compile_answers}

pub evaluated_unique : {m : Model} {t : Tag} {p : Vec3} {r s : Reply} → Evaluated m t p r → Evaluated m t p s → r ≡ s
evaluated_unique (number v w c x) (number v' w' c' y) = ap (λ (z : Float). bits (to_bits binary64 z)) (number_unique x y)
evaluated_unique (number v w c x) (refused_by y) = absurd (not_refused v c y)
evaluated_unique (refused_by x) (number v w c y) = absurd (not_refused v c x)
evaluated_unique (refused_by x) (refused_by y) = let q = refuses_unique x y in cc

pub evaluate_answers : (m : Model) (t : Tag) (p : Vec3) → (r : Reply) × Evaluated m t p r
evaluate_answers m t p = go (compile_answers m t)
  where
    go : ((c : Compiling) × (o : List Tag) × Compiled m t c o) → (r : Reply) × Evaluated m t p r
    go (c, o, order v w h k) = let x = number_exists h p in (bits (to_bits binary64 x.0), number v w h x.1)
    go (c, o, refusal {n = n} {a = a} {i = i} r) = (handed n a i, refused_by r)

-- a form that compiles is answered with its number, and with nothing else
pub evaluated_exactly : {m : Model} {t : Tag} {p : Vec3} {x : Float} → T (valid m) → Compiles m t → Number m p t x
    → (r : Reply) → Evaluated m t p r ↔ (r ≡ bits (to_bits binary64 x))
evaluated_exactly {m} {t} {p} v h y r =
    let answer = number v (compiles_short v h) h y in
    (λ q. evaluated_unique q answer, λ e. subst (Evaluated m t p) (sym e) answer)
