-- What evaluate_in answers. Assumes nothing.
use Prim.Native.Nat.{ℕ}
use mathlib.Core.Path.{◌≡◌, sym, subst}
use mathlib.Core.List.{List}
use lib.Ieee.{Float, binary64, to_bits}
use Rattle.tag.specs.Tags.{Tag}
use Rattle.geometry.specs.declared.vec3f.Vec3.{Vec3}
use Rattle.model.specs.Form.{Number, bits, Evaluated, number}
use Rattle.model.proofs.Theorems.Compile.{compiles_short}
use Rattle.model.proofs.Theorems.Worked.{number_compiles}
use Rattle.finding.specs.Rows.{tag_of}
use Rattle.standing.specs.declared.Wire.{Wire}
use Rattle.standing.specs.Standing.{Names, Stands}
use Rattle.direct.specs.Evaluate.{EvaluatesIn}

pub answered : {s : List ℕ} {n : ℕ} {w : List (List Wire)} {t : Tag} {r : ℕ} {p : Vec3} {v : Float} {b : ℕ} (g : Stands s n w) → Names s n t r
    → Number g.model p (tag_of s r) v → b ≡ to_bits binary64 v → EvaluatesIn s t p b
answered {t = t} {p = p} {v = v} g q k e =
    let m : Number g.model p t v = subst (λ (u : Tag). Number g.model p u v) q.tag k in
    record {
      model = g.model;
      is = g.is;
      answers = subst (λ (c : ℕ). Evaluated g.model t p (bits c)) (sym e) (number g.sound (compiles_short g.sound (number_compiles m)) (number_compiles m) m);
    }
