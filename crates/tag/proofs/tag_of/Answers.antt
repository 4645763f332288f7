-- `tag::tag_of` meets its contract: the bytes are copied, and the others stay 0. Assumes nothing.
use Prim.Native.Nat.{ℕ, min}
use mathlib.Core.Path.{◌≡◌, ap, sym, ◌∙◌}
use mathlib.Core.List.{◌++◌}
use native.Mathlib.Omega.{arith}
use lib.ListN.{take, drop, length, replicate, length-take}
use lib.Seq.{take-append_seam}
use Rattle.std.proofs.lemmas.List.{drop-replicate}
use Rattle.std.proofs.lemmas.Slice.{drop-append-drop}
use Rattle.tag.proofs.Laws.View.{made}
use Rattle.tag.proofs.tag_of.Goals as goal

pub returns : goal.returns
returns c =
    let t = c.args.t.now in
    let n = c.min-len.result in
    let front = c.copy_from_slice.new.self in
    let whole : front ≡ take n t = c.copy_from_slice.ensures.after in
    let size : length front ≡ n = ap length whole ∙ length-take n t ∙ (let e : min n (length t) ≡ n = omega (arith, c.min-len.ensures) in e) in
    made _ t n c.min-len.ensures
    (ap (λ (k : ℕ). take k (front ++ drop n (replicate 32 0))) (sym size) ∙ take-append_seam front _ ∙ whole)
    (drop-append-drop n (replicate 32 0) front n (omega arith) size ∙ drop-replicate n 32 0)
