-- A refused compile leaves the order's bytes alone: from the contract. Assumes nothing.
use Prim.Native.Nat.{ℕ, ◌≤◌}
use mathlib.Core.Path.{◌≡◌, subst}
use mathlib.Core.List.{List, []}
use native.Mathlib.Omega.{arith}
use native.Mathlib.Decide.{dec_le}
use lib.ListN.{length}
use lib.Seq.{ext_get_or}
use Rattle.tag.specs.Tags.{Tag}
use Rattle.layout.specs.Writing.{Kept}
use Rattle.compiling.specs.Order.{OrderIn}

kept-all : {s t : List ℕ} → Kept s t 0 0 → t ≡ s
kept-all {s} {t} k = ext_get_or 0 t s k.size (λ i h. k.above i (omega arith))

pub refused-order : {o : List Tag} {s t : List ℕ} → o ≡ [] → OrderIn o s t → t ≡ s
refused-order {o} {s} {t} e r = go (subst (λ (l : List Tag). OrderIn l s t) e r) (dec_le 2560 (length s))
  where
    go : OrderIn [] s t → Dec (2560 ≤ length s) → t ≡ s
    go x (yes h) = kept-all (x.tags h).kept
    go x (no h) = x.narrow (omega arith)
