-- The round trip, from the contracts alone: what is encoded decodes to the same view, and what decodes encodes to bytes that decode to it. Assumes nothing.
use Prim.Native.Nat.{ℕ}
use mathlib.Core.Path.{◌≡◌, sym, subst, ◌∙◌}
use mathlib.Core.Bool.{Bool, true}
use mathlib.Core.List.{List}
use lib.ListN.{length}
use borrow.Author.Tests.{eq-eqb}
use Rattle.std.specs.Prelude.{Option, Some}
use Rattle.model.specs.declared.implicit_model.Model.{Model as Record}
use Rattle.model.specs.View.{view}
use Rattle.model_bytes.specs.ModelBytes.{model_in}
use Rattle.model_bytes.specs.Calls.{Decodes}
use Rattle.model_bytes.proofs.Theorems.Decoded.{decodes_held, decoded_holds}
use Rattle.model_writing.specs.Calls.{Encodes}
use Rattle.rows.proofs.Laws.Tests.{and_true}

-- what is encoded decodes to the same view
pub encoded_decodes : {m : Record} {s t : List ℕ} {r : Bool} (d : Option Record) → Encodes m s t r → r ≡ true → Decodes t d → (n : Record) × (d ≡ Some n) × (view n ≡ view m)
encoded_decodes {t = t} d e q x = decodes_held t d (e.holds q) x

-- what decodes is encoded wherever there is room, into bytes that hold it
pub decoded_encodes : (s : List ℕ) {t u : List ℕ} {r : Bool} {d : Option Record} {m : Record} → Decodes s d → d ≡ Some m → length t ≡ 27200 → Encodes m t u r → (r ≡ true) × (model_in u ≡ model_in s)
decoded_encodes s {t = t} x q n e =
    let yes = e.answer ∙ and_true (eq-eqb (length t) 27200 n) (subst (Decodes s) q x).1 in
    (yes, e.holds yes ∙ sym (decoded_holds s x q))
