-- What is read of a row depends on its own bytes alone. Assumes nothing.
use Prim.Native.Nat.{ℕ, ◌+◌}
use mathlib.Core.Path.{◌≡◌, ap, ◌∙◌}
use mathlib.Core.List.{List}
use mathlib.Core.Option.{Option}
use native.Mathlib.Omega.{arith}
use Rattle.tag.specs.Tags.{Tag}
use Rattle.layout.specs.Words.{word}
use Rattle.layout.proofs.Kept.{Agree, agree_within, word_same}
use Rattle.rows.specs.Rows.{tag_in, component_in, places_in}
use Rattle.rows.proofs.Laws.Local.{tag_local, component_local, places_local}
use Rattle.model_bytes.specs.ModelBytes.{both, entry_in, list_in}

pub entry_local : {s t : List ℕ} {at : ℕ} → Agree s t at 88 → entry_in t at ≡ entry_in s at
unfolding entry_in
entry_local {s} {t} {at} p =
    ap (λ (o : Option Tag). both o (component_in t (at + 40))) (tag_local (agree_within at 40 p (omega arith) (omega arith)))
    ∙ ap (both (tag_in s at)) (component_local (agree_within (at + 40) 48 p (omega arith) (omega arith)))

pub list_local : {s t : List ℕ} {at : ℕ} → Agree s t at 168 → list_in t at ≡ list_in s at
unfolding list_in
list_local {s} {t} {at} p =
    ap (λ (o : Option Tag). both o (places_in (word t (at + 40)) t (at + 48))) (tag_local (agree_within at 40 p (omega arith) (omega arith)))
    ∙ ap (λ (n : ℕ). both (tag_in s at) (places_in n t (at + 48))) (word_same (agree_within (at + 40) 8 p (omega arith) (omega arith)))
    ∙ ap (both (tag_in s at)) (places_local (word s (at + 40)) (agree_within (at + 48) 120 p (omega arith) (omega arith)))
