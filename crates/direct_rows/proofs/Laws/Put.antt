-- Rows written, part by part. Assumes nothing.
use Prim.Native.Nat.{ℕ, ◌+◌, ◌≤◌, ◌<◌, min}
use native.Mathlib.Omega.{arith}
use mathlib.Core.Path.{◌≡◌}
use mathlib.Core.List.{List}
use mathlib.Core.Option.{some}
use lib.ListN.{length}
use Rattle.tag.specs.View.{bytes_of}
use Rattle.model.specs.declared.implicit_model.ComponentEntry.{ComponentEntry}
use Rattle.finding.specs.Rows.{component_at, list_place_at}
use Rattle.model.specs.declared.implicit_model.InputList.{InputList}
use Rattle.layout.specs.Words.{word}
use Rattle.rows.specs.Rows.{tag_in, component_in, places_in, places_of}
use Rattle.rows.specs.Written.{Writes}
use Rattle.model_writing.proofs.Laws.Writing.{entry-wrote, list_wrote}
use Rattle.direct_rows.specs.Rows.{PutEntry, PutList}

module _ {s : List ℕ} (size : length s ≡ 27200) where
  pub entry-put : (e : ComponentEntry) {i : ℕ} {t u : List ℕ} → i < 64 → Writes (λ v. tag_in v (component_at i)) (some (bytes_of e.tag)) (component_at i) 40 s t
      → Writes (λ v. component_in v (component_at i + 40)) (some e.component) (component_at i + 40) 48 t u → PutEntry i e s u
  entry-put e h p q =
      let w = p.wrote (omega arith) in
      record {
        wrote = λ z k. entry-wrote e w (q.wrote (omega (arith, w.kept.size)));
        narrow = λ z. absurd (z size);
        past = λ k. absurd (let z : ⊥ = omega arith in z);
      }

  pub list_put : (l : InputList) {j : ℕ} {t u v : List ℕ} → j < 128 → l.count ≤ 3 → Writes (λ x. tag_in x (list_place_at j)) (some (bytes_of l.tag)) (list_place_at j) 40 s t
      → Writes (λ x. word x (list_place_at j + 40)) l.count (list_place_at j + 40) 8 t u
      → Writes (λ x. places_in (min l.count 3) x (list_place_at j + 48)) (some (places_of l.count l)) (list_place_at j + 48) 120 u v → PutList j l s v
  list_put l h n p q r =
      let w = p.wrote (omega arith) in
      let x = q.wrote (omega (arith, w.kept.size)) in
      record {
        wrote = λ e k m. list_wrote l n w x (r.wrote (omega (arith, w.kept.size, x.kept.size)));
        narrow = λ e. absurd (e size);
        past = λ k. absurd (let z : ⊥ = omega arith in z);
        many = λ k. absurd (let z : ⊥ = omega arith in z);
      }
