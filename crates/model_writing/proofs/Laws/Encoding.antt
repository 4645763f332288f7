-- The model that is read where a model was written. Assumes nothing.
use Prim.Native.Nat.{ℕ, ◌+◌, ◌*◌}
use mathlib.Core.Path.{◌≡◌, refl, sym, ap, ◌∙◌}
use mathlib.Core.Bool.{Bool, true, false, ◌&&◌}
use mathlib.Core.List.{List}
use mathlib.Core.Option.{some}
use native.Mathlib.Omega.{arith}
use lib.Dec.{eqb}
use lib.ListN.{length}
use borrow.Author.Tests.{le-leb, eq-eqb, ne_eqb}
use Rattle.model.specs.declared.implicit_model.Model.{Model as Record}
use Rattle.model.specs.View.{PlaceRecord, place_of, components_of, lists_of, view, fits}
use Rattle.layout.specs.Words.{word}
use Rattle.layout.specs.Writing.{Kept}
use Rattle.layout.proofs.Kept.{kept_then, agree_below}
use Rattle.rows.specs.Rows.{place_in, rows_in}
use Rattle.model_bytes.specs.ModelBytes.{headed, entry_row, list_row, model_in}
use Rattle.rows.specs.Written.{Wrote}
use Rattle.rows.proofs.Laws.Local.{place_local, rows_local}
use Rattle.rows.proofs.Laws.Writing.{both-kept, word-stays}
use Rattle.model_writing.specs.Steps.{Header}
use Rattle.model_bytes.specs.Calls.{Spares}
use Rattle.model_writing.specs.Calls.{Encodes}
use Rattle.rows.proofs.Laws.Tests.{apart, and_true, and_false}
use Rattle.model_bytes.proofs.Laws.Decoding.{headed_is, model_some}
use Rattle.model_writing.proofs.Laws.Sizes.{Sized, sized}
use Rattle.model_bytes.proofs.Laws.Local.{entry_local}

pub header_wrote : {n k : ℕ} (d : PlaceRecord) {s t u v w : List ℕ} → Wrote (λ x. word x 0) 1 0 8 s t → Wrote (λ x. word x 8) n 8 8 t u → Wrote (λ x. word x 16) k 16 8 u v
    → Wrote (λ x. place_in x 24) (some (place_of d)) 24 40 v w → Header n k d s w
header_wrote d p q r e =
    let re = both-kept r e 16 48 (omega arith) (omega arith) (omega arith) (omega arith) in
    let qe = kept_then 8 56 q.kept re (omega arith) (omega arith) (omega arith) (omega arith) in
    record {
      kept = kept_then 0 64 p.kept qe (omega arith) (omega arith) (omega arith) (omega arith);
      version = word-stays 0 qe (omega arith) p.holds;
      components = word-stays 8 re (omega arith) q.holds;
      lists = word-stays 16 e.kept (omega arith) r.holds;
      default = e.holds;
    }

-- ---- nothing written

spares-none : (n k : ℕ) (s : List ℕ) → Spares n k s s
spares-none n k s = record { size = refl; components = λ i g h. refl; lists = λ i h. refl }

module _ (m : Record) (s : List ℕ) where
  unwritten : false ≡ (eqb (length s) 27200 && fits m) → Encodes m s s false
  unwritten e = record {
    answer = e;
    holds = λ t. absurd (apart t refl);
    spares = spares-none m.component_count m.list_count s;
    kept = λ t. refl;
  }

  pub no_room : (length s ≡ 27200 → ⊥) → Encodes m s s false
  no_room h = unwritten (sym (ap (λ (b : Bool). b && fits m) (ne_eqb (length s) 27200 h)))

  pub unfit : fits m ≡ false → Encodes m s s false
  unfit e = unwritten (sym (and_false (eqb (length s) 27200) e))

-- ---- the model written

module _ (m : Record) {s t u v : List ℕ} (size : length s ≡ 27200) (fit : fits m ≡ true) (h : Header m.component_count m.list_count m.default s t)
    (c : Wrote (λ x. rows_in (entry_row x) m.component_count) (some (components_of m)) 64 (88 * m.component_count) t u)
    (l : Wrote (λ x. rows_in (list_row x) m.list_count) (some (lists_of m)) 5696 (168 * m.list_count) u v) where
  few : Sized m
  few = sized m fit

  -- what the tables leave alone
  tables : Kept t v 64 27136
  tables = kept_then 64 27136 c.kept l.kept (omega arith) (omega (arith, few.components)) (omega arith) (omega (arith, few.lists))

  version : word v 0 ≡ 1
  version = word-stays 0 tables (omega arith) h.version

  components : word v 8 ≡ m.component_count
  components = word-stays 8 tables (omega arith) h.components

  lists : word v 16 ≡ m.list_count
  lists = word-stays 16 tables (omega arith) h.lists

  head-back : headed v ≡ true
  head-back =
      headed_is v (l.kept.size ∙ c.kept.size ∙ h.kept.size ∙ size) version (omega (arith, components, few.components))
      ∙ le-leb (word v 16) 128 (omega (arith, lists, few.lists))

  entries_back : rows_in (entry_row v) m.component_count ≡ some (components_of m)
  entries_back =
      rows_local (entry_row u) (entry_row v) m.component_count (λ k q. entry_local (agree_below (64 + 88 * k) 88 l.kept (omega (arith, few.components))))
      ∙ c.holds

  model-back : model_in v ≡ some (view m)
  model-back = model_some v head-back m (sym components) (sym lists) entries_back l.holds (place_local (agree_below 24 40 tables (omega arith)) ∙ h.default)

  spared : Spares m.component_count m.list_count s v
  spared = record {
    size = l.kept.size ∙ c.kept.size ∙ h.kept.size;
    components = λ i a b. l.kept.below i (omega arith) ∙ c.kept.above i (omega arith) ∙ h.kept.above i (omega arith);
    lists = λ i a. l.kept.above i (omega arith) ∙ c.kept.above i (omega (arith, few.components)) ∙ h.kept.above i (omega arith);
  }

  pub written : Encodes m s v true
  written = record {
    answer = sym (and_true (eq-eqb (length s) 27200 size) fit);
    holds = λ q. model-back;
    spares = spared;
    kept = λ q. absurd (apart refl q);
  }
