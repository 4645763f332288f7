-- The model of some bytes, with its places swapped. Assumes nothing.
use Prim.Native.Nat.{ℕ, ◌+◌, ◌≤◌, ◌<◌}
use native.Mathlib.Omega.{arith}
use mathlib.Core.Path.{◌≡◌, sym, subst, ◌∙◌}
use mathlib.Core.List.{List, map}
use lib.ListN.{length}
use Rattle.tag.specs.Tags.{Tag}
use Rattle.model.specs.Table.{each}
use Rattle.model.specs.Model.{Place, Model}
use Rattle.model.specs.Edit.{swap}
use Rattle.model.proofs.Laws.Valid.{length-each}
use Rattle.layout.specs.Words.{word}
use Rattle.layout.proofs.Kept.{Agree, word_same}
use Rattle.model_bytes.specs.ModelBytes.{entry_row, list_row}
use Rattle.model_bytes.specs.Calls.{Spares}
use Rattle.model_bytes.proofs.Laws.Local.{entry_local}
use Rattle.standing.proofs.Laws.Rows.{Built}
use Rattle.direct_rows.proofs.Laws.Table.{built_same, built_map, each_map}
use Rattle.direct_rows.proofs.Laws.Parts.{Whole, whole_of}
use Rattle.direct_rows.proofs.Laws.Found.{lists_length, lists-counted}
use Rattle.direct_swapping.specs.Swapping.{swap_list, Swapped}

-- a model's places and default swapped
abbrev pub swapped_in : Tag → Place → Model → Model
swapped_in t p m = record { components = m.components; lists = each (map (swap t p)) m.lists; default = swap t p m.default }

module _ {t : Tag} {p : Place} {s u : List ℕ} {m : Model} (w : Whole s m) (g : Swapped t p s u) where
  head : (i n : ℕ) → i + n ≤ 24 → Agree s u i n
  head i n h = record { size = g.size; same = λ k a b. g.head k (omega arith) }

  entry : (i : ℕ) → i < word s 8 → entry_row u i ≡ entry_row s i
  entry i h = entry_local (record { size = g.size; same = λ k a b. g.components k (omega arith) (omega (arith, w.few)) })

  swapped_lists : Built (list_row u) (word s 16) (each (map (swap t p)) m.lists)
  swapped_lists =
      subst (Built (list_row u) (word s 16)) (sym (each_map (map (swap t p)) m.lists))
      (built_map (swap_list t p) w.lists (λ j x h e. g.lists w.size j x (omega (arith, lists-counted w)) e))

  pub swapped_whole : Whole u (swapped_in t p m)
  swapped_whole =
      whole_of (g.size ∙ w.size) (word_same (head 0 8 (omega arith)) ∙ w.version) (word_same (head 8 8 (omega arith))) w.few (word_same (head 16 8 (omega arith))) w.few_lists (built_same w.components entry) swapped_lists
      (g.default w.size m.default w.default)

  -- rows past the counts are as before
  pub swapped_spares : {r : List ℕ} {n : ℕ} → Spares n (length m.lists) r s → Spares n (length (each (map (swap t p)) m.lists)) r u
  swapped_spares {r} {n} f =
      subst (λ (k : ℕ). Spares n k r u) (sym (length-each (map (swap t p)) m.lists)) (record {
        size = g.size ∙ f.size;
        components = λ i a b. g.components i (omega arith) b ∙ f.components i a b;
        lists = λ i a. g.past i (omega (arith, lists-counted w, lists_length w)) ∙ f.lists i a;
      })
