-- What 7 says of a record that it lets pass, part by part; and what makes a record pass. Assumes nothing.
use mathlib.Core.Path.{◌≡◌}
use mathlib.Core.Bool.{Bool, true, ◌&&◌}
use mathlib.Core.List.{List, [], ◌∷◌, ◌++◌}
use Prim.Native.Nat.{ℕ, zero, suc, ◌≤◌}
use lib.Dec.{T, leb→le, le→leb}
use lib.ListN.{take, set}
use Rattle.model.specs.declared.implicit_model.Model.{Model as Record}
use Rattle.model.specs.Table.{distinct}
use Rattle.model.specs.Model.{Model, Same, valid}
use Rattle.model.specs.View.{place_of, rows, every, place_fits, entry_fits, list_fits, components_of, lists_of, view, sizes, fits, passes}
use Rattle.model.proofs.Laws.Bool.{T→true, true→T, and_T, and_T₁, and_T₂}
use Rattle.model.proofs.Laws.Valid.{passed, unpassed, good, same-valid}
use Rattle.held.proofs.Laws.Changes.{Becomes}

pub record Standing (m : Record) : Type 0 where
  pub few : m.component_count ≤ 64
  pub few_lists : m.list_count ≤ 128
  pub entries : T (every (rows entry_fits m.component_count m.components))
  pub lists : T (every (rows list_fits m.list_count m.lists))
  pub default : T (place_fits m.default)
  pub once : T (distinct (components_of m))
  pub once-lists : T (distinct (lists_of m))

pub passes-valid : (m : Record) → passes m ≡ true → T (valid (view m))
unfolding passes
passes-valid m p = and_T₂ (fits m) (valid (view m)) (true→T _ p)

pub standing : (m : Record) → passes m ≡ true → Standing m
unfolding passes fits view
standing m p =
    let test = true→T (every (sizes m) && valid (view m)) p in
    let (few, (few_lists, (entries, (lists, (default, _))))) = passed (sizes m) (and_T₁ (every (sizes m)) (valid (view m)) test) in
    let g = good (view m) (and_T₂ (every (sizes m)) (valid (view m)) test) in
    record {
      few = leb→le m.component_count 64 few;
      few_lists = leb→le m.list_count 128 few_lists;
      entries = entries;
      lists = lists;
      default = default;
      once = g.once;
      once-lists = g.once-lists;
    }

-- a record that stands, and is the same as a valid model, passes
pub stands_passes : (w : Model) (n : Record) → T (valid w) → Same w (view n) → Standing n → passes n ≡ true
unfolding passes fits view
stands_passes w n v s g = T→true (every (sizes n) && valid (view n)) (and_T (every (sizes n)) (valid (view n))
    (unpassed (sizes n) (le→leb n.component_count 64 g.few, (le→leb n.list_count 128 g.few_lists, (g.entries, (g.lists, (g.default, tt))))))
    (same-valid w (view n) v s (once-view n g.once) (once-lists-view n g.once-lists)))
  where
    once-view : (n : Record) → T (distinct (components_of n)) → T (distinct (view n).components)
    once-view n h = h

    once-lists-view : (n : Record) → T (distinct (lists_of n)) → T (distinct (view n).lists)
    once-lists-view n h = h

pub same_view : {w : Model} (n : Record) → Becomes w.components (components_of n) → Becomes w.lists (lists_of n) → w.default ≡ place_of n.default → Same w (view n)
unfolding view
same_view n c l d = record { components = c.same; lists = l.same; default = d }

-- ---- tests of changed rows

pub every_more : (bs : List Bool) (b : Bool) → T (every bs) → T b → T (every (bs ++ (b ∷ [])))
every_more [] b h k = and_T b true k tt
every_more (x ∷ bs) b h k = and_T x (every (bs ++ (b ∷ []))) (and_T₁ x (every bs) h) (every_more bs b (and_T₂ x (every bs) h) k)

pub every_set : (bs : List Bool) (i : ℕ) (b : Bool) → T (every bs) → T b → T (every (set bs i b))
every_set [] i b h k = tt
every_set (x ∷ bs) zero b h k = and_T b (every bs) k (and_T₂ x (every bs) h)
every_set (x ∷ bs) (suc i) b h k = and_T x (every (set bs i b)) (and_T₁ x (every bs) h) (every_set bs i b (and_T₂ x (every bs) h) k)

pub every_take : (n : ℕ) (bs : List Bool) → T (every bs) → T (every (take n bs))
every_take zero bs h = tt
every_take (suc n) [] h = tt
every_take (suc n) (x ∷ bs) h = and_T x (every (take n bs)) (and_T₁ x (every bs) h) (every_take n bs (and_T₂ x (every bs) h))
