-- 7 as the code judges it, row by row, and that this is what is defined. Assumes nothing.
use mathlib.Core.Path.{◌≡◌, sym, ◌∙◌, ap, subst}
use mathlib.Core.Bool.{Bool, true, false, ◌&&◌, and-true}
use Rattle.std.proofs.Math.Bool.{and_assoc}
use mathlib.Core.List.{List, [], ◌∷◌, ◌++◌}
use Prim.Native.Nat.{ℕ}
use native.Mathlib.Omega.{arith}
use lib.Dec.{T, leb, leb→le, le→leb}
use lib.ListN.{length}
use Rattle.std.specs.Prelude.{Option, Some, None, MatchOption, is_some}
use Rattle.tag.specs.declared.Tag.{Tag as Label}
use Rattle.tag.specs.View.{bytes_of, tag_fits}
use Rattle.component.specs.declared.model_component.Component.{Component}
use Rattle.model.specs.declared.implicit_model.Model.{Model as Record}
use Rattle.model.specs.Table.{Table, distinct}
use Rattle.model.specs.Model.{short_tag, good_list, listed, named, tests, valid}
use Rattle.model.specs.View.{PlaceRecord, place_of, rows, component_of, list_of, components_of, lists_of, view, every, place_fits, entry_fits, list_fits, sizes, fits, passes}
use Rattle.held.specs.Search.{Sought}
use Rattle.model.proofs.Laws.Bool.{and_T, and_T₁, and_T₂}
use Rattle.model.proofs.Laws.Valid.{passed, unpassed, ◌▸◌}
use Rattle.held.proofs.Laws.Rows.{rows-length}
use Rattle.held.proofs.Laws.Search.{searched}
use Rattle.sound_lists.specs.Sound.{list_sound}
use Rattle.sound_lists.proofs.Laws.Lists.{bool_ext, all-rows, imply_rows, join_rows, fits-short, list_parts}
use Rattle.sound_components.specs.Sound.{entry_sound}
use Rattle.validity.specs.Sound.{default_sound}

abbrev pub judged : Record → List Bool
judged m =
    leb m.component_count 64
    ∷ leb m.list_count 128
    ∷ every (rows list_sound m.list_count m.lists)
    ∷ every (rows (entry_sound (lists_of m)) m.component_count m.components)
    ∷ distinct (components_of m)
    ∷ distinct (lists_of m)
    ∷ default_sound (components_of m) m.default
    ∷ []

unfoldable pub checks : Record → Bool
checks m = every (judged m)

every_more : (bs : List Bool) (x : Bool) → every (bs ++ (x ∷ [])) ≡ every bs && x
every_more [] x = and-true x
every_more (b ∷ bs) x = ap (λ (r : Bool). b && r) (every_more bs x) ∙ sym (and_assoc b (every bs) x)

-- one test more, after tests that came to b: it is asked only where they passed
module _ (bs : List Bool) (x : Bool) {b r : Bool} (h : b ≡ every bs) where
  pub asked : b ≡ true → r ≡ x → r ≡ every (bs ++ (x ∷ []))
  asked e q = rw (every_more bs x, ← h, e) q

  pub unasked : b ≡ false → r ≡ b → r ≡ every (bs ++ (x ∷ []))
  unasked e q = rw (every_more bs x, ← h, e) (q ∙ e)

-- ---- the default

module _ (cs : Table Component) where
  pub default-long : (t : Label) → tag_fits t ≡ false → false ≡ default_sound cs (Some t)
  unfolding place_fits
  default-long t h = sym (rw h)

  pub default-searched : (t : Label) {cap : ℕ} (f : Option ℕ) → tag_fits t ≡ true → Sought cs cap (bytes_of t) f → is_some f ≡ default_sound cs (Some t)
  unfolding place_fits place_of
  default-searched t f h p = rw h (searched f p)

  -- a test of the default, where there is one
  pub default-asked : (p : PlaceRecord) (r : Bool) {P : Label → Type 0} → ((t : Label) → P t → r ≡ default_sound cs (Some t)) → MatchOption p (r ≡ true) P → r ≡ default_sound cs p
  unfolding place_fits place_of
  default-asked None r f h = h
  default-asked (Some t) r f h = f t h

-- ---- all of it

-- what the tests say, each by its name
record Judged (m : Record) : Type 0 where
  pub few : T (leb m.component_count 64)
  pub few_lists : T (leb m.list_count 128)
  pub lists : T (every (rows list_sound m.list_count m.lists))
  pub entries : T (every (rows (entry_sound (lists_of m)) m.component_count m.components))
  pub once : T (distinct (components_of m))
  pub once_lists : T (distinct (lists_of m))
  pub default : T (default_sound (components_of m) m.default)

judged_of : (m : Record) → T (every (judged m)) → Judged m
judged_of m t =
    let (few, (few_lists, (lists, (entries, (once, (once_lists, (default, _))))))) = passed (judged m) t in
    record { few = few; few_lists = few_lists; lists = lists; entries = entries; once = once; once_lists = once_lists; default = default }

pub checks_passes : (m : Record) → checks m ≡ passes m
unfolding checks passes fits valid view
checks_passes m = bool_ext _ _
    (λ t.
    let p = judged_of m t in
    let lf = imply_rows list_sound list_fits (λ l h. and_T₁ (list_fits l) (good_list (list_of l)) h) m.list_count m.lists p.lists in
    let lg = imply_rows list_sound (λ l. good_list (list_of l)) (λ l h. and_T₂ (list_fits l) (good_list (list_of l)) h) m.list_count m.lists p.lists in
    let ef = imply_rows (entry_sound (lists_of m)) entry_fits (λ l h. and_T₁ (entry_fits l) (listed (lists_of m) (component_of l)) h) m.component_count m.components p.entries in
    let el = imply_rows (entry_sound (lists_of m)) (λ e. listed (lists_of m) (component_of e)) (λ l h. and_T₂ (entry_fits l) (listed (lists_of m) (component_of l)) h) m.component_count m.components p.entries in
    let d = p.default in
    let cs = leb→le m.component_count 64 p.few in
    let ls = leb→le m.list_count 128 p.few_lists in
    and_T (every (sizes m)) (every (tests (view m)))
    (unpassed (sizes m) (p.few ▸ p.few_lists ▸ ef ▸ lf ▸ and_T₁ (place_fits m.default) (named (components_of m) (place_of m.default)) d ▸ tt))
    (unpassed (tests (view m)) (
    le→leb (length (components_of m)) 64 (omega (arith, rows-length component_of m.components m.component_count))
    ▸ le→leb (length (lists_of m)) 128 (omega (arith, rows-length list_of m.lists m.list_count))
    ▸ subst T (sym (all-rows short_tag component_of m.component_count m.components)) (imply_rows entry_fits (λ e. short_tag (component_of e)) (λ e h. fits-short e.tag h) m.component_count m.components ef)
    ▸ subst T (sym (all-rows short_tag list_of m.list_count m.lists)) (imply_rows list_fits (λ l. short_tag (list_of l)) (λ l h. fits-short l.tag (list_parts l h).0) m.list_count m.lists lf)
    ▸ subst T (sym (all-rows good_list list_of m.list_count m.lists)) lg
    ▸ p.once
    ▸ p.once_lists
    ▸ subst T (sym (all-rows (listed (lists_of m)) component_of m.component_count m.components)) el
    ▸ and_T₂ (place_fits m.default) (named (components_of m) (place_of m.default)) d
    ▸ tt
    )))
    (λ t.
    let (few, (few_lists, (entries, (lists, (default, _))))) = passed (sizes m) (and_T₁ (every (sizes m)) (every (tests (view m))) t) in
    let (_, (_, (_, (_, (good, (once, (once_lists, (counts, (names, _))))))))) = passed (tests (view m)) (and_T₂ (every (sizes m)) (every (tests (view m))) t) in
    unpassed (judged m) (
    few
    ▸ few_lists
    ▸ join_rows list_fits (λ l. good_list (list_of l)) m.list_count m.lists lists (subst T (all-rows good_list list_of m.list_count m.lists) good)
    ▸ join_rows entry_fits (λ e. listed (lists_of m) (component_of e)) m.component_count m.components entries (subst T (all-rows (listed (lists_of m)) component_of m.component_count m.components) counts)
    ▸ once
    ▸ once_lists
    ▸ and_T (place_fits m.default) (named (components_of m) (place_of m.default)) default names
    ▸ tt
    ))
