-- 7, and what the wires lead to, from the checks of the bytes. Assumes nothing.
use Rattle.std.specs.Prelude.{min}
use Prim.Native.Nat.{ℕ, zero, suc, ◌+◌, ◌*◌, ◌≤◌, ◌<◌}
use native.Mathlib.Omega.{arith}
use mathlib.Core.Path.{◌≡◌, sym, ap, subst, ◌∙◌}
use mathlib.Core.Logic.{inl, inr, ◌⊎◌, ◌≢◌}
use mathlib.Core.Bool.{◌&&◌}
use mathlib.Core.List.{List, []}
use mathlib.Core.Option
use mathlib.Core.Option.{Option, none, some}
use lib.Dec.{T, leb, le→leb}
use lib.ListN.{length, get_or}
use borrow.Author.Tests.{eq-eqb}
use Rattle.tag.specs.Tags.{Tag}
use Rattle.component.specs.Value.{input_count}
use Rattle.component.specs.declared.model_component.Component.{Component}
use Rattle.model.specs.Table.{all, find}
use Rattle.model.specs.Model.{Place, Model, inputs, short_place, good_list, counted, named}
use Rattle.model.proofs.Laws.Bool.{true→T, and_T}
use Rattle.model.proofs.Laws.Valid.{found-held, Good, good_valid}
use Rattle.layout.specs.Words.{word, text}
use Rattle.model_bytes.specs.ModelBytes.{entry_row, list_row, model_in}
use Rattle.model_holding.specs.Holds.{Held}
use Rattle.finding.specs.Rows.{component_at, list_place_at, component_row, tag_of}
use Rattle.standing.specs.Names.{Keyed, Apart}
use Rattle.standing.specs.declared.Wire.{Wire}
use Rattle.standing.specs.declared.Wire.TheVariants.{To, Past, Open}
use Rattle.standing.specs.Standing.{PlaceNames, Filled, DefaultNamed, Stood, Owned, Wires, wire_at, Leads, Stands}
use Rattle.standing.specs.Standing.Owned.{unlisted, listed}
use Rattle.standing.proofs.Laws.Keys.{Tagged, tags-apart, place-named, place_unnamed}
use Rattle.standing.proofs.Laws.Rows.{Built, RowsApart, built_length, built_row, built_find, built_none, built_once, built_at}
use Rattle.standing.proofs.Laws.Model.{Parts, parts, entry_shows, Row, list_shows}

-- what the checks found
pub record Checked (s : List ℕ) (n k : ℕ) (components lists : List ℕ) (w : List (List Wire)) : Type 0 where
  pub held : Held (model_in s)
  pub count : n ≡ min (word s 8) 64
  pub lists-count : k ≡ min (word s 16) 128
  pub keys : Keyed s component_at n components
  pub apart : Apart components n
  pub list_keys : Keyed s list_place_at k lists
  pub lists-apart : Apart lists k
  pub filled : Filled s k
  pub default : DefaultNamed s n
  pub wires : Wires s n lists k components w

-- rows whose keys are apart have tags that are apart
rows_apart : {B : Type 0} (s : List ℕ) (at : ℕ → ℕ) (row : ℕ → Option (Tag × B)) (n : ℕ) (keys : List ℕ) → ((i : ℕ) (x : Tag × B) → row i ≡ some x → Tagged s (at i) x.0) → Keyed s at n keys → Apart keys n → RowsApart row n
rows_apart s at row n keys shows k a = record {
  differ = λ j h i l x y p q. tags-apart (shows i x p) (shows j y q) (λ e. a j h i l (k.each i (omega arith) ∙ e ∙ sym (k.each j h)));
}

module _ {s : List ℕ} {n k : ℕ} {components lists : List ℕ} {w : List (List Wire)} (c : Checked s n k components lists w) where
  model : Model
  model = c.held.held

  is : model_in s ≡ some model
  unfolding model
  is = c.held.is

  part : Parts s model
  part = parts s is

  count : n ≡ word s 8
  count = omega (arith, c.count, part.head.components)

  lists-count : k ≡ word s 16
  lists-count = omega (arith, c.lists-count, part.head.lists)

  cs : Built (entry_row s) n model.components
  cs = subst (λ (i : ℕ). Built (entry_row s) i model.components) (sym count) part.components

  ls : Built (list_row s) k model.lists
  ls = subst (λ (i : ℕ). Built (list_row s) i model.lists) (sym lists-count) part.lists

  cs_apart : RowsApart (entry_row s) n
  cs_apart = rows_apart s component_at (entry_row s) n components (λ i x p. (entry_shows s i x p).tag) c.keys c.apart

  ls_apart : RowsApart (list_row s) k
  ls_apart = rows_apart s list_place_at (list_row s) k lists (λ i x p. (list_shows s i x p).tag) c.list_keys c.lists-apart

  -- the row of a component
  record Standing (i : ℕ) : Type 0 where
    component : Component
    row : component_row s i ≡ some component
    found : find (tag_of s i) model.components ≡ some component
    tag : Tagged s (component_at i) (tag_of s i)

  standing : (i : ℕ) → i < n → Standing i
  standing i h =
      let r = built_row cs i h in
      let e = entry_shows s i r.0 r.1 in
      record {
        component = r.0.1;
        row = e.component;
        found = ap (λ (t : Tag). find t model.components) e.tag.is ∙ built_at cs cs_apart i r.0 h r.1;
        tag = subst (λ (t : Tag). Tagged s (component_at i) t) (sym e.tag.is) e.tag;
      }

  -- the list of a component, or that it has none
  list_there : (i o : ℕ) → o < k → text s (list_place_at o) ≡ tag_of s i → (x : Tag × List Place) × (list_row s o ≡ some x) × (find (tag_of s i) model.lists ≡ some x.1)
  list_there i o h e =
      let r = built_row ls o h in
      let t = (list_shows s o r.0 r.1).tag.is in
      (r.0, r.1, ap (λ (t : Tag). find t model.lists) (sym e ∙ t) ∙ built_at ls ls_apart o r.0 h r.1)

  list-missing : (i : ℕ) → i < n → ((j : ℕ) → j < k → get_or lists j 0 ≢ get_or components i 0) → find (tag_of s i) model.lists ≡ none
  list-missing i h f = built_none ls (tag_of s i) (λ j x l q.
      tags-apart (list_shows s j x q).tag (standing i h).tag (λ e. f j l (c.list_keys.each j l ∙ e ∙ sym (c.keys.each i h))))

  -- ---- 7

  counts : (i : ℕ) (d : Component) → i < n → component_row s i ≡ some d → T (counted (input_count d) (find (tag_of s i) model.lists))
  counts i d h e = go (c.wires.each i h)
    where
      of_none : (m : ℕ) (l : Option (List Place)) → m ≡ 0 → T (counted m l)
      of_none m l z = subst (λ (x : ℕ). T (counted x l)) (sym z) tt

      of_some : (m : ℕ) (l : List Place) → length l ≡ m → T (counted m (some l))
      of_some zero l q = tt
      of_some (suc m) l q = true→T _ (eq-eqb (length l) (suc m) q)

      go : Owned s n lists k (get_or components i 0) i (get_or w i []) → T (counted (input_count d) (find (tag_of s i) model.lists))
      go (unlisted f t q) = of_none (input_count d) (find (tag_of s i) model.lists) (t d e)
      go (listed o l q (inl t) f) = of_none (input_count d) (find (tag_of s i) model.lists) (t d e)
      go (listed o l q (inr t) f) =
          let r = list_there i o l q in
          subst (λ (x : Option (List Place)). T (counted (input_count d) x)) (sym r.2) (of_some (input_count d) r.0.1 ((list_shows s o r.0 r.1).count ∙ sym (t d e)))

  good-list : (j : ℕ) (x : Tag × List Place) → j < k → list_row s j ≡ some x → T (good_list x)
  good-list j x h e =
      let r = list_shows s j x e in
      and_T (leb 1 (length x.1)) (leb (length x.1) 3 && all short_place x.1) (le→leb 1 (length x.1) (omega (arith, c.filled j h, r.count)))
      (and_T (leb (length x.1) 3) (all short_place x.1) (le→leb (length x.1) 3 (omega (arith, r.few, r.count))) r.short)

  default-named : T (named model.components model.default)
  default-named = go c.default
    where
      go : (word s 24 ≡ 0) ⊎ ((r : ℕ) × PlaceNames s n 24 r) → T (named model.components model.default)
      go (inl z) = subst (λ (d : Option Tag). T (named model.components d)) (sym (place_unnamed s 24 z part.default)) tt
      go (inr (r, p)) =
          let q = place-named s 24 p.assigned part.default ∙ ap some (sym p.names.tag) in
          let t = standing r p.names.below in
          subst (λ (d : Option Tag). T (named model.components d)) (sym q) (found-held (tag_of s r) model.components (t.component, t.found))

  good : Good model
  good = record {
    few = omega (arith, built_length cs, count, part.head.components);
    few_lists = omega (arith, built_length ls, lists-count, part.head.lists);
    once = built_once cs cs_apart;
    once-lists = built_once ls ls_apart;
    short = λ t d e. let f = built_find cs t d e in (entry_shows s f.0 (t, d) f.2).tag.short;
    short-lists = λ t l e. let f = built_find ls t l e in (list_shows s f.0 (t, l) f.2).tag.short;
    places = λ t l e. let f = built_find ls t l e in good-list f.0 (t, l) f.1 f.2;
    counts = λ t d e.
        let f = built_find cs t d e in
        let r = entry_shows s f.0 (t, d) f.2 in
        subst (λ (u : Tag). T (counted (input_count d) (find u model.lists))) r.tag.is (counts f.0 d f.1 r.component);
    names = default-named;
  }

  -- ---- the wires

  -- what is to be shown of a list
  record Wired (i : ℕ) (l : List Place) : Type 0 where
    short : length l ≤ 3
    wired : (p : ℕ) → p < 3 → Leads s n l p (wire_at w i p)

  wired_by : (i : ℕ) → i < n → Wired i (inputs model (tag_of s i))
  wired_by i h = go (c.wires.each i h)
    where
      go : Owned s n lists k (get_or components i 0) i (get_or w i []) → Wired i (inputs model (tag_of s i))
      go (unlisted f t q) =
          subst (λ (x : List Place). Wired i x) (sym (ap (λ (x : Option (List Place)). Option.get_or x []) (list-missing i h f)))
          (record { short = omega arith; wired = λ p l. subst (Leads s n [] p) (sym (q p l)) (omega arith) })
      go (listed o l q t f) =
          let m = list_there i o l q in
          let r = list_shows s o m.0 m.1 in
          subst (λ (x : List Place). Wired i x) (sym (ap (λ (x : Option (List Place)). Option.get_or x []) m.2))
          (record { short = omega (arith, r.few, r.count); wired = λ p b. leads p (wire_at w i p) r (f p b) })
        where
          leads : {x : Tag × List Place} (p : ℕ) (v : Wire) → Row s o x → Stood s n o p v → Leads s n x.1 p v
          leads p (To v) r (b, f) = (f.names.below, omega (arith, b, r.count), place-named s (5744 + 168 * o + 40 * p) f.assigned (r.place p b) ∙ ap some (sym f.names.tag))
          leads p Past r b = omega (arith, b, r.count)
          leads p Open r b = b

  pub stands : Stands s n w
  stands = record {
    model = model;
    is = is;
    sound = good_valid model good;
    count = count;
    few = omega (arith, c.count);
    component = λ i d h e. let t = standing i h in t.found ∙ (sym t.row ∙ e);
    short = λ i h. (wired_by i h).short;
    wired = λ i p h l. (wired_by i h).wired p l;
  }
