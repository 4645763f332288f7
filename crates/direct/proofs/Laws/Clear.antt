-- Rows that have all their inputs among them, and not the target: the walk from one of them is clear. Assumes nothing.
use Prim.Native.Nat.{ℕ, suc, ◌<◌}
use native.Mathlib.Omega.{arith}
use native.Mathlib.Decide.{ℕ_discrete}
use mathlib.Core.Path.{◌≡◌, refl, sym, ap, subst, ◌∙◌}
use mathlib.Core.Logic.{◌≢◌}
use mathlib.Core.Bool.{Bool, true, false}
use mathlib.Core.List.{List, [], ◌∷◌, Memᴰ}
use mathlib.Core.Option.{none, some}
use lib.Ieee.{nan}
use lib.ListN.{length, get_or, set, replicate}
use lib.Seq.{get_or-set_same, get_or-set_other}
use Rattle.tag.specs.Tags.{Tag}
use Rattle.component.specs.declared.model_component.Component.{Component}
use Rattle.component.specs.declared.model_component.Component.TheVariants.{Constant}
use Rattle.model.specs.Model.{Place, inputs}
use Rattle.model.specs.Walk.{gap, Walked, clear, met, gapped, walk_from}
use Rattle.model.specs.Form.{Wire as Leads, Reach, here, along}
use Rattle.model.proofs.Laws.Valid.{some_some, none_some, good}
use Rattle.model.proofs.Theorems.Walk.{walk_met, walk-gapped}
use Rattle.held.proofs.Laws.Changes.{rows_apart}
use Rattle.finding.specs.Rows.{tag_of}
use Rattle.standing.specs.declared.Wire.{Wire}
use Rattle.standing.specs.declared.Wire.TheVariants.{To, Past, Open}
use Rattle.standing.specs.Standing.{wire_at, Stands}
use Rattle.direct.specs.Along.{Served, Ready}
use Rattle.direct.proofs.Laws.Ready.{at_first, serves}
use Rattle.standing.proofs.Laws.Rows.{built_length, built_get_d}
use Rattle.standing.proofs.Laws.Model.{parts, entry_shows}

-- ---- a set of rows, grown

-- each row that is done is not the target, and has its places served
pub record Closed (w : List (List Wire)) (done : List Bool) (n target : ℕ) : Type 0 where
  pub each : (x : ℕ) → get_or done x false ≡ true → (x ≢ target) × Ready w done n x

pub closed_none : {w : List (List Wire)} {n target : ℕ} → Closed w (replicate 64 false) n target
closed_none = record { each = λ x e. let z : ⊥ = cc (at_first false 64 x) in absurd z }

module _ {w : List (List Wire)} {done : List Bool} {n target x : ℕ} (k : Closed w done n target) (h : x < length done) (r : Ready w done n x) where
  served_still : (v : Wire) → Served done v → Served (set done x true) v
  served_still (To i) d = go (ℕ_discrete i x)
    where
      go : Dec (i ≡ x) → get_or (set done x true) i false ≡ true
      go (yes q) = ap (λ (j : ℕ). get_or (set done x true) j false) q ∙ get_or-set_same done x true false h
      go (no q) = get_or-set_other done x i true false q ∙ d
  served_still Past d = d
  served_still Open d = d

  ready_still : (y : ℕ) → Ready w done n y → Ready w (set done x true) n y
  ready_still y q = record { below = q.below; each = λ p l. served_still (wire_at w y p) (q.each p l) }

  pub closed-more : x ≢ target → Closed w (set done x true) n target
  closed-more a = record { each = λ y d. go y d (ℕ_discrete y x) }
    where
      go : (y : ℕ) → get_or (set done x true) y false ≡ true → Dec (y ≡ x) → (y ≢ target) × Ready w (set done x true) n y
      go y d (yes q) = subst (λ (z : ℕ). (z ≢ target) × Ready w (set done x true) n z) (sym q) (a, ready_still x r)
      go y d (no q) = let p = k.each y (sym (get_or-set_other done x y true false q) ∙ d) in (p.0, ready_still y p.1)

-- ---- what is reached from it

-- a place of a list stands at an index
member_at : {o : Place} (l : List Place) → Memᴰ o l → (q : ℕ) × (q < length l) × (get_or l q none ≡ o)
member_at [] i = elim i [ ]
member_at (x ∷ l) (Memᴰ.head e) = (0, omega arith, sym e)
member_at (x ∷ l) (Memᴰ.tail i) = let r = member_at l i in (suc r.0, omega (arith, r.1), r.2)

gap_at : {i : ℕ} (k : ℕ) (l : List Place) → gap k l ≡ some i → (q : ℕ) × (q < length l) × (get_or l q none ≡ none)
unfolding gap
gap_at k [] e = none_some e
gap_at k (none ∷ l) e = (0, omega arith, refl)
gap_at k (some t ∷ l) e = let r = gap_at (suc k) l e in (suc r.0, omega (arith, r.1), r.2)

module _ {s : List ℕ} {w : List (List Wire)} {done : List Bool} {n target : ℕ} (from : ℕ) (k : Closed w done n target) (marked : get_or done from false ≡ true) (g : Stands s n w) where
  -- the row of a tag that is reached
  record RowOf (a : Tag) : Type 0 where
    row : ℕ
    in_set : get_or done row false ≡ true
    tag : tag_of s row ≡ a

  reached : {a : Tag} → Reach g.model (tag_of s from) a → RowOf a
  reached here = record { row = from; in_set = marked; tag = refl }
  reached {a} (along {a = b} r i) =
      let x = reached r in
      let l = member_at (inputs g.model (tag_of s x.row)) (subst (λ (t : Tag). Leads g.model t a) (sym x.tag) i) in
      let v = serves (k.each x.row x.in_set).1 g l.0 l.1 in
      record { row = v.row; in_set = v.marked; tag = some_some (sym v.named ∙ l.2) }

  -- rows below n are one where their tags are
  row_once : (x y : ℕ) → x < n → y < n → tag_of s x ≡ tag_of s y → x ≡ y
  row_once x y h l e =
      let p = parts s g.is in
      let d : Tag × Component = ([], Constant nan) in
      let tag : (i : ℕ) → i < n → tag_of s i ≡ (get_or g.model.components i d).0 =
      λ i m. (entry_shows s i (get_or g.model.components i d) (built_get_d p.components d i (omega (arith, g.count)))).tag.is in
      rows_apart d g.model.components x y (good g.model g.sound).once (omega (arith, g.count, built_length p.components)) (omega (arith, g.count, built_length p.components))
      (sym (tag x h) ∙ e ∙ tag y l)

  pub walk_is_clear : target < n → walk_from g.model (tag_of s target) (tag_of s from) ≡ clear
  walk_is_clear t = go (walk_from g.model (tag_of s target) (tag_of s from)) refl
    where
      go : (o : Walked) → walk_from g.model (tag_of s target) (tag_of s from) ≡ o → o ≡ clear
      go clear e = refl
      go met e =
          let x = reached (walk_met g.model (tag_of s target) (tag_of s from) e) in
          let r = k.each x.row x.in_set in
          absurd (r.0 (row_once x.row target r.1.below t x.tag))
      go (gapped a i) e =
          let h = walk-gapped g.model (tag_of s target) (tag_of s from) e in
          let x = reached h.0 in
          let l = gap_at 0 (inputs g.model (tag_of s x.row)) (ap (λ (b : Tag). gap 0 (inputs g.model b)) x.tag ∙ h.1) in
          none_some (sym l.2 ∙ (serves (k.each x.row x.in_set).1 g l.0 l.1).named)
