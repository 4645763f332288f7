-- Document 01's walk of `add_input`: it ends by itself; it meets the tags that the source reaches, each once and no other; and it stops at the first of them that is the target (14) or has a gap (13). Assumes nothing.
use mathlib.Core.Path.{◌≡◌, refl, sym, ◌∙◌, ap, subst}
use mathlib.Core.Logic.{◌⊎◌, inl, inr, ⊎_elim, ◌≢◌}
use mathlib.Core.Bool.{Bool, true, false}
use mathlib.Core.List.{List, [], ◌∷◌, ◌++◌, Memᴰ}
use mathlib.Core.Option.{Option, none, some}
use Prim.Native.Nat.{ℕ, zero, suc, ◌+◌, ◌≤◌}
use native.Mathlib.Omega.{arith}
use lib.ListN.{length, length-append}
use Rattle.tag.specs.Tags.{Tag, is}
use Rattle.tag.proofs.Laws.Is.{is_refl, is_true}
use Rattle.model.specs.Model.{Place, Model, inputs}
use Rattle.model.specs.Walk.{gap, tags, fresh, Walked, clear, met, gapped, walk, total, walk_from}
use Rattle.model.specs.Form.{Wire, Reach, here, along, Gapped}
use Rattle.model.proofs.Laws.Bool.{true→T}
use Rattle.model.proofs.Laws.Valid.{none_some}
use Rattle.model.proofs.Laws.Line.{lefts, fresh-inputs, lefts_total, enough}
use Rattle.model.proofs.Laws.Fresh.{fresh_new, fresh_of, fresh-once, fresh-all, once-both}
use Rattle.model.proofs.Laws.Once.{Once, no_tag, one_more}
use Rattle.model.proofs.Laws.Reach.{wire-named, named-wire}
use Rattle.model.proofs.Theorems.Order.{Holds}

-- ---- the walk ends by itself

-- d more turns than the definition gives change nothing
pub walk_ends : (d : ℕ) (m : Model) (target source : Tag)
    → walk (d + suc (suc (total m.lists))) m target (source ∷ []) (source ∷ []) ≡ walk_from m target source
unfolding walk_from
walk_ends zero m target source =
    let b = suc (suc (total m.lists)) in
    let e : 0 + b ≡ b = omega arith in
    ap (λ (k : ℕ). walk k m target (source ∷ []) (source ∷ [])) e
walk_ends (suc d) m target source =
    let b = suc (suc (total m.lists)) in
    let e : suc d + b ≡ suc (d + b) = omega arith in
    ap (λ (k : ℕ). walk k m target (source ∷ []) (source ∷ [])) e
    ∙ (sym (enough (d + b) m target (source ∷ []) (source ∷ []) (omega (arith, lefts_total (source ∷ []) m.lists))) ∙ walk_ends d m target source)

-- ---- what the walk meets, turn by turn

-- the tags met, were there no target and no gap
unfoldable pub turns : ℕ → Model → List Tag → List Tag → List Tag
turns zero m seen line = []
turns (suc k) m seen [] = []
turns (suc k) m seen (t ∷ line) = let more = fresh seen (tags (inputs m t)) in t ∷ turns k m (more ++ seen) (line ++ more)

-- one turn, at a tag that is the target or not and has a first gap or none: else what follows
abbrev pub turn : Tag → Walked → Bool → Option ℕ → Walked
turn t w true g = met
turn t w false (some i) = gapped t i
turn t w false none = w

-- the first of the tags that is the target or has a gap
unfoldable pub look : Model → Tag → List Tag → Walked
look m target [] = clear
look m target (t ∷ ts) = turn t (look m target ts) (is t target) (gap 0 (inputs m t))

unfoldable pub meets : Model → Tag → List Tag
meets m source = turns (suc (suc (total m.lists))) m (source ∷ []) (source ∷ [])

looks : (k : ℕ) (m : Model) (target : Tag) (seen line : List Tag) → walk k m target seen line ≡ look m target (turns k m seen line)
unfolding walk turns look
looks zero m target seen line = refl
looks (suc k) m target seen [] = refl
looks (suc k) m target seen (t ∷ line) =
    go (is t target) (gap 0 (inputs m t)) (looks k m target (fresh seen (tags (inputs m t)) ++ seen) (line ++ fresh seen (tags (inputs m t))))
  where
    go : (b : Bool) (g : Option ℕ) {w v : Walked} → w ≡ v
        → elim b as (λ _. Walked) [ true ↦ met | false ↦ elim g as (λ _. Walked) [ some i ↦ gapped t i | none ↦ w ] ] ≡ turn t v b g
    go true g e = refl
    go false (some i) e = refl
    go false none e = e

pub walk_looks : (m : Model) (target source : Tag) → walk_from m target source ≡ look m target (meets m source)
unfolding walk_from meets
walk_looks m target source = looks (suc (suc (total m.lists))) m target (source ∷ []) (source ∷ [])

-- every tag of k is in l
abbrev Within : List Tag → List Tag → Type 0
Within k l = (a : Tag) → Memᴰ a k → Memᴰ a l

module _ (m : Model) where
  -- the tags that t brings into the line
  abbrev more : List Tag → Tag → List Tag
  more seen t = fresh seen (tags (inputs m t))

  within_more : {t : Tag} (seen line : List Tag) → Within (t ∷ line) seen → Within (line ++ more seen t) (more seen t ++ seen)
  within_more {t} seen line w a i =
      ⊎_elim (λ j. mathlib.Core.List.Memᴰ.append_right (more seen t) (w a (mathlib.Core.List.Memᴰ.tail j))) (λ j. mathlib.Core.List.Memᴰ.append_left seen j) (mathlib.Core.List.Memᴰ.append_cases line i)

  -- a tag met later waits in line, or has not been in it
  later : (k : ℕ) (seen line : List Tag) → Within line seen → (a : Tag) → Memᴰ a (turns k m seen line) → Memᴰ a line ⊎ (¬ Memᴰ a seen)
  unfolding turns
  later zero seen line w a i = elim i [ ]
  later (suc k) seen [] w a i = elim i [ ]
  later (suc k) seen (t ∷ line) w a (mathlib.Core.List.Memᴰ.head e) = inl (mathlib.Core.List.Memᴰ.head e)
  later (suc k) seen (t ∷ line) w a (mathlib.Core.List.Memᴰ.tail i) =
      ⊎_elim (λ j. ⊎_elim (λ x. inl (mathlib.Core.List.Memᴰ.tail x)) (λ x. inr (fresh_new seen (tags (inputs m t)) x)) (mathlib.Core.List.Memᴰ.append_cases line j))
      (λ n. inr (λ j. n (mathlib.Core.List.Memᴰ.append_right (more seen t) j))) (later k (more seen t ++ seen) (line ++ more seen t) (within_more seen line w) a i)

  turns_once : (k : ℕ) (seen line : List Tag) → Once line → Within line seen → Once (turns k m seen line)
  unfolding turns
  turns_once zero seen line o w = no_tag
  turns_once (suc k) seen [] o w = no_tag
  turns_once (suc k) seen (t ∷ line) (one_more n o) w =
      let here-seen : Memᴰ t seen = w t (mathlib.Core.List.Memᴰ.head refl) in
      let new : ¬ Memᴰ t (more seen t) = λ i. fresh_new seen (tags (inputs m t)) i here-seen in
      one_more
      (λ i. ⊎_elim (λ j. ⊎_elim n new (mathlib.Core.List.Memᴰ.append_cases line j)) (λ z. z (mathlib.Core.List.Memᴰ.append_right (more seen t) here-seen))
      (later k (more seen t ++ seen) (line ++ more seen t) (within_more seen line w) t i))
      (turns_once k (more seen t ++ seen) (line ++ more seen t)
      (once-both o (fresh-once seen (tags (inputs m t))) (λ a i j. fresh_new seen (tags (inputs m t)) j (w a (mathlib.Core.List.Memᴰ.tail i)))) (within_more seen line w))

  -- only tags that the source reaches are met
  turns_reached : {s : Tag} (k : ℕ) (seen line : List Tag) → ((a : Tag) → Memᴰ a line → Reach m s a) → (a : Tag) → Memᴰ a (turns k m seen line) → Reach m s a
  unfolding turns
  turns_reached zero seen line r a i = elim i [ ]
  turns_reached (suc k) seen [] r a i = elim i [ ]
  turns_reached (suc k) seen (t ∷ line) r a (mathlib.Core.List.Memᴰ.head e) = r a (mathlib.Core.List.Memᴰ.head e)
  turns_reached (suc k) seen (t ∷ line) r a (mathlib.Core.List.Memᴰ.tail i) =
      turns_reached k (more seen t ++ seen) (line ++ more seen t)
      (λ b j. ⊎_elim (λ x. r b (mathlib.Core.List.Memᴰ.tail x)) (λ x. along (r t (mathlib.Core.List.Memᴰ.head refl)) (named-wire (inputs m t) (fresh_of seen (tags (inputs m t)) x)))
      (mathlib.Core.List.Memᴰ.append_cases line j)) a i

  -- the turns suffice for the places left and the tags waiting
  abbrev Enough : ℕ → List Tag → List Tag → Type 0
  Enough k seen line = lefts seen m.lists + length line ≤ k

  enough_next : (k : ℕ) (seen : List Tag) (t : Tag) (line : List Tag) → Enough (suc k) seen (t ∷ line) → Enough k (more seen t ++ seen) (line ++ more seen t)
  enough_next k seen t line h = omega (arith, fresh-inputs m t seen, length-append line (more seen t))

  turns_line : (k : ℕ) (seen line : List Tag) → Enough k seen line → Within line (turns k m seen line)
  unfolding turns
  turns_line zero seen [] h a i = elim i [ ]
  turns_line zero seen (t ∷ line) h a i = absurd (omega arith)
  turns_line (suc k) seen [] h a i = elim i [ ]
  turns_line (suc k) seen (t ∷ line) h a (mathlib.Core.List.Memᴰ.head e) = mathlib.Core.List.Memᴰ.head e
  turns_line (suc k) seen (t ∷ line) h a (mathlib.Core.List.Memᴰ.tail i) =
      mathlib.Core.List.Memᴰ.tail (turns_line k (more seen t ++ seen) (line ++ more seen t) (enough_next k seen t line h) a (mathlib.Core.List.Memᴰ.append_left (more seen t) i))

  -- an input of a tag met is met too, or has been in the line
  turns_wire : (k : ℕ) (seen line : List Tag) → Enough k seen line → (a b : Tag) → Memᴰ a (turns k m seen line) → Wire m a b
      → Memᴰ b seen ⊎ Memᴰ b (turns k m seen line)
  unfolding turns
  turns_wire zero seen line h a b i w = elim i [ ]
  turns_wire (suc k) seen [] h a b i w = elim i [ ]
  turns_wire (suc k) seen (t ∷ line) h a b (mathlib.Core.List.Memᴰ.head e) w =
      ⊎_elim inl (λ j. inr (mathlib.Core.List.Memᴰ.tail (turns_line k (more seen t ++ seen) (line ++ more seen t) (enough_next k seen t line h) b (mathlib.Core.List.Memᴰ.append_right line j))))
      (fresh-all seen (tags (inputs m t)) (wire-named (inputs m t) (subst (λ (x : Tag). Wire m x b) e w)))
  turns_wire (suc k) seen (t ∷ line) h a b (mathlib.Core.List.Memᴰ.tail i) w =
      ⊎_elim
      (λ j. ⊎_elim (λ x. inr (mathlib.Core.List.Memᴰ.tail (turns_line k (more seen t ++ seen) (line ++ more seen t) (enough_next k seen t line h) b (mathlib.Core.List.Memᴰ.append_right line x)))) inl
      (mathlib.Core.List.Memᴰ.append_cases (more seen t) j))
      (λ j. inr (mathlib.Core.List.Memᴰ.tail j)) (turns_wire k (more seen t ++ seen) (line ++ more seen t) (enough_next k seen t line h) a b i w)

  module _ (source : Tag) where
    suffices : Enough (suc (suc (total m.lists))) (source ∷ []) (source ∷ [])
    suffices = omega (arith, lefts_total (source ∷ []) m.lists)

    meets-reach : (a : Tag) → Reach m source a → Memᴰ a (meets m source)
    unfolding meets
    meets-reach a here = turns_line (suc (suc (total m.lists))) (source ∷ []) (source ∷ []) suffices source (mathlib.Core.List.Memᴰ.head refl)
    meets-reach a (along {a = b} r w) =
        ⊎_elim (λ i. mathlib.Core.List.Memᴰ.cast (mathlib.Core.List.Memᴰ.eq_of_singleton i) (turns_line (suc (suc (total m.lists))) (source ∷ []) (source ∷ []) suffices source (mathlib.Core.List.Memᴰ.head refl)))
        (λ i. i) (turns_wire (suc (suc (total m.lists))) (source ∷ []) (source ∷ []) suffices b a (meets-reach b r) w)

    -- the walk meets the tags that the source reaches, each once, and no other
    pub walk_meets : Holds m source (meets m source)
    unfolding meets
    walk_meets = record {
      once = turns_once (suc (suc (total m.lists))) (source ∷ []) (source ∷ []) (one_more (λ i. elim i [ ]) no_tag) (λ a i. i);
      exactly = λ a. (
        turns_reached (suc (suc (total m.lists))) (source ∷ []) (source ∷ []) (λ b i. subst (Reach m source) (sym (mathlib.Core.List.Memᴰ.eq_of_singleton i)) here) a,
        meets-reach a,
      );
    }

-- ---- what its end says

clear_met : {A : Type 0} → clear ≡ met → A
clear_met e = let z : ◌≡◌ {A = ℕ} 0 1 = cc in absurd (omega arith)

clear-gapped : {A : Type 0} {a : Tag} {i : ℕ} → clear ≡ gapped a i → A
clear-gapped e = let z : ◌≡◌ {A = ℕ} 0 1 = cc in absurd (omega arith)

gapped_met : {A : Type 0} {a : Tag} {i : ℕ} → gapped a i ≡ met → A
gapped_met e = let z : ◌≡◌ {A = ℕ} 0 1 = cc in absurd (omega arith)

look_met : (m : Model) (target : Tag) (ts : List Tag) → look m target ts ≡ met → Memᴰ target ts
unfolding look
look_met m target [] e = clear_met e
look_met m target (t ∷ ts) e = go (look_met m target ts) (is t target) refl (gap 0 (inputs m t)) e
  where
    go : (look m target ts ≡ met → Memᴰ target ts) → (b : Bool) → is t target ≡ b → (g : Option ℕ) → turn t (look m target ts) b g ≡ met → Memᴰ target (t ∷ ts)
    go ih true q g e = mathlib.Core.List.Memᴰ.head (sym (is_true t target q))
    go ih false q (some i) e = gapped_met e
    go ih false q none e = mathlib.Core.List.Memᴰ.tail (ih e)

look-gapped : (m : Model) (target : Tag) {a : Tag} {i : ℕ} (ts : List Tag) → look m target ts ≡ gapped a i → Memᴰ a ts × (gap 0 (inputs m a) ≡ some i)
unfolding look
look-gapped m target [] e = clear-gapped e
look-gapped m target {a} {i} (t ∷ ts) e = go (look-gapped m target ts) (is t target) (gap 0 (inputs m t)) refl e
  where
    go : (look m target ts ≡ gapped a i → Memᴰ a ts × (gap 0 (inputs m a) ≡ some i)) → (b : Bool) (g : Option ℕ) → gap 0 (inputs m t) ≡ g
        → turn t (look m target ts) b g ≡ gapped a i → Memᴰ a (t ∷ ts) × (gap 0 (inputs m a) ≡ some i)
    go ih true g q e = gapped_met (sym e)
    go ih false (some j) q e =
        let x : t ≡ a = cc in
        let y : j ≡ i = cc in
        (mathlib.Core.List.Memᴰ.head (sym x), ap (λ (z : Tag). gap 0 (inputs m z)) (sym x) ∙ (q ∙ ap some y))
    go ih false none q e = let x = ih e in (mathlib.Core.List.Memᴰ.tail x.0, x.1)

look-clear : (m : Model) (target : Tag) (ts : List Tag) → look m target ts ≡ clear → (a : Tag) → Memᴰ a ts → (a ≢ target) × (gap 0 (inputs m a) ≡ none)
unfolding look
look-clear m target [] e a i = elim i [ ]
look-clear m target (t ∷ ts) e a i = go (λ e j. look-clear m target ts e a j) (is t target) refl (gap 0 (inputs m t)) refl e i
  where
    go : (look m target ts ≡ clear → Memᴰ a ts → (a ≢ target) × (gap 0 (inputs m a) ≡ none)) → (b : Bool) → is t target ≡ b → (g : Option ℕ) → gap 0 (inputs m t) ≡ g
        → turn t (look m target ts) b g ≡ clear → Memᴰ a (t ∷ ts) → (a ≢ target) × (gap 0 (inputs m a) ≡ none)
    go ih true p g q e i = clear_met (sym e)
    go ih false p (some j) q e i = clear-gapped (sym e)
    go ih false p none q e (mathlib.Core.List.Memᴰ.head x) =
        (λ y. true→T false (sym p ∙ (ap (λ (z : Tag). is z target) (sym x ∙ y) ∙ is_refl target)), ap (λ (z : Tag). gap 0 (inputs m z)) x ∙ q)
    go ih false p none q e (mathlib.Core.List.Memᴰ.tail i) = ih e i

-- a list has no gap where no place is unassigned
gap_none : (i : ℕ) (l : List Place) → gap i l ≡ none → ¬ Memᴰ none l
unfolding gap
gap_none i [] e j = elim j [ ]
gap_none i (none ∷ l) e j = none_some (sym e)
gap_none i (some t ∷ l) e (mathlib.Core.List.Memᴰ.head q) = none_some q
gap_none i (some t ∷ l) e (mathlib.Core.List.Memᴰ.tail j) = gap_none (suc i) l e j

module _ (m : Model) (target source : Tag) where
  -- 14 is answered only where the source reaches the target
  pub walk_met : walk_from m target source ≡ met → Reach m source target
  walk_met e = ((walk_meets m source).exactly target).0 (look_met m target (meets m source) (sym (walk_looks m target source) ∙ e))

  -- 13 carries a tag that the source reaches, and the lowest index of its unassigned places
  pub walk-gapped : {a : Tag} {i : ℕ} → walk_from m target source ≡ gapped a i → Reach m source a × (gap 0 (inputs m a) ≡ some i)
  walk-gapped {a} e =
      let x = look-gapped m target (meets m source) (sym (walk_looks m target source) ∙ e) in
      (((walk_meets m source).exactly a).0 x.0, x.1)

  -- a wire is taken only where the source does not reach the target, and reaches no unassigned place
  pub walk-clear : walk_from m target source ≡ clear → (¬ Reach m source target) × ((a : Tag) → ¬ Gapped m source a)
  walk-clear e =
      let x = look-clear m target (meets m source) (sym (walk_looks m target source) ∙ e) in (
        λ r. (x target (((walk_meets m source).exactly target).1 r)).0 refl,
        λ a g. gap_none 0 (inputs m a) (x a (((walk_meets m source).exactly a).1 g.0)).1 g.1,
      )
