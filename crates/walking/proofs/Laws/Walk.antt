-- The walk over rows of lists answers what the walk over tags is defined to. Assumes nothing.
use mathlib.Core.Path.{◌≡◌, refl, sym, ◌∙◌, ap, subst}
use mathlib.Core.Logic.{◌≢◌, ◌↔◌, ⊎_elim}
use mathlib.Core.Bool.{Bool, true, false, cond, ◌||◌}
use mathlib.Core.List.Memᴰ
use mathlib.Core.List.{List, [], ◌∷◌, ◌++◌, append_assoc, append-nil}
use mathlib.Core.Option
use mathlib.Core.Option.{Option, none, some}
use Prim.Native.Nat.{ℕ, zero, suc, ◌+◌}
use native.Mathlib.Nat.{add-suc}
use native.Mathlib.Omega.{arith}
use lib.ListN.{get_or}
use Rattle.tag.specs.Tags.{Tag, is}
use Rattle.tag.proofs.Laws.Is.{is_refl, is_true, is_false}
use Rattle.model.specs.Table.{any, Table, find}
use Rattle.model.specs.Model.{Place, Model, inputs}
use Rattle.model.specs.Walk.{gap, tags, fresh, Walked, clear, met, gapped, walk}
use Rattle.nodes.specs.Nodes.{◌∈◌}
use Rattle.walking.specs.Walking.{Row}

-- ---- the order in which tags were seen does not matter

fresh-same : (a b : List Tag) → ((t : Tag) → any (is t) a ≡ any (is t) b) → (ts : List Tag) → fresh a ts ≡ fresh b ts
unfolding fresh
fresh-same a b h [] = refl
fresh-same a b h (s ∷ ts) = rw (h s, fresh-same a b h ts, fresh-same (s ∷ a) (s ∷ b) (λ t. ap (λ (c : Bool). is t s || c) (h t)) ts)

any_append : (p : Tag → Bool) (f a b : List Tag) → any p a ≡ any p b → any p (f ++ a) ≡ any p (f ++ b)
any_append p [] a b h = h
any_append p (x ∷ f) a b h = ap (λ (c : Bool). p x || c) (any_append p f a b h)

any_mid : (p : Tag → Bool) (f : List Tag) (s : Tag) (g : List Tag) → any p (f ++ s ∷ g) ≡ any p (s ∷ (f ++ g))
any_mid p [] s g = refl
any_mid p (x ∷ f) s g = ap (λ (b : Bool). p x || b) (any_mid p f s g) ∙ turn (p x) (p s) (any p (f ++ g))
  where
    turn : (a b c : Bool) → a || (b || c) ≡ b || (a || c)
    turn true true c = refl
    turn true false c = refl
    turn false b c = refl

walk_same : (k : ℕ) (m : Model) (target : Tag) (a b : List Tag) → ((t : Tag) → any (is t) a ≡ any (is t) b) → (line : List Tag)
    → walk k m target a line ≡ walk k m target b line
unfolding walk
walk_same zero m target a b h line = refl
walk_same (suc k) m target a b h [] = refl
walk_same (suc k) m target a b h (t ∷ line) =
    let ts = tags (inputs m t) in
    let e = fresh-same a b h ts in
    ap (λ (w : Walked). elim (is t target) as (λ _. Walked) [ true ↦ met | false ↦ elim (gap 0 (inputs m t)) as (λ _. Walked) [ some i ↦ gapped t i | none ↦ w ] ])
    (ap (λ (f : List Tag). walk k m target (f ++ a) (line ++ f)) e
    ∙ walk_same k m target (fresh b ts ++ a) (fresh b ts ++ b) (λ s. any_append (is s) (fresh b ts) a b (h s)) (line ++ fresh b ts))

-- ---- a turn, place by place

-- what is left of t's turn from place i on, and the walk after it
unfoldable pub scan : ℕ → Model → Tag → Tag → List Tag → List Tag → ℕ → List Place → Walked
scan k m target t seen line i l =
    elim (gap i l) [ some j ↦ gapped t j | none ↦ walk k m target (fresh seen (tags l) ++ seen) (line ++ fresh seen (tags l)) ]

fresh_old : (seen : List Tag) (s : Tag) (ts : List Tag) → any (is s) seen ≡ true → fresh seen (s ∷ ts) ≡ fresh seen ts
unfolding fresh
fresh_old seen s ts e = ap (λ (b : Bool). cond b (fresh seen ts) (s ∷ fresh (s ∷ seen) ts)) e

fresh_new : (seen : List Tag) (s : Tag) (ts : List Tag) → any (is s) seen ≡ false → fresh seen (s ∷ ts) ≡ s ∷ fresh (s ∷ seen) ts
unfolding fresh
fresh_new seen s ts e = ap (λ (b : Bool). cond b (fresh seen ts) (s ∷ fresh (s ∷ seen) ts)) e

module _ (k : ℕ) (m : Model) (target t : Tag) (seen line : List Tag) (i : ℕ) where
  scan_gap : (l : List Place) → scan k m target t seen line i (none ∷ l) ≡ gapped t i
  unfolding scan gap
  scan_gap l = refl

  scan_end : scan k m target t seen line i [] ≡ walk k m target seen line
  unfolding scan gap tags fresh
  scan_end = ap (walk k m target seen) (append-nil line)

  scan_old : (s : Tag) (l : List Place) → any (is s) seen ≡ true → scan k m target t seen line i (some s ∷ l) ≡ scan k m target t seen line (suc i) l
  unfolding scan gap tags fresh
  scan_old s l e =
      ap (λ (f : List Tag). elim (gap (suc i) l) as (λ _. Walked) [ some j ↦ gapped t j | none ↦ walk k m target (f ++ seen) (line ++ f) ]) (fresh_old seen s (tags l) e)

  scan_new : (s : Tag) (l : List Place) → any (is s) seen ≡ false
      → scan k m target t seen line i (some s ∷ l) ≡ scan k m target t (s ∷ seen) (line ++ (s ∷ [])) (suc i) l
  unfolding scan gap tags fresh
  scan_new s l e =
      let f = fresh (s ∷ seen) (tags l) in
      ap (λ (w : Walked). elim (gap (suc i) l) as (λ _. Walked) [ some j ↦ gapped t j | none ↦ w ])
      (ap (λ (g : List Tag). walk k m target (g ++ seen) (line ++ g)) (fresh_new seen s (tags l) e) ∙ (walk_same k m target (s ∷ f ++ seen) (f ++ s ∷ seen) (λ x. sym (any_mid (is x) f s seen)) (line ++ s ∷ f)
      ∙ ap (walk k m target (f ++ s ∷ seen)) (sym (append_assoc line (s ∷ []) f))))

pub walk-nil : (k : ℕ) (m : Model) (target : Tag) (seen : List Tag) → walk k m target seen [] ≡ clear
unfolding walk
walk-nil zero m target seen = refl
walk-nil (suc k) m target seen = refl

module _ (k : ℕ) (m : Model) (target t : Tag) (seen line : List Tag) where
  turn_met : is t target ≡ true → walk (suc k) m target seen (t ∷ line) ≡ met
  unfolding walk
  turn_met e = rw (walk, e)

  turn_scan : is t target ≡ false → walk (suc k) m target seen (t ∷ line) ≡ scan k m target t seen line 0 (inputs m t)
  unfolding walk scan
  turn_scan e = rw (walk, e)

true-false : ◌≡◌ {A = Bool} true false → ⊥
true-false e = let z : ◌≡◌ {A = ℕ} 0 1 = cc in omega arith

-- ---- tags that wait, and the rows of those that have a list

pub data Rows (table : Table (List Place)) : List Tag → List ℕ → Type 0 where
  nothing : Rows table [] []
  absent : {t : Tag} {ts : List Tag} {rs : List ℕ} → find t table ≡ none → Rows table ts rs → Rows table (t ∷ ts) rs
  present : {t : Tag} {ts : List Tag} {r : ℕ} {rs : List ℕ} {l : List Place} → Row table r t l → Rows table ts rs → Rows table (t ∷ ts) (r ∷ rs)

rows-absent : {table : Table (List Place)} (s : Tag) → find s table ≡ none → (ts : List Tag) (rs : List ℕ) → Rows table ts rs → Rows table (ts ++ (s ∷ [])) rs
rows-absent s e ts rs nothing = absent e nothing
rows-absent s e ts rs (absent {ts = us} n h) = absent n (rows-absent s e us rs h)
rows-absent s e ts rs (present {ts = us} {rs = qs} x h) = present x (rows-absent s e us qs h)

rows-present : {table : Table (List Place)} {s : Tag} {q : ℕ} {l : List Place} → Row table q s l → (ts : List Tag) (rs : List ℕ) → Rows table ts rs
    → Rows table (ts ++ (s ∷ [])) (rs ++ (q ∷ []))
rows-present e ts rs nothing = present e nothing
rows-present e ts rs (absent {ts = us} n h) = absent n (rows-present e us rs h)
rows-present e ts rs (present {ts = us} {rs = qs} x h) = present x (rows-present e us qs h)

-- the rows whose tags have been seen are those that have been in the line
abbrev pub Marked : Table (List Place) → List Tag → List ℕ → Type 0
Marked table seen bs = (r : ℕ) (t : Tag) (l : List Place) → Row table r t l → (any (is t) seen ≡ true) ↔ (r ∈ bs)

-- the walk that answers a stands between two turns: the rows bs have been in the line, and rs wait
pub record Waits (m : Model) (target : Tag) (a : Walked) (bs rs : List ℕ) : Type 0 where
  pub turns : ℕ
  pub seen : List Tag
  pub line : List Tag
  pub answer : (d : ℕ) → walk (turns + d) m target seen line ≡ a
  pub marked : Marked m.lists seen bs
  pub rows : Rows m.lists line rs

-- it stands in the turn of t, whose places from i on are l
pub record Scans (m : Model) (target : Tag) (a : Walked) (t : Tag) (i : ℕ) (l : List Place) (bs rs : List ℕ) : Type 0 where
  pub turns : ℕ
  pub seen : List Tag
  pub line : List Tag
  pub answer : (d : ℕ) → scan (turns + d) m target t seen line i l ≡ a
  pub marked : Marked m.lists seen bs
  pub rows : Rows m.lists line rs

module _ (m : Model) (target : Tag) (a : Walked) (found : (r : ℕ) (t : Tag) (l : List Place) → Row m.lists r t l → find t m.lists ≡ some l)
    (listed : find target m.lists ≢ none) where
  -- a tag without a list is not the target, and nothing joins the line at its turn
  pub absent_turn : (k : ℕ) (t : Tag) (seen line : List Tag) → find t m.lists ≡ none → walk (suc k) m target seen (t ∷ line) ≡ walk k m target seen line
  absent_turn k t seen line e =
      turn_scan k m target t seen line (is_false t target (λ p. listed (ap (λ (x : Tag). find x m.lists) (sym p) ∙ e)))
      ∙ (ap (λ (o : Option (List Place)). scan k m target t seen line 0 (Option.get_or o [])) e ∙ scan_end k m target t seen line 0)

  next : {x : Walked} (turns d : ℕ) (seen line : List Tag) → walk (turns + suc d) m target seen line ≡ x → walk (suc (turns + d)) m target seen line ≡ x
  next {x} turns d seen line h = subst (λ (n : ℕ). walk n m target seen line ≡ x) (add-suc turns d) h

  -- nothing waits: the walk is clear
  pub waits_end : {bs : List ℕ} → Waits m target a bs [] → a ≡ clear
  waits_end w = go w.line w.rows w.answer
    where
      go : (line : List Tag) → Rows m.lists line [] → ((d : ℕ) → walk (w.turns + d) m target w.seen line ≡ a) → a ≡ clear
      go line nothing h = sym (h 0) ∙ walk-nil (w.turns + 0) m target w.seen
      go line (absent {t} {ts} e r) h = go ts r (λ d. sym (absent_turn (w.turns + d) t w.seen ts e) ∙ next w.turns d w.seen (t ∷ ts) (h (suc d)))

  -- the first that waits has its turn
  pub waits_first : {bs : List ℕ} {r : ℕ} {rs : List ℕ} → Waits m target a bs (r ∷ rs)
      → (t : Tag) × (l : List Place) × Row m.lists r t l × (is t target ≡ true → a ≡ met) × (is t target ≡ false → Scans m target a t 0 l bs rs)
  waits_first {bs} {r} {rs} w = go w.line w.rows w.answer
    where
      go : (line : List Tag) → Rows m.lists line (r ∷ rs) → ((d : ℕ) → walk (w.turns + d) m target w.seen line ≡ a)
          → (t : Tag) × (l : List Place) × Row m.lists r t l × (is t target ≡ true → a ≡ met) × (is t target ≡ false → Scans m target a t 0 l bs rs)
      go line (absent {t} {ts} e x) h = go ts x (λ d. sym (absent_turn (w.turns + d) t w.seen ts e) ∙ next w.turns d w.seen (t ∷ ts) (h (suc d)))
      go line (present {t} {ts} {l = l} x y) h =
          let step : (d : ℕ) → walk (suc (w.turns + d)) m target w.seen (t ∷ ts) ≡ a = λ d. next w.turns d w.seen (t ∷ ts) (h (suc d)) in (
            t,
            l,
            x,
            (λ e. sym (step 0) ∙ turn_met (w.turns + 0) m target t w.seen ts e),
            (λ e. record {
              turns = w.turns;
              seen = w.seen;
              line = ts;
              marked = w.marked;
              rows = y;
              answer = λ d. ap (λ (o : Option (List Place)). scan (w.turns + d) m target t w.seen ts 0 (Option.get_or o [])) (sym (found r t l x))
                  ∙ (sym (turn_scan (w.turns + d) m target t w.seen ts e) ∙ step d);
            }),
          )

  module _ (t : Tag) (i : ℕ) {bs rs : List ℕ} where
    -- a gap
    pub scans_gap : {l : List Place} → Scans m target a t i (none ∷ l) bs rs → a ≡ gapped t i
    scans_gap {l} s = sym (s.answer 0) ∙ scan_gap (s.turns + 0) m target t s.seen s.line i l

    -- the turn is over
    pub scans_end : Scans m target a t i [] bs rs → Waits m target a bs rs
    scans_end s = record {
      turns = s.turns;
      seen = s.seen;
      line = s.line;
      marked = s.marked;
      rows = s.rows;
      answer = λ d. sym (scan_end (s.turns + d) m target t s.seen s.line i) ∙ s.answer d;
    }

    module _ {u : Tag} {l : List Place} (s : Scans m target a t i (some u ∷ l) bs rs) where
      seen-before : any (is u) s.seen ≡ true → Scans m target a t (suc i) l bs rs
      seen-before e = record {
        turns = s.turns;
        seen = s.seen;
        line = s.line;
        marked = s.marked;
        rows = s.rows;
        answer = λ d. sym (scan_old (s.turns + d) m target t s.seen s.line i u l e) ∙ s.answer d;
      }

      seen_first : {cs qs : List ℕ} → any (is u) s.seen ≡ false → Marked m.lists (u ∷ s.seen) cs → Rows m.lists (s.line ++ (u ∷ [])) qs
          → Scans m target a t (suc i) l cs qs
      seen_first e k r = record {
        turns = s.turns;
        seen = u ∷ s.seen;
        line = s.line ++ (u ∷ []);
        marked = k;
        rows = r;
        answer = λ d. sym (scan_new (s.turns + d) m target t s.seen s.line i u l e) ∙ s.answer d;
      }

      -- a tag without a list: whether it has been seen makes no difference to the rows
      pub scans_absent : find u m.lists ≡ none → Scans m target a t (suc i) l bs rs
      scans_absent n = go (any (is u) s.seen) refl
        where
          other : (r : ℕ) (v : Tag) (k : List Place) → Row m.lists r v k → is v u ≡ false
          other r v k x = is_false v u (λ p. let z : ◌≡◌ {A = ℕ} 0 1 = cc (found r v k x, n, ap (λ (y : Tag). find y m.lists) p) in absurd (let y : ⊥ = omega arith in y))

          go : (b : Bool) → any (is u) s.seen ≡ b → Scans m target a t (suc i) l bs rs
          go true e = seen-before e
          go false e = seen_first e (λ r v k x. subst (λ (b : Bool). (b || any (is v) s.seen ≡ true) ↔ (r ∈ bs)) (sym (other r v k x)) (s.marked r v k x)) (rows-absent u n s.line rs s.rows)

      pub scans_again : {q : ℕ} {k : List Place} → Row m.lists q u k → q ∈ bs → Scans m target a t (suc i) l bs rs
      scans_again {q} {k} x e = seen-before ((s.marked q u k x).1 e)

      pub scans_joins : (apart : (r q : ℕ) (v : Tag) (j k : List Place) → Row m.lists r v j → Row m.lists q v k → r ≡ q)
          → {q : ℕ} {k : List Place} → Row m.lists q u k → ¬ (q ∈ bs) → Scans m target a t (suc i) l (bs ++ (q ∷ [])) (rs ++ (q ∷ []))
      scans_joins apart {q} {k} x new = seen_first (unseen (any (is u) s.seen) refl) marked (rows-present x s.line rs s.rows)
        where
          unseen : (b : Bool) → any (is u) s.seen ≡ b → b ≡ false
          unseen true e = absurd (new ((s.marked q u k x).0 e))
          unseen false e = refl

          marked : Marked m.lists (u ∷ s.seen) (bs ++ (q ∷ []))
          marked r v j y = go (is v u) refl
            where
              go : (b : Bool) → is v u ≡ b → (b || any (is v) s.seen ≡ true) ↔ (r ∈ bs ++ (q ∷ []))
              go true p = ((λ e. Memᴰ.append_right bs (Memᴰ.head (apart r q v j k y (subst (λ (w : Tag). Row m.lists q w k) (sym (is_true v u p)) x)))), (λ e. refl))
              go false p = (
                (λ e. Memᴰ.append_left (q ∷ []) ((s.marked r v j y).0 e)),
                (λ e. ⊎_elim (s.marked r v j y).1 (λ f. absurd (differ (Memᴰ.eq_of_singleton f))) (Memᴰ.append_cases bs e)),
              )
                where
                  differ : r ≡ q → ⊥
                  differ z =
                      let same : v ≡ u = ap (λ (w : Tag × List Place). w.0) (sym (y.entry (u, k)) ∙ (ap (λ (n : ℕ). get_or m.lists n (u, k)) z ∙ x.entry (u, k))) in
                      let w : ◌≡◌ {A = Bool} true false = sym (is_refl u) ∙ (ap (λ (b : Tag). is b u) (sym same) ∙ p) in
                      true-false w
