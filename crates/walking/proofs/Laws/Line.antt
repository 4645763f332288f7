-- The walk in the code, step by step. Assumes nothing.
use mathlib.Core.Path.{◌≡◌, refl, sym, ◌∙◌, ap, subst}
use mathlib.Core.Logic.{◌≢◌, ◌↔◌, ⊎_elim}
use mathlib.Core.Bool.{Bool, true, false, ◌||◌, true≢false}
use mathlib.Core.List.Memᴰ
use mathlib.Core.List.{List, [], ◌∷◌, ◌++◌}
use mathlib.Core.Option.{none, some}
use Prim.Native.Nat.{ℕ, suc, ◌+◌, ◌<◌, ◌≤◌}
use native.Mathlib.Nat.{add_comm}
use native.Mathlib.Numerals.{add-one}
use native.Mathlib.Omega.{arith}
use lib.Dec.{T}
use lib.ListN.{length, get_or, get_or-map, length-map, length-append, take, drop, drop_of_length-le}
use lib.Seq.{drop-cons, drop-append-le}
use Rattle.tag.specs.declared.Tag.{Tag as Label}
use Rattle.tag.specs.Tags.{Tag, is}
use Rattle.tag.specs.View.{bytes_of}
use Rattle.tag.proofs.Laws.Is.{is_refl, is_true, is_false}
use Rattle.model.specs.declared.implicit_model.Model.{Model as Record}
use Rattle.model.specs.declared.implicit_model.InputList.{InputList}
use Rattle.model.specs.Table.{Table, find, distinct}
use Rattle.model.specs.Model.{Place}
use Rattle.model.specs.View.{PlaceRecord, place_of, rows, list_of, lists_of, view, passes}
use Rattle.model.specs.Walk.{Walked, clear, met, gapped, walk, walk_from, total}
use Rattle.held.proofs.Laws.Rows.{rows-length, rows_at}
use Rattle.std.specs.Prelude.{Option, Some, None, Result, Ok, Err}
use Rattle.std.proofs.lemmas.List.{get_or_default}
use Rattle.held.specs.Search.{Sought}
use Rattle.held.proofs.Laws.Search.{row}
use Rattle.held.proofs.Laws.Changes.{find_at, rows_apart}
use Rattle.held.proofs.Laws.Standing.{standing}
use Rattle.model.proofs.Theorems.Walk.{walk_ends}
use Rattle.nodes.specs.Nodes.{◌∈◌, Pushed, stayed, joined}
use Rattle.nodes.proofs.Laws.Lists.{pushed_new, At}
use Rattle.walking.specs.Walking.{Row, Joined, absent, again, joins, Walkable, Startable, tag_at, Walks, Wires, Says}
use Rattle.walking.specs.declared.Blocked.{Blocked}
use Rattle.walking.specs.declared.Blocked.TheVariants.{Target, Gap}
use Rattle.walking.proofs.Laws.Walk.{nothing, present, Waits, Scans, walk-nil, absent_turn, waits_end, waits_first, scans_gap, scans_end, scans_absent, scans_again, scans_joins}

-- ---- rows

-- the row of the code's table
pub row_of : {A B : Type 0} (g : A → Tag × B) (table : List A) (n i : ℕ) (d : A) → i < length (rows g n table) → Row (rows g n table) i (g (get_or table i d)).0 (g (get_or table i d)).1
row_of g table n i d h = record { within = h; entry = λ e. get_or_default (rows g n table) i e (g d) h ∙ rows_at g table n i d h }

pub row_tag_at : (table : Table (List Place)) (r : ℕ) → r < length table → Row table r (tag_at table r) (get_or table r ([], [])).1
row_tag_at table r h = record { within = h; entry = λ d. get_or_default table r d ([], []) h }

module _ {A : Type 0} (table : Table A) (once : T (distinct table)) where
  pub row_found : (r : ℕ) (t : Tag) (a : A) → Row table r t a → find t table ≡ some a
  row_found r t a x =
      subst (λ (e : Tag × A). find e.0 table ≡ some e.1) (x.entry (t, a)) (find_at (t, a) table r once x.within)

  pub row_apart : (r q : ℕ) (t : Tag) (a b : A) → Row table r t a → Row table q t b → r ≡ q
  row_apart r q t a b x y =
      rows_apart (t, a) table r q once x.within y.within (ap (λ (e : Tag × A). e.0) (x.entry (t, a)) ∙ sym (ap (λ (e : Tag × A). e.0) (y.entry (t, a))))

-- ---- between two turns, and in a turn

-- the walk between the tags of two rows
abbrev answer : Record → ℕ → ℕ → Walked
answer m target from = walk_from (view m) (tag_at (lists_of m) target) (tag_at (lists_of m) from)

-- it stands between two turns, or in one
abbrev Waiting : Record → ℕ → ℕ → List ℕ → List ℕ → Type 0
Waiting m target from bs rs = Waits (view m) (tag_at (lists_of m) target) (answer m target from) bs rs

abbrev Turn : Record → ℕ → ℕ → Tag → ℕ → List Place → List ℕ → List ℕ → Type 0
Turn m target from t i l bs rs = Scans (view m) (tag_at (lists_of m) target) (answer m target from) t i l bs rs

pub record Going (m : Record) (target from : ℕ) (line : List ℕ) (head : ℕ) : Type 0 where
  pub reached : head ≤ length line
  pub waits : Waiting m target from line (drop head line)

pub record Scanning (m : Record) (target from : ℕ) (line : List ℕ) (head r : ℕ) (l : InputList) (i : ℕ) : Type 0 where
  pub reached : head < length line
  pub row : Row (lists_of m) r (bytes_of l.tag) (rows place_of l.count l.places)
  pub scans : Turn m target from (bytes_of l.tag) i (drop i (rows place_of l.count l.places))
      line (drop (suc head) line)

-- a row of a model that 7 lets pass is below the table's size
pub row_below : (m : Record) (r : ℕ) → passes m ≡ true → r < length (lists_of m) → r < 128
row_below m r p h = omega (arith, rows-length list_of m.lists m.list_count, (standing m p).few_lists)

module _ {m : Record} {target from : ℕ} (w : Walkable m target from) where
  once : T (distinct (lists_of m))
  once = (standing m w.passing).once-lists

  row_tag : (r : ℕ) → r < length (lists_of m) → Row (lists_of m) r (tag_at (lists_of m) r) (get_or (lists_of m) r ([], [])).1
  row_tag r h = row_tag_at (lists_of m) r h

  listed : find (tag_at (lists_of m) target) (lists_of m) ≢ none
  listed e = absurd (let z : ◌≡◌ {A = ℕ} 0 1 = cc (e, row_found (lists_of m) once target _ _ (row_tag target w.ends)) in let y : ⊥ = omega arith in y)

  pub going_end : {line : List ℕ} {head : ℕ} → Going m target from line head → length line ≤ head → answer m target from ≡ clear
  unfolding view
  going_end {line} {head} g h =
      waits_end (view m) (tag_at (lists_of m) target) (answer m target from) (row_found (lists_of m) once) listed
      (subst (λ (rs : List ℕ). Waiting m target from line rs)
      (drop_of_length-le line {i = head} h) g.waits)

  -- the row at the head of the line has its turn
  module _ {line : List ℕ} {head r : ℕ} (g : Going m target from line head) (at : At 128 line head r) where
    waiting : drop head line ≡ r ∷ drop (suc head) line
    waiting = drop-cons line head 0 at.within ∙ ap (λ (x : ℕ). x ∷ drop (suc head) line) (sym at.is)

    turn : (t : Tag) × (l : List Place) × Row (lists_of m) r t l × (is t (tag_at (lists_of m) target) ≡ true → answer m target from ≡ met)
        × (is t (tag_at (lists_of m) target) ≡ false
        → Turn m target from t 0 l line (drop (suc head) line))
    unfolding view
    turn = waits_first (view m) (tag_at (lists_of m) target) (answer m target from) (row_found (lists_of m) once) listed
        (subst (λ (rs : List ℕ). Waiting m target from line rs) waiting g.waits)

    pub first-within : r < length (lists_of m)
    first-within = turn.2.within

    pub first_met : r ≡ target → answer m target from ≡ met
    first_met p =
        let x : tag_at (lists_of m) target ≡ turn.0 = ap (tag_at (lists_of m)) (sym p) ∙ ap (λ (y : Tag × List Place). y.0) (turn.2.entry ([], [])) in
        turn.3 (ap (λ (t : Tag). is turn.0 t) x ∙ is_refl turn.0)

    pub first_scan : (r ≡ target → ⊥) → (d : InputList) → Scanning m target from line head r (get_or m.lists r d) 0
    first_scan n d =
        let x = row_of list_of m.lists m.list_count r d first-within in
        let l = get_or m.lists r d in
        let same : (turn.0, turn.1) ≡ list_of l = sym (turn.2.entry ([], [])) ∙ x.entry ([], []) in
        let other : turn.0 ≢ tag_at (lists_of m) target = λ p. n (row_apart (lists_of m) once r target turn.0 turn.1 (get_or (lists_of m) target ([], [])).1 turn.2
        (subst (λ (t : Tag). Row (lists_of m) target t (get_or (lists_of m) target ([], [])).1) (sym p) (row_tag target w.ends))) in
        record {
          reached = at.within;
          row = x;
          scans = subst (λ (y : Tag × List Place). Turn m target from y.0 0 y.1 line (drop (suc head) line))
              same (turn.4 (is_false turn.0 (tag_at (lists_of m) target) other));
        }

  -- a place of the list has its turn
  module _ {line : List ℕ} {head r : ℕ} {l : InputList} {i : ℕ} (s : Scanning m target from line head r l i) where
    -- the turn is over
    pub scanning_end : {items : List PlaceRecord} → items ≡ take l.count l.places → length items ≤ i → Going m target from line (head + 1)
    unfolding view rows
    scanning_end live h = record {
      reached = omega (arith, s.reached);
      waits = subst (λ (n : ℕ). Waiting m target from line (drop n line)) (sym (add-one head))
          (scans_end (view m) (tag_at (lists_of m) target) (answer m target from) (row_found (lists_of m) once) listed (bytes_of l.tag) i
          (subst (λ (ps : List Place). Turn m target from (bytes_of l.tag) i ps line (drop (suc head) line))
          (drop_of_length-le (rows place_of l.count l.places) {i = i} (omega (arith, h, ap length live, length-map (take l.count l.places) place_of))) s.scans));
    }

    module _ {items : List PlaceRecord} (live : items ≡ take l.count l.places) (h : i < length items) (d : PlaceRecord) {p : PlaceRecord} (e : get_or items i d ≡ p) where
      within : i < length (rows place_of l.count l.places)
      unfolding rows
      within = omega (arith, h, ap length live, length-map (take l.count l.places) place_of)

      at : {o : Place} → place_of p ≡ o
          → Turn m target from (bytes_of l.tag) i (o ∷ drop (suc i) (rows place_of l.count l.places))
          line (drop (suc head) line)
      unfolding rows
      at q = subst (λ (ps : List Place). Turn m target from (bytes_of l.tag) i ps line (drop (suc head) line))
          (drop-cons (rows place_of l.count l.places) i (place_of d) within
          ∙ ap (λ (o : Place). o ∷ drop (suc i) (rows place_of l.count l.places))
          (get_or-map place_of (take l.count l.places) i d ∙ (ap (λ (xs : List PlaceRecord). place_of (get_or xs i d)) (sym live) ∙ (ap place_of e ∙ q)))) s.scans

      pub scanning_gap : p ≡ None → answer m target from ≡ gapped (bytes_of l.tag) i
      unfolding view place_of
      scanning_gap q =
          scans_gap (view m) (tag_at (lists_of m) target) (answer m target from) (row_found (lists_of m) once) listed (bytes_of l.tag) i (at (ap place_of q))

      -- an assigned place: its tag joins the line, or not
      pub scanning_next : {t : Label} → p ≡ Some t → {v : List ℕ} → Joined (lists_of m) (bytes_of t) line v → Scanning m target from v head r l (i + 1)
      unfolding view place_of
      scanning_next {t} q {v} j = rw add-one (go j)
        where
          here : Turn m target from (bytes_of l.tag) i (some (bytes_of t) ∷ drop (suc i) (rows place_of l.count l.places))
              line (drop (suc head) line)
          here = at (ap place_of q)

          same : Turn m target from (bytes_of l.tag) (suc i) (drop (suc i) (rows place_of l.count l.places))
              line (drop (suc head) line) → v ≡ line → Scanning m target from v head r l (suc i)
          same x p = subst (λ (y : List ℕ). Scanning m target from y head r l (suc i)) (sym p) (record { reached = s.reached; row = s.row; scans = x })

          more : (q : ℕ) (k : List Place) → Row (lists_of m) q (bytes_of t) k → ¬ (q ∈ line) → Scanning m target from (line ++ (q ∷ [])) head r l (suc i)
          more q k x new = record {
            reached = omega (arith, s.reached, length-append line (q ∷ []));
            row = s.row;
            scans = subst (λ (rs : List ℕ). Turn m target from (bytes_of l.tag) (suc i) (drop (suc i) (rows place_of l.count l.places)) (line ++ (q ∷ [])) rs)
                (sym (drop-append-le (suc head) line (q ∷ []) (omega (arith, s.reached))))
                (scans_joins (view m) (tag_at (lists_of m) target) (answer m target from) (row_found (lists_of m) once) listed (bytes_of l.tag) i here (row_apart (lists_of m) once) x new);
          }

          go : Joined (lists_of m) (bytes_of t) line v → Scanning m target from v head r l (suc i)
          go (absent n p) = same (scans_absent (view m) (tag_at (lists_of m) target) (answer m target from) (row_found (lists_of m) once) listed (bytes_of l.tag) i here n) p
          go (again x f p) = same (scans_again (view m) (tag_at (lists_of m) target) (answer m target from) (row_found (lists_of m) once) listed (bytes_of l.tag) i here x f) p
          go (joins {q} {l = k} x f p) = subst (λ (y : List ℕ). Scanning m target from y head r l (suc i)) (sym p) (more q k x f)

  -- the line begins with the source
  pub going_start : {line : List ℕ} → Pushed 128 [] from line → Going m target from line 0
  unfolding view walk_from
  going_start p = rw (pushed_new p (row_below m from w.passing w.starts) Memᴰ.not-nil) (record {
    reached = omega arith;
    waits = record {
      turns = suc (suc (total (lists_of m)));
      seen = tag_at (lists_of m) from ∷ [];
      line = tag_at (lists_of m) from ∷ [];
      answer = λ d. ap (λ (n : ℕ). walk n (view m) (tag_at (lists_of m) target) (tag_at (lists_of m) from ∷ []) (tag_at (lists_of m) from ∷ [])) (add_comm (suc (suc (total (lists_of m)))) d)
          ∙ walk_ends d (view m) (tag_at (lists_of m) target) (tag_at (lists_of m) from);
      marked = λ r t l x. seen_one r t l x (is t (tag_at (lists_of m) from)) refl;
      rows = present (row_tag from w.starts) nothing;
    };
  })
    where
      seen_one : (r : ℕ) (t : Tag) (l : List Place) → Row (lists_of m) r t l → (b : Bool) → is t (tag_at (lists_of m) from) ≡ b → ((b || false) ≡ true) ↔ (r ∈ from ∷ [])
      seen_one r t l x true e = (
        (λ f. Memᴰ.head (row_apart (lists_of m) once r from t l (get_or (lists_of m) from ([], [])).1 x
            (subst (λ (y : Tag). Row (lists_of m) from y (get_or (lists_of m) from ([], [])).1) (sym (is_true t (tag_at (lists_of m) from) e)) (row_tag from w.starts)))),
        (λ f. refl),
      )
      seen_one r t l x false e = (
        (λ f. absurd (true≢false (sym f))),
        (λ f. let p : tag_at (lists_of m) from ≡ t = ap (tag_at (lists_of m)) (sym (Memᴰ.eq_of_singleton f)) ∙ ap (λ (y : Tag × List Place). y.0) (x.entry ([], [])) in
            absurd (true≢false (sym (is_refl t) ∙ (ap (is t) (sym p) ∙ e)))),
      )

-- what was pushed has joined, or was there
pub joined_by : {lists : Table (List Place)} {q : ℕ} {t : Tag} {l : List Place} {line r : List ℕ} → Row lists q t l → q < 128 → Pushed 128 line q r → Joined lists t line r
joined_by x h (stayed old) = again x (⊎_elim (λ k. absurd (let z : ⊥ = omega (arith, h, k) in z)) (λ m. m) old) refl
joined_by x h (joined k new) = joins x new refl

-- ---- a list found

pub sought_row : {table : Table (List Place)} {cap i : ℕ} {t : Tag} {f : Option ℕ} → Sought table cap t f → f ≡ Some i → Row table i t (get_or table i ([], [])).1
sought_row {table} {i = i} p e =
    let w = row ([], []) table (sym p.at ∙ e) in
    record { within = w.within; entry = λ d. get_or_default table i d ([], []) w.within ∙ (λ j. (w.tag j, (get_or table i ([], [])).1)) }

-- ---- from a tag

-- a tag without a list is not the target, and has no inputs
pub wires-absent : {m : Record} {target : ℕ} (s : Tag) → Startable m target → find s (lists_of m) ≡ none → walk_from (view m) (tag_at (lists_of m) target) s ≡ clear
unfolding view walk_from
wires-absent {m} {target} s w e =
    let once = (standing m w.passing).once-lists in
    let t = tag_at (lists_of m) target in
    let listed : find t (lists_of m) ≢ none = λ n.
    absurd (let z : ◌≡◌ {A = ℕ} 0 1 = cc (n, row_found (lists_of m) once target _ _ (row_tag_at (lists_of m) target w.ends)) in let y : ⊥ = omega arith in y) in
    absent_turn (view m) t clear (row_found (lists_of m) once) listed (suc (total (lists_of m))) s (s ∷ []) [] e ∙ walk-nil (suc (total (lists_of m))) (view m) t (s ∷ [])

-- a tag with a list is walked from its row
pub wires_row : (m : Record) (target : ℕ) {q : ℕ} {s : Tag} {l : List Place} {A : Type 0} (e : Result A Blocked) → Row (lists_of m) q s l → Walks m target q e → Wires m target s e
wires_row m target e x h =
    subst (λ (u : Tag). Says (lists_of m) e (walk_from (view m) (tag_at (lists_of m) target) u)) (ap (λ (y : Tag × List Place). y.0) (x.entry ([], []))) h

-- what an ending says
module _ {A : Type 0} (lists : Table (List Place)) (e : Result A Blocked) (a : Walked) (s : Says lists e a) where
  pub said_clear : {u : A} → e ≡ Ok u → a ≡ clear
  said_clear p = subst (λ (x : Result A Blocked). Says lists x a) p s

  pub said_met : e ≡ Err Target → a ≡ met
  said_met p = subst (λ (x : Result A Blocked). Says lists x a) p s

  pub said_gap : {r i : ℕ} → e ≡ Err (Gap r i) → (t : Tag) × (l : List Place) × Row lists r t l × (a ≡ gapped t i)
  said_gap p = subst (λ (x : Result A Blocked). Says lists x a) p s
