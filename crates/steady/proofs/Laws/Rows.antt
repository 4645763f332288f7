-- The rows of a list of edits, run one after the other. Assumes nothing.
use Prim.Native.Nat.{ℕ, suc, ◌+◌, ◌/◌, ◌≤◌, ◌<◌}
use mathlib.Core.Path.{◌≡◌, refl, sym, ◌∙◌, ap, subst}
use mathlib.Core.List.{List, [], ◌∷◌}
use mathlib.Core.Option.{Option, none, some, none-ne-some, some-injective}
use native.Mathlib.Omega.{arith}
use lib.ListN.{length, get_or, drop, drop_of_length-le}
use lib.Seq.{drop-cons}
use Rattle.std.specs.Simd.{first_chunks}
use Rattle.tag.specs.Tags.{Tag}
use Rattle.model.specs.declared.implicit_model.Model.{Model as Record}
use Rattle.model.specs.Edit.{Edit}
use Rattle.edit_rows.specs.EditRows.{edit_at, ahead, edits_of}
use Rattle.edit_rows.proofs.Laws.{rows_of, edits_rows}
use Rattle.row_running.specs.Steps.{Step}
use Rattle.steady.specs.Steps.{At, Listed}
use Rattle.steady.proofs.Laws.Along.{at_start, at_next}

record Next (o : Option Edit) (os : Option (List Edit)) (rest : List Edit) : Type 0 where
  edit : Edit
  edits : List Edit
  first : o ≡ some edit
  others : os ≡ some edits
  both : rest ≡ edit ∷ edits

next : {rest : List Edit} (o : Option Edit) (os : Option (List Edit)) → ahead o os ≡ some rest → Next o os rest
next {rest} none os h = absurd (none-ne-some rest h)
next {rest} (some e) none h = absurd (none-ne-some rest h)
next {rest} (some e) (some es) h = record { edit = e; edits = es; first = refl; others = refl; both = sym (some-injective (e ∷ es) rest h) }

-- after i of the rows: the list es has the rows from i on left
pub record Rest (rs : List (List ℕ)) (i : ℕ) (es : List Edit) (m : Record) (t : Tag) (w : Record) (u : Tag) : Type 0 where
  pub rest : List Edit
  pub rows : rows_of (drop i rs) ≡ some rest
  pub at : At es m t rest w u

abbrev pub Resting : List ℕ → List (List ℕ) → ℕ → Record → Tag → Record → Tag → Type 0
Resting s rs i m t w u = (es : List Edit) → edits_of s ≡ some es → Rest rs i es m t w u

pub rest_start : (s : List ℕ) (m : Record) (t : Tag) → Resting s (first_chunks 256 (length s / 256) s) 0 m t m t
rest_start s m t = λ es h. record { rest = es; rows = edits_rows s h; at = at_start es m t }

module _ (s : List ℕ) {rs : List (List ℕ)} {i : ℕ} {m : Record} {t : Tag} {w : Record} {u : Tag} (l : i < length rs) (h : Resting s rs i m t w u) where
  -- the row's edit, and the edits after it
  first : (es : List Edit) (g : edits_of s ≡ some es) → Next (edit_at (get_or rs i []) 0) (rows_of (drop (i + 1) rs)) (h es g).rest
  unfolding rows_of
  first es g = next _ _ (ap rows_of (sym (drop-cons rs i [] l ∙ ap (λ (k : ℕ). get_or rs i [] ∷ drop k rs) (let z : suc i ≡ i + 1 = omega arith in z))) ∙ (h es g).rows)

  pub rest_next : {o : Record} {v : Tag} {e : Edit} → some e ≡ edit_at (get_or rs i []) 0 → Step e w u o v → Resting s rs (i + 1) m t o v
  rest_next {o} {v} {e} q k = λ es g.
      let x = first es g in
      record {
        rest = x.edits;
        rows = x.others;
        at = at_next
            (subst (λ (y : List Edit). At es m t y w u) x.both (h es g).at)
            (subst (λ (y : Edit). Step y w u o v) (some-injective e x.edit (q ∙ x.first)) k);
      }

  -- each row of a list is an edit
  pub rest_none : none ≡ edit_at (get_or rs i []) 0 → Resting s rs (i + 1) m t w u
  rest_none q = λ es g. let x = first es g in absurd (none-ne-some x.edit (q ∙ x.first))

pub rest_end : (s : List ℕ) {rs : List (List ℕ)} {i : ℕ} {m : Record} {t : Tag} {w : Record} {u : Tag} → length rs ≤ i → Resting s rs i m t w u → Listed s m t w u
unfolding rows_of
rest_end s {rs = rs} {i = i} {m = m} {t = t} {w = w} {u = u} l h = λ es g.
    let r = h es g in
    subst (λ (y : List Edit). At es m t y w u)
    (sym (some-injective [] r.rest (ap rows_of (sym (drop_of_length-le rs l)) ∙ r.rows)))
    r.at
