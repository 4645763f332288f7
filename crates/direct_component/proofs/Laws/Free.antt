-- The first free tag among the components in the bytes, number by number. Assumes nothing.
use Rattle.std.specs.Prelude.{Option, Some, None, is_some}
use Prim.Native.Nat.{ℕ, ◌+◌, ◌-◌, ◌≤◌, ◌<◌, min}
use native.Mathlib.Omega.{arith}
use mathlib.Core.Path.{◌≡◌, refl, sym, ap, subst, ◌∙◌}
use mathlib.Core.Bool.{Bool, true, false, not, true≢false}
use mathlib.Core.List.{List, []}
use mathlib.Core.Option.{some}
use lib.Dec.{T}
use Rattle.tag.specs.declared.Tag.{Tag as Label}
use Rattle.tag.specs.Tags.{Tag, numbered, overlong}
use Rattle.tag.specs.View.{bytes_of, tag_fits, Made}
use Rattle.component.specs.declared.model_component.Component.{Component}
use Rattle.component.specs.declared.model_component.Component.TheVariants.{Add}
use Rattle.model.specs.Table.{held}
use Rattle.model.specs.Model.{Model, valid}
use Rattle.model.proofs.Laws.Valid.{good}
use Rattle.adding_component.proofs.Laws.Free.{Trying, tags-short, trying_start, free-once, free-none, free-long, free-found, trying_next}
use Rattle.layout.specs.Words.{word}
use Rattle.model_bytes.specs.ModelBytes.{model_in}
use Rattle.finding.specs.Rows.{component_at, RowSought}
use Rattle.direct_rows.proofs.Laws.Parts.{whole}
use Rattle.direct_rows.proofs.Laws.Found.{components-length, component-found, component-missing, unheld}
use Rattle.direct_component.specs.Free.{FreeIn, FirstFreeIn}
use Rattle.direct_adding.proofs.Laws.Edits.{row_held}

flip : {a : Bool} (b : Bool) → a ≡ not b → b ≡ not a
flip true e = sym (ap not e)
flip false e = sym (ap not e)

pub is_free : (s : List ℕ) (t : Tag) (r : Option ℕ) {b : Bool} → RowSought s component_at (min (word s 8) 64) t r → is_some r ≡ not b → FreeIn s t b
is_free s t None {b} q e m i v = flip b e ∙ sym (ap not (unheld t m.components (component-missing (whole i) q)))
is_free s t (Some r) {b} q e m i v =
    let w = whole i in
    let d : Tag × Component = ([], Add) in
    let f = component-found w d q in
    flip b e ∙ sym (ap not (row_held d t m.components r (good m v).once (omega (arith, f.0, components-length w)) f.1))

-- what a test by `not` says
on : (b x : Bool) → b ≡ not x → b ≡ true → x ≡ false
on b true e f = absurd (true≢false (sym f ∙ e))
on b false e f = refl

off : (b x : Bool) → b ≡ not x → b ≡ false → x ≡ true
off b true e f = refl
off b false e f = absurd (true≢false (sym e ∙ f))

-- `left` numbers from k on are left to try
abbrev pub TryingIn : List ℕ → Tag → ℕ → ℕ → Type 0
TryingIn s t left k = (m : Model) → model_in s ≡ some m → T (valid m) → Trying m.components t left k

-- how many are left at k
abbrev pub left : List ℕ → ℕ → ℕ
left s k = min (word s 8) 64 + 2 - k

module _ (s : List ℕ) (t : Label) where
  module _ {b : Bool} (f : FreeIn s (bytes_of t) b) where
    pub at_once : b ≡ true → tag_fits t ≡ true → FirstFreeIn s (bytes_of t) (Some t)
    at_once e h m i v = free-once m.components t h (on b (held (bytes_of t) m.components) (f m i v) e)

    pub start : b ≡ false → TryingIn s (bytes_of t) (left s 1) 1
    start e m i v =
        let w = whole i in
        let all : min (word s 8) 64 + 1 ≡ left s 1 = omega arith in
        subst (λ (n : ℕ). Trying m.components (bytes_of t) n 1) all
        (trying_start m.components t (omega (arith, w.few, components-length w)) (off b (held (bytes_of t) m.components) (f m i v) e))

  module _ (k : ℕ) (h : TryingIn s (bytes_of t) (left s k) k) where
    pub nowhere : left s k ≤ 0 → FirstFreeIn s (bytes_of t) None
    nowhere l m i v = free-none m.components t (left s k) k (h m i v) l

    module _ (l : 0 < left s k) where
      pub too_long : overlong (numbered (bytes_of t) k) ≡ true → FirstFreeIn s (bytes_of t) None
      too_long o m i v = free-long m.components t (left s k) k (h m i v) l (tags-short m v) o

      module _ (u : Label) (made : Made (numbered (bytes_of t) k) u) {b : Bool} (g : FreeIn s (bytes_of u) b) where
        pub here : b ≡ true → FirstFreeIn s (bytes_of t) (Some u)
        here y m i v = free-found m.components t (left s k) k (h m i v) l u made (on b (held (bytes_of u) m.components) (g m i v) y)

        pub next : b ≡ false → TryingIn s (bytes_of t) (left s (k + 1)) (k + 1)
        next y m i v =
            let fewer : left s k - 1 ≡ left s (k + 1) = omega arith in
            subst (λ (n : ℕ). Trying m.components (bytes_of t) n (k + 1)) fewer
            (trying_next m.components t (left s k) k (h m i v) l u made (off b (held (bytes_of u) m.components) (g m i v) y))
