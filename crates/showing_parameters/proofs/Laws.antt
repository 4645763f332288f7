-- The data under a name, of the model held: `o` is that model, if any. Assumes nothing.
use Prim.Native.Nat.{ℕ}
use mathlib.Core.Path.{◌≡◌, sym, ap, ◌∙◌}
use mathlib.Core.Bool.{Bool, true, false, cond}
use mathlib.Core.Option.{Option, none, some}
use native.Mathlib.Omega.{arith}
use Rattle.std.specs.Prelude.{Result, Ok, Err, IsErrAnd, Option as Found, Some, None, ok_or}
use Rattle.tag.specs.Tags.{Tag, overlong, empty}
use Rattle.component.specs.Parameter.{Name, read_parameter}
use Rattle.component.specs.declared.parameter.Data.{Data}
use Rattle.component.specs.declared.model_component.Component.{Component}
use Rattle.model.specs.declared.model_error.Refusal.{Refusal}
use Rattle.model.specs.Answer.{refusal_of}
use Rattle.model.specs.Edit.{refused}
use Rattle.model.specs.Model.{Model, component}
use Rattle.showing_parameters.specs.Parameters.{unread, read, read_of, read_short, read_in, Reads}

handed_on : {A : Type 0} {n : ℕ} {u : Tag} (e : Refusal) (r : Result A Refusal) → refusal_of e ≡ refused n u 0 → IsErrAnd r (λ x. x ≡ e) → IsErrAnd r (λ x. refusal_of x ≡ refused n u 0)
handed_on e (Ok x) q p = absurd p
handed_on e (Err x) q p = ap refusal_of p ∙ q

-- what `ok_or` makes of a search that found nothing
none_refused : {A : Type 0} (d : Found A) (e f : Refusal) → Err e ≡ ok_or d f → e ≡ f
none_refused None e f h = grind arith
none_refused (Some x) e f h = absurd (grind arith)

module _ (t : Tag) (n : Name) (o : Option Model) where
  unread_as : (k : ℕ) (u : Tag) (r : Result (Found Data) Refusal) → read_in t n o ≡ unread k u → IsErrAnd r (λ e. refusal_of e ≡ refused k u 0) → Reads (read_in t n o) r
  unread_as k u (Ok x) f p = absurd p
  unread_as k u (Err e) f p = (k, u, f, p)

  pub reads_7 : (r : Result (Found Data) Refusal) (e : Refusal) → (o ≡ none) × (refusal_of e ≡ refused 7 empty 0) → IsErrAnd r (λ x. x ≡ e) → Reads (read_in t n o) r
  reads_7 r e f p = unread_as 7 empty r (ap (read_in t n) f.0) (handed_on e r f.1 p)

  module _ {m : Model} (h : o ≡ some m) where
    pub reads_1 : (r : Result (Found Data) Refusal) → overlong t ≡ true → IsErrAnd r (λ x. refusal_of x ≡ refused 1 empty 0) → Reads (read_in t n o) r
    unfolding read_short
    reads_1 r f p = unread_as 1 empty r (ap (read_in t n) h ∙ ap (λ (b : Bool). cond b (unread 1 empty) (read_of t n (component m t))) f) p

    module _ (f : overlong t ≡ false) where
      short_is : {c : Option Component} → component m t ≡ c → read_in t n o ≡ read_of t n c
      unfolding read_short
      short_is g = ap (read_in t n) h ∙ ap (λ (b : Bool). cond b (unread 1 empty) (read_of t n (component m t))) f ∙ ap (read_of t n) g

      pub reads_12 : (r : Result (Found Data) Refusal) (e d : Refusal) → component m t ≡ none → {A : Type 0} (s : Found A) → Err e ≡ ok_or s d → refusal_of d ≡ refused 12 t 0
          → IsErrAnd r (λ x. x ≡ e) → Reads (read_in t n o) r
      reads_12 r e d g s q v p = unread_as 12 t r (short_is g) (handed_on e r (ap refusal_of (none_refused s e d q) ∙ v) p)

      pub reads : {c : Component} (d : Found Data) → component m t ≡ some c → d ≡ read_parameter c n → Reads (read_in t n o) (Ok d)
      reads d g q = short_is g ∙ ap read (sym q)
