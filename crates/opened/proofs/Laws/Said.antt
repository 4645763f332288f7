-- The model that bytes hold, where 7 lets it pass; reports; and a tag as a record. Assumes nothing.
use Prim.Native.Nat.{ℕ, ◌≤◌}
use mathlib.Core.Path.{◌≡◌, sym, ap, subst, ◌∙◌}
use mathlib.Core.Bool.{Bool, true, false, ◌&&◌, cond}
use mathlib.Core.List.{List}
use mathlib.Core.Option.{none, some}
use lib.ListN.{length, take}
use lib.Seq.{take_all}
use Rattle.std.specs.Prelude.{Option as Found, Some, None, MatchOption, Result, ok_or}
use Rattle.std.specs.Bool.{then_some}
use Rattle.tag.specs.declared.Tag.{Tag as Label}
use Rattle.tag.specs.Tags.{Tag, empty}
use Rattle.tag.specs.View.{bytes_of, Made}
use Rattle.model.specs.declared.implicit_model.Model.{Model as Record}
use Rattle.model.specs.declared.model_error.Refusal.{Refusal}
use Rattle.model.specs.Answer.{refusal_of}
use Rattle.model.specs.Edit.{refused}
use Rattle.model.specs.Model.{valid}
use Rattle.model.specs.View.{view, fits, passes}
use Rattle.model_bytes.specs.ModelBytes.{model_in}
use Rattle.model_bytes.specs.Calls.{Decodes}
use Rattle.report.specs.Report.{Report}
use Rattle.opened.specs.Said.{let_pass, held_in, Says, Opens, Reads}

pub says_as : {r q : Report} {out after : List ℕ} {code : ℕ} → Says r out after code → r ≡ q → Says q out after code
says_as {out = out} {after = after} {code = code} s e = subst (λ (x : Report). Says x out after code) e s

-- a tag of at most 32 bytes, as a record
pub label_whole : (t : Tag) (r : Label) → length t ≤ 32 → Made (take 32 t) r → bytes_of r ≡ t
label_whole t r h m = m.labelled.bytes ∙ take_all 32 t h

-- ---- what was opened

-- of a record within its sizes 7 judges the model
pub judged : (m : Record) → fits m ≡ true → valid (view m) ≡ passes m
unfolding passes
judged m e = sym (ap (λ (b : Bool). b && valid (view m)) e)

module _ (s : List ℕ) where
  -- what the test of 7 leaves
  abbrev Left : Found Record → Type 0
  Left None = held_in s ≡ none
  Left (Some m) = held_in s ≡ some (view m)

  passing : (m : Record) (b : Bool) → Decodes s (Some m) → b ≡ passes m → Left (then_some b m)
  unfolding held_in
  passing m b x p = go b (ap let_pass x.0 ∙ ap (λ (y : Bool). cond y (some (view m)) none) (judged m x.1 ∙ sym p))
    where
      go : (c : Bool) → let_pass (model_in s) ≡ cond c (some (view m)) none → Left (then_some c m)
      go true q = q
      go false q = q

  -- what is decoded, where a test that answers as 7 passes it
  pub leaves : (tests : Record → Bool → Type 0) (d r : Found Record) → Decodes s d → MatchOption d (r ≡ None) (λ x. (b : Bool) × tests x b × (r ≡ then_some b x))
      → ((x : Record) (b : Bool) → tests x b → b ≡ passes x) → Left r
  unfolding held_in
  leaves tests None r x h seven = subst Left (sym h) (ap let_pass x)
  leaves tests (Some m) r x (b, t, e) seven = subst Left (sym e) (passing m b x (seven m b t))

  -- and 7 where it leaves none
  pub opens : (o : Found Record) (r : Result Record Refusal) (e : Refusal) → Left o → refusal_of e ≡ refused 7 empty 0 → r ≡ ok_or o e → Opens s r
  opens None r e h f q = subst (Opens s) (sym q) (h, f)
  opens (Some m) r e h f q = subst (Opens s) (sym q) h

  -- what is decoded, whatever 7 says of it
  pub reads : (d : Found Record) (r : Result Record Refusal) (e : Refusal) → Decodes s d → refusal_of e ≡ refused 7 empty 0 → r ≡ ok_or d e → Reads s r
  reads None r e x f q = subst (Reads s) (sym q) (x, f)
  reads (Some m) r e x f q = subst (Reads s) (sym q) x
