-- What is shown: a list's live places are the places that are read; and what was found. Assumes nothing.
use Prim.Native.Nat.{ℕ, ◌+◌, min}
use mathlib.Core.Path.{◌≡◌, sym, ap, subst, ◌∙◌}
use mathlib.Core.List.{List}
use mathlib.Core.Bool.{Bool, true, false, cond}
use mathlib.Core.Option.{Option, none, some}
use lib.ListN.{length, take}
use Rattle.std.specs.Prelude.{Result, Ok, Err, IsErrAnd, Option as Found, Some, None, MatchOption, IsSomeAnd}
use Rattle.std.proofs.lemmas.List.{length-map}
use Rattle.component.specs.declared.model_component.Component.{Component}
use Rattle.model.specs.declared.implicit_model.ComponentEntry.{ComponentEntry}
use Rattle.model.specs.declared.implicit_model.InputList.{InputList}
use Rattle.model.specs.declared.model_error.Refusal.{Refusal}
use Rattle.model.specs.Answer.{refusal_of}
use Rattle.model.specs.Edit.{refused as edit_refused}
use Rattle.tag.specs.Tags.{Tag, overlong, empty}
use Rattle.model.specs.Model.{Place, Model}
use Rattle.model.specs.View.{PlaceRecord, place_of, rows, component_of, list_of}
use Rattle.held.specs.Reading.{component_read, entry_read, list_read, places_read}
use Rattle.rows.specs.Rows.{places_in, places_of}
use Rattle.rows.specs.Written.{Writes}
use Rattle.opened.specs.Said.{answered, Says}
use Rattle.opened.proofs.Laws.Said.{says_as}
use Rattle.showing.specs.Tables.{Finding, refused, held, under_tag, short, in_model, at_position, Finds, ShowsList}

pub list_shown : {places placed out after : List ℕ} {code : ℕ} (l : InputList) {live : List PlaceRecord}
    → live ≡ take l.count l.places → length live ≡ min l.count 3
    → Writes (λ v. places_in (min l.count 3) v 0) (some (places_of l.count l)) 0 120 places placed → Says (answered (list_of l).0 (length live + 1)) out after code
    → ShowsList (held (list_of l).0 (list_of l).1) places placed out after code
unfolding rows
list_shown {places = places} {placed} l rows bound w q =
    let ps = places_of l.count l in
    let live = ap length rows ∙ sym (length-map (take l.count l.places) place_of) in
    record {
      shown = subst (λ (k : ℕ). Writes (λ v. places_in k v 0) (some ps) 0 120 places placed) (sym bound ∙ live) w;
      says = says_as q (ap (λ (k : ℕ). answered (list_of l).0 (k + 1)) live);
    }

-- ---- what is found under a tag, of the model held: `o` is that model, if any

handed_on : {R : Type 0} {n : ℕ} (e : Refusal) (r : Result R Refusal) → refusal_of e ≡ edit_refused n empty 0 → IsErrAnd r (λ x. x ≡ e) → IsErrAnd r (λ x. refusal_of x ≡ edit_refused n empty 0)
handed_on e (Ok x) q p = absurd p
handed_on e (Err x) q p = ap refusal_of p ∙ q

module _ {A R : Type 0} (read : R → Option (Tag × A)) where
  turned_away : (n : ℕ) (f : Finding A) (r : Result R Refusal) → f ≡ refused n → IsErrAnd r (λ e. refusal_of e ≡ edit_refused n empty 0) → Finds read f r
  turned_away n f (Ok x) q p = absurd p
  turned_away n f (Err e) q p = (n, q, p)

  -- no model is held, whatever is sought in it
  pub finds_7 : (f : Model → Finding A) (o : Option Model) (r : Result R Refusal) (e : Refusal) → (o ≡ none) × (refusal_of e ≡ edit_refused 7 empty 0) → IsErrAnd r (λ x. x ≡ e) → Finds read (in_model f o) r
  finds_7 f o r e q p = turned_away 7 (in_model f o) r (ap (in_model f) q.0) (handed_on e r q.1 p)

module _ {A R : Type 0} (read : R → Option (Tag × A)) (t : Tag) (sought : Model → Option A) where
  abbrev under : Option Model → Finding A
  under x = in_model (λ m. short t (under_tag t (sought m))) x

  module _ (o : Option Model) where
    module _ {m : Model} (e : o ≡ some m) where
      pub finds_1 : (r : Result R Refusal) → overlong t ≡ true → IsErrAnd r (λ x. refusal_of x ≡ edit_refused 1 empty 0) → Finds read (under o) r
      unfolding short
      finds_1 r f p = turned_away read 1 (under o) r (ap under e ∙ ap (λ (b : Bool). cond b (refused 1) (under_tag t (sought m))) f) p

      pub finds : {x : Option A} (r : R) → overlong t ≡ false → x ≡ sought m → under_tag t x ≡ at_position (read r) → Finds read (under o) (Ok r)
      unfolding short
      finds r f g h = ap under e ∙ ap (λ (b : Bool). cond b (refused 1) (under_tag t (sought m))) f ∙ ap (under_tag t) (sym g) ∙ h

-- a component that is found, with its tag
pub entry_found : (t : Tag) (d : Found Component) (r : Found ComponentEntry) (post : Component → ComponentEntry → Type 0) → MatchOption d (r ≡ None) (λ x. IsSomeAnd r (post x))
    → ((x : Component) (y : ComponentEntry) → post x y → component_of y ≡ (t, x)) → under_tag t (component_read d) ≡ at_position (entry_read r)
unfolding entry_read
entry_found t None r post x h = sym (ap (λ (y : Found ComponentEntry). at_position (entry_read y)) x)
entry_found t (Some c) None post x h = absurd x
entry_found t (Some c) (Some e) post x h = sym (ap (λ (u : Tag × Component). held u.0 u.1) (h c e x))

-- and a list
pub list_found : (t : Tag) (d r : Found InputList) (post : InputList → InputList → Type 0) → MatchOption d (r ≡ None) (λ x. IsSomeAnd r (post x))
    → ((x y : InputList) → post x y → list_of y ≡ (t, (list_of x).1)) → under_tag t (places_read d) ≡ at_position (list_read r)
unfolding list_read places_read
list_found t None r post x h = sym (ap (λ (y : Found InputList). at_position (list_read y)) x)
list_found t (Some c) None post x h = absurd x
list_found t (Some c) (Some e) post x h = sym (ap (λ (u : Tag × List Place). held u.0 u.1) (h c e x))
