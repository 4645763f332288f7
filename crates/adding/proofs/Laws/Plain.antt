-- Each way out of adding a component without inputs. Assumes nothing.
use mathlib.Core.Path.{◌≡◌, refl, sym, ap, subst}
use mathlib.Core.Bool.{Bool, true, false, not, cond}
use native.Mathlib.Omega.{arith}
use Rattle.std.specs.Bool.{then_some}
use mathlib.Core.List.{[]}
use lib.ListN.{length}
use lib.Ieee.{Float}
use Rattle.tag.specs.declared.Tag.{Tag as Label}
use Rattle.tag.specs.Tags.{Tag, empty, overlong}
use Rattle.tag.specs.View.{bytes_of, Labelled}
use Rattle.component.specs.Kind.{is_function}
use Rattle.component.specs.declared.model_component.Component.{Component}
use Rattle.component.specs.declared.model_component.Component.TheVariants.{Constant}
use Rattle.model.specs.declared.implicit_model.Model.{Model as Record}
use Rattle.std.specs.Prelude.{Some, None}
use Rattle.model.specs.Table.{held}
use Rattle.model.specs.Model.{Model}
use Rattle.model.specs.Edit.{add_constant, add_function, Outcome, edit, add_plain}
use Rattle.model.specs.View.{components_of, view, passes}
use Rattle.model.proofs.Laws.Table.{held-false}
use Rattle.held.proofs.Laws.Standing.{standing}
use Rattle.edit.specs.declared.Edited.{Edited}
use Rattle.edit.specs.Ends.{Refused}
use Rattle.edit.proofs.Laws.Step.{Step, skip, stop, meets_on, meets_7}
use Rattle.edit.proofs.Laws.Tests.{carrying, held_as}
use Rattle.adding.specs.Grown.{Grew, Plainly}
use Rattle.adding.proofs.Laws.Grown.{grew}

-- ---- a component, where its kind is the one asked for

module _ (c : Component) where
  pub other_kind : (ok : Bool) → cond ok (Some c) None ≡ None → ok ≡ false
  other_kind true h = absurd (grind arith)
  other_kind false h = refl

  pub right_kind : {x : Component} (ok : Bool) → cond ok (Some c) None ≡ Some x → (ok ≡ true) × (x ≡ c)
  right_kind {x} true h = let q : x ≡ c = cc in (refl, q)
  right_kind false h = absurd (grind arith)

pub chosen : (ok : Bool) (c : Component) → then_some ok c ≡ cond ok (Some c) None
chosen true c = refl
chosen false c = refl

-- ---- the ways out

module _ (m : Record) (t : Tag) (c : Component) (ok : Bool) (r : Edited) where
  pub plain_7 : passes m ≡ false → Refused m 7 [] 0 r → Plainly t c ok m r
  plain_7 v z e q = meets_7 v z

  module _ (v : passes m ≡ true) where
    on : Step (add_plain (view m) t c ok) m r → Plainly t c ok m r
    on s e q = meets_on v (subst (λ (o : Outcome). Step o m r) (sym q) s)

    pub plain_1 : overlong t ≡ true → Refused m 1 [] 0 r → Plainly t c ok m r
    unfolding add_plain
    plain_1 h z = on (stop (overlong t) 1 empty 0 _ h z)

    module _ (st : overlong t ≡ false) (u : Label) (lt : Labelled t u) where
      pub plain_4 : ok ≡ false → Refused m 4 (bytes_of u) 0 r → Plainly t c ok m r
      unfolding add_plain
      plain_4 h z = on (skip (overlong t) 1 empty 0 st (stop (not ok) 4 t 0 _ (ap not h) (carrying lt z)))

      module _ (fits : ok ≡ true) where
        pub plain_11 : held (bytes_of u) (components_of m) ≡ true → Refused m 11 (bytes_of u) 0 r → Plainly t c ok m r
        unfolding add_plain view
        plain_11 h z = on (skip (overlong t) 1 empty 0 st (skip (not ok) 4 t 0 (ap not fits) (stop (held t (components_of m)) 11 t 0 _ (held_as _ lt h) (carrying lt z))))

        pub plain_more : held (bytes_of u) (components_of m) ≡ false → length m.components ≡ 64 → {x : Component} → x ≡ c → Grew m u x u r → Plainly t c ok m r
        unfolding add_plain view
        plain_more h size q z =
            on (skip (overlong t) 1 empty 0 st (skip (not ok) 4 t 0 (ap not fits) (skip (held t (components_of m)) 11 t 0 (held_as _ lt h)
            (grew m (standing m v) size lt lt c (held-false t (components_of m) (held_as _ lt h)) (subst (λ (y : Component). Grew m u y u r) q z)))))

-- the two edits that are defined so
pub constant_is : (t : Tag) (x : Float) (m : Model) → edit (add_constant t x) m ≡ add_plain m t (Constant x) true
unfolding edit
constant_is t x m = refl

pub function_is : (t : Tag) (c : Component) (m : Model) (b : Bool) → b ≡ is_function c → edit (add_function t c) m ≡ add_plain m t c b
unfolding edit
function_is t c m b e = ap (add_plain m t c) (sym e)
