-- A list of edits run one after the other: what holds between two of them, and the contract after the last. Assumes nothing.
use mathlib.Core.Path.{◌≡◌, refl, sym, ◌∙◌, ap, subst}
use mathlib.Core.Bool.{true, false}
use mathlib.Core.List.{List, [], ◌∷◌}
use lib.Dec.{T}
use lib.Ieee.{Float, binary64, to_bits}
use Rattle.tag.specs.Tags.{Tag, empty}
use Rattle.geometry.specs.declared.vec3f.Vec3.{Vec3}
use Rattle.model.specs.declared.implicit_model.Model.{Model as Record}
use Rattle.model.specs.Model.{Model, Same, valid}
use Rattle.model.specs.Edit.{Edit, Answer, Outcome, apply}
use Rattle.model.specs.Form.{Compiles, Number, Reply, bits, handed, Evaluated}
use Rattle.model.specs.Steady.{Agrees, Spares, Run, stop, step}
use Rattle.model.specs.View.{view, passes}
use Rattle.held.proofs.Laws.Standing.{passes-valid}
use Rattle.model.proofs.Theorems.Keep.{apply-valid}
use Rattle.model.proofs.Theorems.Positions.{apply_alike}
use Rattle.model.proofs.Theorems.Agree.{evaluated_agrees}
use Rattle.model.proofs.Theorems.Carry.{compiles_carried}
use Rattle.model.proofs.Theorems.Steady.{spared as spares-carries, steady}
use Rattle.edit.specs.Meets.{defined}
use Rattle.edit.proofs.Laws.Step.{defined-apply, defined-refused}
use Rattle.newest.specs.Carried.{carried}
use Rattle.newest.proofs.Theorems.Newest.{spared-carried}
use Rattle.row_running.specs.Steps.{Step}
use Rattle.steady.specs.Lists.{after, newest, Sparing, idle, spared}
use Rattle.steady.specs.Steadied.{Steadied}
use Rattle.steady.specs.Steps.{Along, At}

same_refl : (m : Model) → Same m m
same_refl m = record { components = λ t. refl; lists = λ t. refl; default = refl }

same_trans : {m n o : Model} → Same m n → Same n o → Same m o
same_trans s q = record {
  components = λ t. s.components t ∙ q.components t;
  lists = λ t. s.lists t ∙ q.lists t;
  default = s.default ∙ q.default;
}

-- ---- demand 3, over the definitions

-- after an edit that spares it the form compiles, under the tag carried
compiles_after : {e : Edit} {m : Model} {t u : Tag} → Compiles m t → Spares e m t u → Compiles (apply e m).model u
compiles_after {e} {m} c s =
    let k = spares-carries s c (same_refl (apply e m).model) in
    subst (Compiles (apply e m).model) (sym k.2) (compiles_carried k.1 c)

-- sparing edits, each on the model that the one before left by definition
run_of : (es : List Edit) (m : Model) (t : Tag) → T (valid m) → Compiles m t → Sparing es m t → Run es m t (after es m) (newest es m t)
unfolding after newest
run_of [] m t v c idle = stop
run_of (e ∷ es) m t v c (spared {u = u} s rest) =
    subst (λ (w : Tag). Run (e ∷ es) m t (after es (apply e m).model) (newest es (apply e m).model w)) (spared-carried c s)
    (step s (same_refl (apply e m).model) (apply-valid e m v) (run_of es (apply e m).model u (apply-valid e m v) (compiles_after c s) rest))

steady-number : (es : List Edit) (m : Model) (t : Tag) (p : Vec3) (r : Reply) → T (valid m) → Compiles m t → Sparing es m t
    → Evaluated (after es m) (newest es m t) p r → (x : Float) × Number m p t x × (r ≡ bits (to_bits binary64 x))
steady-number es m t p r v c s h =
    let k = (steady es m (after es m) t (newest es m t) v c (run_of es m t v c s)).1 p in
    (k.0, k.1, (k.2 r).0 h)

-- ---- between two edits

pub at_start : (es : List Edit) (m : Record) (t : Tag) → At es m t es m t
at_start es m t = record {
  invalid = λ p. refl;
  passing = λ p. p;
  along = λ p. record { model = view m; valid = passes-valid m p; same = same_refl (view m); after = refl; newest = refl };
}

along-next : {es : List Edit} {m : Model} {t : Tag} {e : Edit} {rest : List Edit} {w : Record} {u : Tag} {n : Record} {v : Tag}
    → passes w ≡ true → Along es m t (e ∷ rest) (view w) u → Step e w u n v → Along es m t rest (view n) v
unfolding after newest
along-next {e = e} {rest = rest} {w = w} {u = u} {n = n} {v = v} p a s =
    let k = apply_alike e a.model (view w) a.valid (passes-valid w p) a.same in
    let d : defined e w ≡ apply e (view w) = defined-apply e w p in
    record {
      model = (apply e a.model).model;
      valid = apply-valid e a.model a.valid;
      same = same_trans k.model
          (subst (λ (o : Outcome). Same o.model (view n)) d
          (subst (λ (x : Record). Same (defined e w).model (view x)) (sym s.model) s.meets.model));
      after = a.after;
      newest = a.newest
          ∙ ap (newest rest (apply e a.model).model)
          (ap (λ (b : Answer). carried e b u) (k.answer ∙ sym (s.meets.answer ∙ ap (λ (o : Outcome). o.answer) d)) ∙ sym s.tag);
    }

pub at_next : {es : List Edit} {m : Record} {t : Tag} {e : Edit} {rest : List Edit} {w : Record} {u : Tag} {n : Record} {v : Tag}
    → At es m t (e ∷ rest) w u → Step e w u n v → At es m t rest n v
at_next {m = m} {e = e} {w = w} a s = record {
  invalid = λ p.
      s.model
      ∙ s.meets.kept (s.meets.answer ∙ ap (λ (o : Outcome). o.answer) (defined-refused e w (ap passes (a.invalid p) ∙ p)))
      ∙ a.invalid p;
  passing = λ p. ap passes s.model ∙ s.meets.passing ∙ a.passing p;
  along = λ p. along-next (a.passing p) (a.along p) s;
}

-- ---- after the last

agrees : {m n : Model} {t : Tag} → Same m n → Agrees m t n
agrees s = record { components = λ a r. sym (s.components a); lists = λ a r. sym (s.lists a) }

same_sym : {m n : Model} → Same m n → Same n m
same_sym s = record { components = λ t. sym (s.components t); lists = λ t. sym (s.lists t); default = sym s.default }

module _ {es : List Edit} {m : Record} {t : Tag} {w : Record} {u : Tag} {p : Vec3} {r : Reply} (a : At es m t [] w u)
    (no : passes w ≡ false → r ≡ handed 7 empty 0) (yes : passes w ≡ true → Evaluated (view w) u p r) where
  reply-after : passes m ≡ true → Evaluated (after es (view m)) (newest es (view m) t) p r
  unfolding after newest
  reply-after q =
      let k = a.along q in
      let w-valid = passes-valid w (a.passing q) in
      subst (λ (x : Model). Evaluated x (newest es (view m) t) p r) (sym k.after)
      (subst (λ (x : Tag). Evaluated k.model x p r) (sym k.newest)
      (evaluated_agrees w-valid k.valid (agrees (same_sym k.same)) (yes (a.passing q))))

  pub at_end : Steadied es m t p w r
  unfolding after
  at_end = record {
    invalid = λ q. record { model = a.invalid q; reply = no (ap passes (a.invalid q) ∙ q) };
    passing = a.passing;
    model = λ q. subst (λ (x : Model). Same x (view w)) (sym (a.along q).after) (a.along q).same;
    reply = reply-after;
    steady = λ q c s. steady-number es (view m) t p r (passes-valid m q) c s (reply-after q);
  }
