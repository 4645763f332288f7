-- A form's order. Assumes nothing.
use Prim.Native.Nat.{ℕ, ◌+◌, ◌*◌, ◌≤◌, ◌<◌}
use mathlib.Core.Path.{◌≡◌, refl, sym, ap, subst, ◌∙◌}
use mathlib.Core.Bool.{Bool, true, false, not}
use mathlib.Core.List.{List, []}
use mathlib.Core.Option.{Option, none, some}
use native.Mathlib.Omega.{arith}
use lib.ListN.{length, get_or, length-map, get_or-map}
use Rattle.std.specs.Prelude.{Some, Result, Ok, Err, IsErrAnd}
use Rattle.tag.specs.Tags.{Tag, empty}
use Rattle.tag.specs.View.{bytes_of}
use Rattle.model.specs.declared.implicit_model.Model.{Model as Record}
use Rattle.model.specs.declared.model_error.Refusal.{Refusal}
use Rattle.model.specs.Answer.{number_of, refusal_of}
use Rattle.model.specs.Edit.{Answer, done, made, refused}
use Rattle.model.specs.Model.{Model}
use Rattle.model.specs.Form.{Compiling as Ending, ordered, stopped, Compiled, refusal, invalid}
use Rattle.model.specs.View.{rows, component_of, components_of, view, fits, passes}
use Rattle.model.proofs.Laws.Bool.{true→T}
use Rattle.held.proofs.Laws.Rows.{no_entry, rows_at}
use Rattle.graph.specs.declared.computation_graph.Graph.{Graph}
use Rattle.graph.specs.Compile.{tag_at, positions_of, OrdersAs, RefusesAs}
use Rattle.nodes.proofs.Laws.Wires.{take_at}
use Rattle.evaluating.specs.Evaluate.{Workable}
use Rattle.evaluating.proofs.Laws.Along.{room, held, at_hand}
use Rattle.layout.proofs.Kept.{kept-none}
use Rattle.rows.specs.Rows.{tag_in, rows_in}
use Rattle.rows.specs.Written.{Wrote}
use Rattle.rows.proofs.Laws.Local.{tag_local}
use Rattle.rows.proofs.Laws.Writing.{rows-wrote-none, rows-wrote-more}
use Rattle.model_bytes.specs.ModelBytes.{model_in}
use Rattle.model_bytes.specs.Calls.{Decodes}
use Rattle.report.specs.Report.{Report}
use Rattle.opened.specs.Said.{answered, of_number, Says}
use Rattle.opened.proofs.Laws.Said.{says_as, judged}
use Rattle.compiling.specs.Order.{Ends, tag_row, OrderIn, Orders, ending_of, Compiles, tags_of}

-- a refusal as an ending
abbrev ending : Answer → Ending
ending (refused n u i) = stopped n u i
ending done = ordered
ending (made u) = ordered

-- ---- 7 judged on the record and on the model

module _ (m : Record) (t : Tag) (fit : fits m ≡ true) where
  refused_as : (r : Refusal) → RefusesAs m t r → Compiled (view m) t (stopped (number_of r.error) (bytes_of r.tag) r.index) []
  refused_as r x = go (passes m) refl
    where
      go : (b : Bool) → passes m ≡ b → Compiled (view m) t (stopped (number_of r.error) (bytes_of r.tag) r.index) []
      go true e = x.fitting e
      go false e = subst (λ (y : Ending). Compiled (view m) t y []) (sym (ap ending (x.unfit e))) (refusal (invalid (true→T _ (ap not (judged m fit ∙ e)))))

-- ---- the tags of an order

module _ (m : Record) (g : Graph) (w : Workable m g) where
  order_tag : (k : ℕ) → k < g.count → bytes_of (get_or m.components (get_or g.order k 0) no_entry).tag ≡ tag_at m (get_or g.order k 0)
  unfolding bytes_of
  order_tag k h =
      sym
      (get_or-map (λ e. e.0) (components_of m) (get_or g.order k 0) (component_of no_entry)
      ∙ ap (λ e. e.0) (rows_at component_of m.components m.component_count (get_or g.order k 0) no_entry (held m g w.target w.compiled (get_or g.order k 0) (take_at g.order g.count k h (room m g w.target w.compiled)))))

  pub tags-none : (s : List ℕ) → Wrote (λ v. rows_in (tag_row v) 0) (some (rows (tag_at m) 0 g.order)) 0 (40 * 0) s s
  tags-none s = rows-wrote-none (tag_at m) tag_row 0 40 (λ k. 40 * k) (λ k i h. omega arith) (λ s t k a. tag_local a) s g.order

  tags-more : {s t u : List ℕ} {i : ℕ} → i < g.count → Wrote (λ v. rows_in (tag_row v) i) (some (rows (tag_at m) i g.order)) 0 (40 * i) s t
      → Wrote (λ v. tag_in v (40 * i)) (some (bytes_of (get_or m.components (get_or g.order i 0) no_entry).tag)) (40 * i) 40 t u
      → Wrote (λ v. rows_in (tag_row v) (i + 1)) (some (rows (tag_at m) (i + 1) g.order)) 0 (40 * (i + 1)) s u
  tags-more {t = t} {u = u} {i = i} h p q =
      rows-wrote-more (tag_at m) tag_row 0 40 (λ k. 40 * k) (λ k i h. omega arith) (λ s t k a. tag_local a) _ g.order 0 (omega (arith, room m g w.target w.compiled)) (omega arith) (omega arith) p
      (subst (λ (b : Tag). Wrote (λ v. tag_in v (40 * i)) (some b) (40 * i) 40 t u) (order_tag i h) q)

  -- the same at a position of the order's slice
  pub tags-next : {xs s t u : List ℕ} {i : ℕ} → xs ≡ positions_of g → i < length xs → Wrote (λ v. rows_in (tag_row v) i) (some (rows (tag_at m) i g.order)) 0 (40 * i) s t
      → Wrote (λ v. tag_in v (40 * i)) (some (bytes_of (get_or m.components (get_or xs i 0) no_entry).tag)) (40 * i) 40 t u
      → Wrote (λ v. rows_in (tag_row v) (i + 1)) (some (rows (tag_at m) (i + 1) g.order)) 0 (40 * (i + 1)) s u
  tags-next {t = t} {u = u} {i = i} e h p q =
      let (lt, same) = at_hand m g w.target w.compiled e i h in
      tags-more lt p (subst (λ (y : ℕ). Wrote (λ v. tag_in v (40 * i)) (some (bytes_of (get_or m.components y no_entry).tag)) (40 * i) 40 t u) same q)

  pub tags-count : length (tags_of m g) ≡ g.count
  tags-count = length-map (positions_of g) (tag_at m) ∙ w.compiled.counted

  pub order-wrote : {s t : List ℕ} → 2560 ≤ length s → Wrote (λ v. rows_in (tag_row v) g.count) (some (rows (tag_at m) g.count g.order)) 0 (40 * g.count) s t → OrderIn (tags_of m g) s t
  unfolding rows
  order-wrote {s} {t} h q = record {
    tags = λ y. subst (λ (k : ℕ). Wrote (λ v. rows_in (tag_row v) k) (some (tags_of m g)) 0 (40 * k) s t) (sym tags-count) q;
    narrow = λ y. absurd (let z : ⊥ = omega arith in z);
  }

pub order-narrow : (o : List Tag) (s : List ℕ) → length s < 2560 → OrderIn o s s
order-narrow o s h = record { tags = λ y. absurd (let z : ⊥ = omega arith in z); narrow = λ y. refl }

order-none : (s : List ℕ) → OrderIn [] s s
unfolding rows_in
order-none s = record { tags = λ y. record { kept = kept-none s 0 0; holds = refl }; narrow = λ y. refl }

-- ---- dw_compile

ends : (s : List ℕ) (t : Tag) (m : Record) → model_in s ≡ some (view m) → (y : Ending) (o : List Tag) → Compiled (view m) t y o → Ends (model_in s) t y o
ends s t m x y o q = subst (λ (z : Option Model). Ends z t y o) (sym x) q

module _ (s : List ℕ) (t : Tag) {order : List ℕ} where
  -- a refusal handed on
  pub orders_7 : {a : Result ℕ Refusal} (e : Refusal) → (model_in s ≡ none) × (refusal_of e ≡ refused 7 empty 0) → IsErrAnd a (λ x. x ≡ e) → Orders s t order order a
  orders_7 {a = Ok n} e f p = absurd p
  orders_7 {a = Err x} e f p = record {
    tags = [];
    defined = subst (λ (o : Option Model). Ends o t (ending_of (Err x)) []) (sym f.0) (ap ending (ap refusal_of p ∙ f.1), refl);
    laid = order-none order;
    report = refl;
  }

  module _ (m : Record) (x : Decodes s (Some m)) where
    pub orders_refused : {a : Result ℕ Refusal} (e : Refusal) → RefusesAs m t e → IsErrAnd a (λ y. y ≡ e) → Orders s t order order a
    orders_refused {a = Ok n} e h p = absurd p
    orders_refused {a = Err r} e h p = record {
      tags = [];
      defined = ends s t m x.0 (ending_of (Err r)) [] (refused_as m t x.1 r (subst (RefusesAs m t) (sym p) h));
      laid = order-none order;
      report = refl;
    }

    pub orders : {g : Graph} {written : List ℕ} → OrdersAs m t g → OrderIn (tags_of m g) order written → Orders s t order written (Ok g.count)
    orders {g} h w = record {
      tags = tags_of m g;
      defined = ends s t m x.0 ordered (tags_of m g) h.compiled;
      laid = w;
      report = ap {B = Report} (answered empty) (sym (tags-count m g (record { target = t; compiled = h })));
    }

  pub compiles : {a : Result ℕ Refusal} {written out after : List ℕ} {code : ℕ} → Orders s t order written a → Says (of_number a) out after code → Compiles s t order written out after code
  compiles {a} o q = record { ending = ending_of a; tags = o.tags; defined = o.defined; laid = o.laid; says = says_as q o.report }
