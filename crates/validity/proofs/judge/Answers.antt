-- `validity::judge` meets its contract: `Laws/Passes.antt`. Assumes nothing.
use mathlib.Core.Path.{◌≡◌, refl, sym, ◌∙◌, ap}
use mathlib.Core.Bool.{and-true}
use mathlib.Core.List.{map}
use borrow.Author.Tests.{le-leb, lt-leb}
use native.Mathlib.Omega.{arith}
use lib.Dec.{leb}
use lib.ListN.{take, length}
use Rattle.std.proofs.Common.{rules}
use Rattle.model.specs.View.{rows, every, component_of, list_of}
use Rattle.distinct_tags.proofs.Laws.Behind.{distinct_rows}
use Rattle.sound_lists.specs.Sound.{list_sound}
use Rattle.validity.proofs.Laws.Passes.{judged, checks, asked, unasked, checks_passes}
use Rattle.validity.proofs.judge.Goals as goal
use Rattle.validity.proofs.judge.Goals.{Joined-distinct, then-m-components, else-m-components, then-m-lists, else-m-lists, then-lists_sound, else-lists_sound, then-components_sound, else-components_sound, then-distinct, else-distinct}

-- what the six tests before the default's came to
six : (c : Joined-distinct) → c.if-distinct.value ≡ every (take 6 (judged c.args.m.now))
unfolding checks rows
six c =
    let m = c.args.m.now in
    let room : length m.components ≡ 64 = search rules in
    let list_room : length m.lists ≡ 128 = search rules in
    let v1 : c.if-m-components.value ≡ every (take 2 (judged m)) = elim c.if-m-components.branch [
      | then-m-components w ↦ asked (take 1 (judged m)) _ (sym (and-true _)) (le-leb m.component_count 64 (omega (arith, room, w.if-m-components.true))) (w.value-is ∙ ap (leb m.list_count) list_room)
      | else-m-components w ↦ unasked (take 1 (judged m)) _ (sym (and-true _)) (lt-leb m.component_count 64 (omega (arith, room, w.if-m-components.false))) (w.value-is ∙ ap (leb m.component_count) room)
    ] in
    let v2 : c.if-m-lists.value ≡ every (take 3 (judged m)) = elim c.if-m-lists.branch [
      | then-m-lists w ↦ asked (take 2 (judged m)) _ v1 w.if-m-lists.true (w.value-is ∙ (w.lists_sound.ensures ∙ ap (λ ls. every (map list_sound ls)) w.live_lists.ensures.rows))
      | else-m-lists w ↦ unasked (take 2 (judged m)) _ v1 w.if-m-lists.false w.value-is
    ] in
    let v3 : c.if-lists_sound.value ≡ every (take 4 (judged m)) = elim c.if-lists_sound.branch [
      | then-lists_sound w ↦ asked (take 3 (judged m)) _ v2 w.if-lists_sound.true (w.value-is ∙ w.components_sound.ensures)
      | else-lists_sound w ↦ unasked (take 3 (judged m)) _ v2 w.if-lists_sound.false w.value-is
    ] in
    let v4 : c.if-components_sound.value ≡ every (take 5 (judged m)) = elim c.if-components_sound.branch [
      | then-components_sound w ↦ asked (take 4 (judged m)) _ v3 w.if-components_sound.true (w.value-is ∙ (w.distinct.ensures ∙ distinct_rows component_of m.components m.component_count w.live_components.ensures.rows))
      | else-components_sound w ↦ unasked (take 4 (judged m)) _ v3 w.if-components_sound.false w.value-is
    ] in
    elim c.if-distinct.branch [
      | then-distinct w ↦ asked (take 5 (judged m)) _ v4 w.if-distinct.true (w.value-is ∙ (w.distinct-then-distinct.ensures ∙ distinct_rows list_of m.lists m.list_count w.live_lists-then-distinct.ensures.rows))
      | else-distinct w ↦ unasked (take 5 (judged m)) _ v4 w.if-distinct.false w.value-is
    ]

pub returns-then-distinct-2-clause-told : goal.returns-then-distinct-2-clause-told
unfolding checks
returns-then-distinct-2-clause-told c = let m = c.args.m.now in asked (take 6 (judged m)) _ (six c.before.before) c.if-distinct-2.true c.default_sound.ensures ∙ checks_passes m

pub returns-else-distinct-2-clause-told : goal.returns-else-distinct-2-clause-told
unfolding checks
returns-else-distinct-2-clause-told c = let m = c.args.m.now in unasked (take 6 (judged m)) _ (six c.before) c.if-distinct-2.false refl ∙ checks_passes m
