-- `tagged_list` meets its contract. Assumes nothing.
use Rattle.std.proofs.Common.{rules}
use mathlib.Core.Path.{ap, ◌∙◌}
use Rattle.model.specs.Model.{list}
use Rattle.model.specs.View.{view}
use Rattle.held.specs.Reading.{list_read}
use Rattle.showing.specs.Tables.{short, under_tag}
use Rattle.showing.proofs.Laws.{finds_7, finds_1, finds, list_found}
use Rattle.showing.proofs.tables.tagged_list.Goals as goal

pub returns-in_err-m : goal.returns-in_err-m
returns-in_err-m c = finds_7 list_read (λ m. short c.args.tag.now (under_tag c.args.tag.now (list m c.args.tag.now))) _ _ _ c.in_err-m.ensures c.from_residual.ensures.1

pub returns-in_err-tag : goal.returns-in_err-tag
returns-in_err-tag c = finds_1 list_read c.args.tag.now (λ m. list m c.args.tag.now) _ c.in_ok-m.ensures _ c.in_err-tag.ensures c.from_residual-in_err-tag.ensures.1

pub returns : goal.returns
returns c =
    let made = c.in_ok-tag.ensures.1.labelled.bytes in
    finds list_read c.args.tag.now (λ m. list m c.args.tag.now) _ c.in_ok-m.ensures c.map.result c.in_ok-tag.ensures.0 (c.get_inputs.ensures ∙ ap (list (view c.in_ok-m.m)) made)
    (list_found c.args.tag.now c.get_inputs.result c.map.result _ c.map.ensures.cases (λ x y k. search rules))
