-- `decode` meets its contract. Assumes nothing.
use mathlib.Core.Path.{sym, ◌∙◌}
use native.Mathlib.Omega.{arith}
use Rattle.model_bytes.proofs.Laws.Decoding.{head, none-headed, none-default, none-components, none-lists, model_read}
use Rattle.model_bytes.proofs.decode.decode.Goals as goal

pub returns-then-not-is_headed : goal.returns-then-not-is_headed
returns-then-not-is_headed c = none-headed _ (sym c.is_headed.ensures ∙ c.if-not-is_headed.true)

pub read_place-requires : goal.read_place-requires
read_place-requires c = omega (arith, (head c.args.bytes.now (sym c.is_headed.ensures ∙ c.if-not-is_headed.false)).size)

pub returns-in_err-default : goal.returns-in_err-default
returns-in_err-default c = rw c.from_residual.ensures (none-default _ (sym c.is_headed.ensures ∙ c.if-not-is_headed.false) c.in_err-default.ensures)

pub read_components-requires : goal.read_components-requires
read_components-requires c =
    let hd = head c.args.bytes.now (sym c.is_headed.ensures ∙ c.if-not-is_headed.false) in
    (omega (arith, c.read_word-component_count.ensures, hd.components), hd.size)

pub returns-in_err-components : goal.returns-in_err-components
returns-in_err-components c = rw c.from_residual-in_err-components.ensures (none-components _ (sym c.is_headed.ensures ∙ c.if-not-is_headed.false) c.read_word-component_count.ensures c.in_err-components.ensures)

pub read_lists-requires : goal.read_lists-requires
read_lists-requires c =
    let hd = head c.args.bytes.now (sym c.is_headed.ensures ∙ c.if-not-is_headed.false) in
    (omega (arith, c.read_word-list_count.ensures, hd.lists), hd.size)

pub returns-in_err-lists : goal.returns-in_err-lists
returns-in_err-lists c = rw c.from_residual-in_err-lists.ensures (none-lists _ (sym c.is_headed.ensures ∙ c.if-not-is_headed.false) c.read_word-list_count.ensures c.in_err-lists.ensures)

pub returns : goal.returns
returns c = model_read _ (sym c.is_headed.ensures ∙ c.if-not-is_headed.false) _ c.read_word-component_count.ensures c.read_word-list_count.ensures c.in_ok-components.ensures c.in_ok-lists.ensures c.in_ok-default.ensures
