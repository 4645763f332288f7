-- `float::extrema::ordered` meets its contract: `Laws/Extrema.antt`. Assumes nothing.
use Rattle.float.proofs.Laws.Extrema.{first_nan, second_nan, first_less, second_less, minus, plus}
use Rattle.float.proofs.extrema.ordered.Goals as goal

pub returns-then-is_nan : goal.returns-then-is_nan
returns-then-is_nan c = first_nan _ _ c.if-is_nan.ensures.value

pub returns-then-is_nan-2 : goal.returns-then-is_nan-2
returns-then-is_nan-2 c = second_nan _ _ c.if-is_nan.ensures.value c.if-is_nan-2.ensures.value

pub returns-then-a-b : goal.returns-then-a-b
returns-then-a-b c = first_less _ _ c.if-is_nan.ensures.value c.if-is_nan-2.ensures.value c.if-a-b.true

pub returns-then-b-a : goal.returns-then-b-a
returns-then-b-a c = second_less _ _ c.if-is_nan.ensures.value c.if-is_nan-2.ensures.value c.if-a-b.false c.if-b-a.true

pub returns-then-is_sign_negative : goal.returns-then-is_sign_negative
returns-then-is_sign_negative c = minus _ _ c.if-is_nan.ensures.value c.if-is_nan-2.ensures.value c.if-a-b.false c.if-b-a.false c.if-is_sign_negative.ensures

pub returns : goal.returns
returns c = plus _ _ c.if-is_nan.ensures.value c.if-is_nan-2.ensures.value c.if-a-b.false c.if-b-a.false c.if-is_sign_negative.ensures
