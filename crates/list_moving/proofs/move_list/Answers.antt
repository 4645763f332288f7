-- `list_moving::move_list` meets its contract. Assumes nothing.
use mathlib.Core.Path.{◌≡◌, refl}
use lib.ListN.{length}
use Rattle.std.proofs.Common.{rules}
use Rattle.list_moving.proofs.Laws.Moving.{moved_none, moved-free, list_at, moved-over}
use Rattle.list_moving.proofs.move_list.Goals as goal

pub returns-in_default : goal.returns-in_default
returns-in_default c h = let a = c.args in moved_none a.m.now a.t a.u h _ c.find_list.ensures c.in_default.is

pub take_list-requires : goal.take_list-requires
take_list-requires c = list_at c.args.m.now c.find_list.ensures c.in-Some.is _ _ _ refl

pub returns-in_default-find_list : goal.returns-in_default-find_list
returns-in_default-find_list c h =
    let a = c.args in
    let size : length a.m.now.lists ≡ 128 = search rules in
    moved-free a.m.now a.t a.u h _ c.find_list.ensures size _ c.in-Some.is _ refl _ c.find_list-2.ensures c.in_default-find_list.is _ refl

pub returns : goal.returns
returns c h =
    let a = c.args in
    let size : length a.m.now.lists ≡ 128 = search rules in
    moved-over a.m.now a.t a.u h _ c.find_list.ensures size _ c.in-Some.is _ refl _ c.find_list-2.ensures _ c.in-Some-find_list.is _ refl _ c.take_list.ensures
