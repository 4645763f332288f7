-- `show_list` meets its contract. Assumes nothing.
use Rattle.std.proofs.Common.{rules, ◌≡◌, Some}
use Rattle.held.specs.Reading.{list_read}
use Rattle.showing.proofs.Laws.{list_shown}
use Rattle.showing.proofs.tables.show_list.Goals as goal

pub returns-in-Ok-Some : goal.returns-in-Ok-Some
unfolding list_read
returns-in-Ok-Some c =
    let e : ◌≡◌ c.in-Ok-Some.field-0 (Some c.in-Ok-Some.l) = search rules in
    rw c.in-Ok-Some.is (rw e (λ f q. rw q (list_shown c.in-Ok-Some.l c.live_places.ensures.rows c.live_places.ensures.bound c.write_places.ensures c.say_tagged.ensures)))
