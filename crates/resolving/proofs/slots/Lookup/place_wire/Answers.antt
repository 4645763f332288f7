-- `resolving::slots::Lookup::place_wire` meets its contract: `Laws/Places.antt`. Assumes nothing.
use mathlib.Core.Path.{sym, ap, ◌∙◌}
use Rattle.std.specs.Prelude.{None}
use Rattle.resolving.specs.Slots.{settled}
use Rattle.resolving.proofs.Laws.Places.{place-past, place-named, place-gap}
use Rattle.resolving.proofs.slots.Lookup.place_wire.Goals as goal

pub returns-in-Some-Some : goal.returns-in-Some-Some
returns-in-Some-Some c p =
    let found = c.in-Some-Some.ensures.lookup.3 in
    c.wire.ensures p ∙ sym (ap (settled c.args.self.now.model.now) (place-named c.args.l.now c.args.p c.live_places.ensures.rows found.0 _ (sym c.in-Some-Some.field-0-is ∙ found.1 None)))

pub returns-in-Some-None : goal.returns-in-Some-None
returns-in-Some-None c p =
    let found = c.in-Some-None.ensures.lookup.3 in
    sym (ap (settled c.args.self.now.model.now) (place-gap c.args.l.now c.args.p c.live_places.ensures.rows found.0 (sym c.in-Some-None.field-0-is ∙ found.1 None)))

pub returns-in-None : goal.returns-in-None
returns-in-None c p = sym (ap (settled c.args.self.now.model.now) (place-past c.args.l.now c.args.p c.live_places.ensures.rows c.in-None.ensures.lookup.3))
