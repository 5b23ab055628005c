use Rattle.std.proofs.Common.{ap, subst}
use Rattle.plan_check.specs.Places.{Place}
use Rattle.plan_check.specs.FirstPlaces.{NotesFirst}
use Rattle.plan_check.proofs.FirstPlaceLemmas.{shows_next}
use Rattle.plan_check.proofs.names.first_places.Goals as goal

pub loop-position-preserved : goal.loop-position-preserved
loop-position-preserved c =
    let old = c.loop-position.first in
    let new = c.note_first.new.first in
    let place = c.index-places-position.result in
    let notes = subst (λ name. NotesFirst old name c.loop-position.position new) (ap (λ (p : Place). p.name) c.place.view_is) c.in_ok-note_first.ensures in
    shows_next old new c.args.places.now c.loop-position.position place c.loop-position-test.true c.index-places-position.is c.loop-position.invariant notes
