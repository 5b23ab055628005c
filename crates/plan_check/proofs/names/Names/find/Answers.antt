use Rattle.std.proofs.Common.{slice_get, sym, ap, ◌∙◌, arith}
use Rattle.plan_check.proofs.FirstPlaceLemmas.{no_place, first_place, read_place}
use Rattle.plan_check.proofs.names.Names.find.Goals as goal

pub returns-in_err-position : goal.returns-in_err-position
returns-in_err-position c =
    let none = no_place c.self.inside.first c.self.inside.places.items c.args.self.now c.as_str.result.now c.args.name.now c.self.invariant c.self.view_is c.as_str.ensures.value (sym c.in_err-position.ensures.value) in
    grind (arith, none)

pub returns : goal.returns
returns c =
    let place = c.in_ok-position.field-0.now in
    let read = c.get-2.ensures.lookup in
    read_place c.get-2.result c.deref.result.now place read.1 read.3
    ∙ ap (λ ps. slice_get ps place) c.deref.ensures.value
    ∙ sym (first_place c.self.inside.first c.self.inside.places.items c.args.self.now c.as_str.result.now c.args.name.now place c.self.invariant c.self.view_is c.as_str.ensures.value (sym c.in_ok-position.ensures.value))
