-- The lot is rewound, its rows are passed on, and both lots come to rest.
use Rattle.std.proofs.Common.{ap}
use Rattle.row_pipe.proofs.Passing.{passes_join, passes_read, places_on, ready_first, ready_on}
use Rattle.row_pipe.proofs.Resting.{can_begin, fits_beside, left_known, places_of, ready_pair, rows_given}
use Rattle.row_pipe.proofs.pipe.pass_and_rest.Goals as goal

pub pass_all-requires-clause-can : goal.pass_all-requires-clause-can
pass_all-requires-clause-can g c =
    let a = c.args in
    can_begin _ _ a.p.now.takes a.p.now.work a.input.now c.rewind.new.self a.out.now a.purse.now c.rewind.new.purse c.rewind.ensures.preserves c.rewind.ensures.at_first.ready.started c.requires.may
    (places_of _ a.p.now.takes a.p.now.work a.input.now a.out.now a.purse.now.pages c.requires.holds)

pub pass_all-requires-clause-places : goal.pass_all-requires-clause-places
pass_all-requires-clause-places g c =
    let a = c.args in
    places_on _ _ a.p.now.takes a.p.now.work a.input.now c.rewind.new.self a.out.now a.out.now a.purse.now c.rewind.new.purse
    (passes_read _ _ a.input.now c.rewind.new.self a.out.now a.purse.now c.rewind.new.purse c.rewind.ensures.preserves)
    (places_of _ a.p.now.takes a.p.now.work a.input.now a.out.now a.purse.now.pages c.requires.holds)

pub pass_all-requires-clause-left : goal.pass_all-requires-clause-left
pass_all-requires-clause-left g c =
    let a = c.args in
    left_known _ _ a.p.now.takes a.p.now.work a.input.now c.rewind.new.self a.out.now a.purse.now.pages (ap g.D.Spill.told c.rewind.ensures.disk) c.rewind.ensures.rows c.requires.holds

pub rewind-requires-clause-ready : goal.rewind-requires-clause-ready
rewind-requires-clause-ready g c =
    let a = c.args in
    ready_first _ a.purse.now a.input.now a.out.now (ready_pair _ a.p.now.takes a.p.now.work a.input.now a.out.now a.purse.now c.requires.may (places_of _ a.p.now.takes a.p.now.work a.input.now a.out.now a.purse.now.pages c.requires.holds))

pub rest_both-requires-clause-fits : goal.rest_both-requires-clause-fits
rest_both-requires-clause-fits g c =
    let a = c.args in
    fits_beside _ _ a.input.now c.pass_all.new.input a.out.now c.pass_all.new.out a.purse.now c.pass_all.new.purse (passes_join _ _ _ a.input.now c.rewind.new.self c.pass_all.new.input a.out.now a.out.now c.pass_all.new.out a.purse.now c.rewind.new.purse c.pass_all.new.purse (passes_read _ _ a.input.now c.rewind.new.self a.out.now a.purse.now c.rewind.new.purse c.rewind.ensures.preserves) c.pass_all.ensures.passes) c.requires.may.rests

pub rest_both-requires-clause-ready : goal.rest_both-requires-clause-ready
rest_both-requires-clause-ready g c =
    let a = c.args in
    ready_on _ _ a.input.now c.pass_all.new.input a.out.now c.pass_all.new.out a.purse.now c.pass_all.new.purse (passes_join _ _ _ a.input.now c.rewind.new.self c.pass_all.new.input a.out.now a.out.now c.pass_all.new.out a.purse.now c.rewind.new.purse c.pass_all.new.purse (passes_read _ _ a.input.now c.rewind.new.self a.out.now a.purse.now c.rewind.new.purse c.rewind.ensures.preserves) c.pass_all.ensures.passes) (ready_pair _ a.p.now.takes a.p.now.work a.input.now a.out.now a.purse.now c.requires.may (places_of _ a.p.now.takes a.p.now.work a.input.now a.out.now a.purse.now.pages c.requires.holds))

pub rest-requires : goal.rest-requires
rest-requires g c =
    let a = c.args in
    ready_first _ c.pass_all.new.purse c.pass_all.new.input c.pass_all.new.out (ready_on _ _ a.input.now c.pass_all.new.input a.out.now c.pass_all.new.out a.purse.now c.pass_all.new.purse (passes_join _ _ _ a.input.now c.rewind.new.self c.pass_all.new.input a.out.now a.out.now c.pass_all.new.out a.purse.now c.rewind.new.purse c.pass_all.new.purse (passes_read _ _ a.input.now c.rewind.new.self a.out.now a.purse.now c.rewind.new.purse c.rewind.ensures.preserves) c.pass_all.ensures.passes) (ready_pair _ a.p.now.takes a.p.now.work a.input.now a.out.now a.purse.now c.requires.may (places_of _ a.p.now.takes a.p.now.work a.input.now a.out.now a.purse.now.pages c.requires.holds)))

pub returns-in-Ok-pass_all-clause-rows : goal.returns-in-Ok-pass_all-clause-rows
returns-in-Ok-pass_all-clause-rows g c =
    let a = c.args in
    rows_given c.rest_both.result _ _ _ _ a.p.now.takes a.p.now.work a.input.now c.rewind.new.self a.out.now c.pass_all.new.out c.rest_both.new.out a.purse.now c.rewind.new.purse (ap g.D.Spill.told c.rewind.ensures.disk)
    (places_of _ a.p.now.takes a.p.now.work a.input.now a.out.now a.purse.now.pages c.requires.holds) c.rewind.ensures.rows (passes_read _ _ a.input.now c.rewind.new.self a.out.now a.purse.now c.rewind.new.purse c.rewind.ensures.preserves) c.in-Ok-pass_all.ensures.gives c.rest_both.ensures.rows

pub returns-in-Ok-pass_all-clause-preserves : goal.returns-in-Ok-pass_all-clause-preserves
returns-in-Ok-pass_all-clause-preserves g c =
    let a = c.args in
    passes_join _ _ _ a.input.now c.pass_all.new.input c.rest_both.new.input a.out.now c.pass_all.new.out c.rest_both.new.out a.purse.now c.pass_all.new.purse c.rest_both.new.purse (passes_join _ _ _ a.input.now c.rewind.new.self c.pass_all.new.input a.out.now a.out.now c.pass_all.new.out a.purse.now c.rewind.new.purse c.pass_all.new.purse (passes_read _ _ a.input.now c.rewind.new.self a.out.now a.purse.now c.rewind.new.purse c.rewind.ensures.preserves) c.pass_all.ensures.passes) c.rest_both.ensures.preserves

pub returns-in-Ok-rest-clause-preserves : goal.returns-in-Ok-rest-clause-preserves
returns-in-Ok-rest-clause-preserves g c =
    let a = c.args in
    passes_join _ _ _ a.input.now c.pass_all.new.input c.rest.new.self a.out.now c.pass_all.new.out c.pass_all.new.out a.purse.now c.pass_all.new.purse c.rest.new.purse (passes_join _ _ _ a.input.now c.rewind.new.self c.pass_all.new.input a.out.now a.out.now c.pass_all.new.out a.purse.now c.rewind.new.purse c.pass_all.new.purse (passes_read _ _ a.input.now c.rewind.new.self a.out.now a.purse.now c.rewind.new.purse c.rewind.ensures.preserves) c.pass_all.ensures.passes) (passes_read _ _ c.pass_all.new.input c.rest.new.self c.pass_all.new.out c.pass_all.new.purse c.rest.new.purse (c.rest.ensures.nothing (fits_beside _ _ a.input.now c.pass_all.new.input a.out.now c.pass_all.new.out a.purse.now c.pass_all.new.purse (passes_join _ _ _ a.input.now c.rewind.new.self c.pass_all.new.input a.out.now a.out.now c.pass_all.new.out a.purse.now c.rewind.new.purse c.pass_all.new.purse (passes_read _ _ a.input.now c.rewind.new.self a.out.now a.purse.now c.rewind.new.purse c.rewind.ensures.preserves) c.pass_all.ensures.passes) c.requires.may.rests)).0)

pub returns-in-Err-rest-clause-preserves : goal.returns-in-Err-rest-clause-preserves
returns-in-Err-rest-clause-preserves g c =
    let a = c.args in
    passes_join _ _ _ a.input.now c.pass_all.new.input c.rest.new.self a.out.now c.pass_all.new.out c.pass_all.new.out a.purse.now c.pass_all.new.purse c.rest.new.purse (passes_join _ _ _ a.input.now c.rewind.new.self c.pass_all.new.input a.out.now a.out.now c.pass_all.new.out a.purse.now c.rewind.new.purse c.pass_all.new.purse (passes_read _ _ a.input.now c.rewind.new.self a.out.now a.purse.now c.rewind.new.purse c.rewind.ensures.preserves) c.pass_all.ensures.passes) (passes_read _ _ c.pass_all.new.input c.rest.new.self c.pass_all.new.out c.pass_all.new.purse c.rest.new.purse (c.rest.ensures.nothing (fits_beside _ _ a.input.now c.pass_all.new.input a.out.now c.pass_all.new.out a.purse.now c.pass_all.new.purse (passes_join _ _ _ a.input.now c.rewind.new.self c.pass_all.new.input a.out.now a.out.now c.pass_all.new.out a.purse.now c.rewind.new.purse c.pass_all.new.purse (passes_read _ _ a.input.now c.rewind.new.self a.out.now a.purse.now c.rewind.new.purse c.rewind.ensures.preserves) c.pass_all.ensures.passes) c.requires.may.rests)).0)
