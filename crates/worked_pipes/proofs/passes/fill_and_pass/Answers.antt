-- The purse has segments enough for each call.
use Rattle.std.proofs.Common.{arith}
use Rattle.worked_lots.proofs.WorkedLemmas.{ready_untold, untold_on}
use Rattle.worked_pipes.proofs.PipeLemmas.{both_count, both_join, first_written, none_held, passed, reach_of, rested, room_of, second_read}
use Rattle.worked_pipes.proofs.passes.fill_and_pass.Goals as goal

pub fill-requires-clause-room : goal.fill-requires-clause-room
fill-requires-clause-room g c = omega (arith, c.requires.room, none_held c.args.input.now c.args.input.now.stored.room 3 c.requires.fresh)

pub fill-requires-clause-supply : goal.fill-requires-clause-supply
fill-requires-clause-supply g c = omega (arith, c.requires.enough)

pub returns-in-Err : goal.returns-in-Err
returns-in-Err g c =
    first_written _ _ c.args.purse.now c.fill.new.purse c.args.input.now c.fill.new.lot c.args.out.now c.fill.ensures

pub rest-requires : goal.rest-requires
rest-requires g c =
    ready_untold _ c.fill.new.lot c.fill.new.purse (untold_on _ _ _ c.requires.untold c.fill.ensures.told)
    (omega (
      arith,
      both_count _ _ c.args.purse.now c.fill.new.purse c.args.input.now c.fill.new.lot c.args.out.now c.args.out.now (first_written _ _ c.args.purse.now c.fill.new.purse c.args.input.now c.fill.new.lot c.args.out.now c.fill.ensures),
      c.requires.room,
      c.fill.ensures.purse_room,
      none_held c.args.input.now c.args.input.now.stored.room 3 c.requires.fresh,
      none_held c.args.out.now c.args.input.now.stored.room 3 c.requires.fresh_out,
    ))

pub returns-in-Err-rest : goal.returns-in-Err-rest
returns-in-Err-rest g c =
    rested _ _ _ c.args.purse.now c.fill.new.purse c.rest.new.purse c.args.input.now c.fill.new.lot c.rest.new.self c.args.out.now c.fill.ensures c.rest.ensures.preserves

pub pass-requires-clause-untold : goal.pass-requires-clause-untold
pass-requires-clause-untold g c = untold_on _ _ _ (untold_on _ _ _ c.requires.untold c.fill.ensures.told) c.rest.ensures.preserves.told

pub pass-requires-clause-supply : goal.pass-requires-clause-supply
pass-requires-clause-supply g c =
    omega (arith, both_count _ _ c.args.purse.now c.rest.new.purse c.args.input.now c.rest.new.self c.args.out.now c.args.out.now (rested _ _ _ c.args.purse.now c.fill.new.purse c.rest.new.purse c.args.input.now c.fill.new.lot c.rest.new.self c.args.out.now c.fill.ensures c.rest.ensures.preserves), c.rest.ensures.rests, (rested _ _ _ c.args.purse.now c.fill.new.purse c.rest.new.purse c.args.input.now c.fill.new.lot c.rest.new.self c.args.out.now c.fill.ensures c.rest.ensures.preserves).rooms 0 c.args.input.now, (rested _ _ _ c.args.purse.now c.fill.new.purse c.rest.new.purse c.args.input.now c.fill.new.lot c.rest.new.self c.args.out.now c.fill.ensures c.rest.ensures.preserves).reach 0 c.args.input.now, reach_of c.args.input.now c.args.input.now.stored.room 3 c.requires.fresh, none_held c.args.input.now c.args.input.now.stored.room 3 c.requires.fresh, none_held c.args.out.now c.args.input.now.stored.room 3 c.requires.fresh_out, c.requires.enough)

pub pass-requires-clause-room : goal.pass-requires-clause-room
pass-requires-clause-room g c =
    omega (arith, both_count _ _ c.args.purse.now c.rest.new.purse c.args.input.now c.rest.new.self c.args.out.now c.args.out.now (rested _ _ _ c.args.purse.now c.fill.new.purse c.rest.new.purse c.args.input.now c.fill.new.lot c.rest.new.self c.args.out.now c.fill.ensures c.rest.ensures.preserves), (rested _ _ _ c.args.purse.now c.fill.new.purse c.rest.new.purse c.args.input.now c.fill.new.lot c.rest.new.self c.args.out.now c.fill.ensures c.rest.ensures.preserves).purse_room, none_held c.args.input.now c.args.input.now.stored.room 3 c.requires.fresh, none_held c.args.out.now c.args.input.now.stored.room 3 c.requires.fresh_out, c.requires.room)

pub read_all-requires-clause-untold : goal.read_all-requires-clause-untold
read_all-requires-clause-untold g c = untold_on _ _ _ (untold_on _ _ _ (untold_on _ _ _ c.requires.untold c.fill.ensures.told) c.rest.ensures.preserves.told) c.pass.ensures.passes.told

pub read_all-requires-clause-room : goal.read_all-requires-clause-room
read_all-requires-clause-room g c =
    omega (arith, both_count _ _ c.args.purse.now c.pass.new.purse c.args.input.now c.pass.new.input c.args.out.now c.pass.new.out (passed _ _ _ _ c.args.purse.now c.fill.new.purse c.rest.new.purse c.pass.new.purse c.args.input.now c.fill.new.lot c.rest.new.self c.pass.new.input c.args.out.now c.pass.new.out c.fill.ensures c.rest.ensures.preserves c.pass.ensures.passes), (passed _ _ _ _ c.args.purse.now c.fill.new.purse c.rest.new.purse c.pass.new.purse c.args.input.now c.fill.new.lot c.rest.new.self c.pass.new.input c.args.out.now c.pass.new.out c.fill.ensures c.rest.ensures.preserves c.pass.ensures.passes).purse_room, none_held c.args.input.now c.args.input.now.stored.room 3 c.requires.fresh, none_held c.args.out.now c.args.input.now.stored.room 3 c.requires.fresh_out, c.requires.room)

pub read_all-requires-clause-supply : goal.read_all-requires-clause-supply
read_all-requires-clause-supply g c =
    omega (arith, both_count _ _ c.args.purse.now c.pass.new.purse c.args.input.now c.pass.new.input c.args.out.now c.pass.new.out (passed _ _ _ _ c.args.purse.now c.fill.new.purse c.rest.new.purse c.pass.new.purse c.args.input.now c.fill.new.lot c.rest.new.self c.pass.new.input c.args.out.now c.pass.new.out c.fill.ensures c.rest.ensures.preserves c.pass.ensures.passes), (passed _ _ _ _ c.args.purse.now c.fill.new.purse c.rest.new.purse c.pass.new.purse c.args.input.now c.fill.new.lot c.rest.new.self c.pass.new.input c.args.out.now c.pass.new.out c.fill.ensures c.rest.ensures.preserves c.pass.ensures.passes).rooms 0 c.args.input.now, (passed _ _ _ _ c.args.purse.now c.fill.new.purse c.rest.new.purse c.pass.new.purse c.args.input.now c.fill.new.lot c.rest.new.self c.pass.new.input c.args.out.now c.pass.new.out c.fill.ensures c.rest.ensures.preserves c.pass.ensures.passes).rooms 1 c.args.input.now, (passed _ _ _ _ c.args.purse.now c.fill.new.purse c.rest.new.purse c.pass.new.purse c.args.input.now c.fill.new.lot c.rest.new.self c.pass.new.input c.args.out.now c.pass.new.out c.fill.ensures c.rest.ensures.preserves c.pass.ensures.passes).reach 1 c.args.input.now, c.in-Ok-pass.ensures.read, c.in-Ok-pass.ensures.written, reach_of c.args.out.now c.args.input.now.stored.room 3 c.requires.fresh_out, room_of c.args.out.now c.args.input.now.stored.room 3 c.requires.fresh_out, none_held c.args.input.now c.args.input.now.stored.room 3 c.requires.fresh, none_held c.args.out.now c.args.input.now.stored.room 3 c.requires.fresh_out, c.requires.enough)

pub returns-in-Ok-pass : goal.returns-in-Ok-pass
returns-in-Ok-pass g c =
    both_join _ _ _ c.args.purse.now c.pass.new.purse c.read_all.new.purse c.args.input.now c.pass.new.input c.pass.new.input c.args.out.now c.pass.new.out c.read_all.new.lot (passed _ _ _ _ c.args.purse.now c.fill.new.purse c.rest.new.purse c.pass.new.purse c.args.input.now c.fill.new.lot c.rest.new.self c.pass.new.input c.args.out.now c.pass.new.out c.fill.ensures c.rest.ensures.preserves c.pass.ensures.passes)
    (second_read _ _ c.pass.new.purse c.read_all.new.purse c.pass.new.input c.pass.new.out c.read_all.new.lot c.read_all.ensures)

pub returns-in-Err-pass : goal.returns-in-Err-pass
returns-in-Err-pass g c =
    passed _ _ _ _ c.args.purse.now c.fill.new.purse c.rest.new.purse c.pass.new.purse c.args.input.now c.fill.new.lot c.rest.new.self c.pass.new.input c.args.out.now c.pass.new.out c.fill.ensures c.rest.ensures.preserves c.pass.ensures.passes
