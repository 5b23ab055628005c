-- The segment that was kept back goes home, and then both lots' segments.
use Rattle.std.proofs.Common.{◌≡◌, ℕ, ◌+◌, ap, subst, arith, length, option_to_list}
use Rattle.segment_core.specs.Segments.{segment_sum}
use Rattle.lot_store.specs.Lots.{held}
use Rattle.worked_lots.proofs.WorkedLemmas.{ready_untold, untold_on}
use Rattle.worked_pipes.proofs.PipeLemmas.{both_count, both_home, count_one, none_held, put_count, taken_count}
use Rattle.worked_pipes.proofs.passes.with_lots.Goals as goal

pub put-requires : goal.put-requires
put-requires g c = omega (arith, both_count _ _ c.take.new.self c.fill_and_pass-answer.new.purse c.args.input c.fill_and_pass-answer.new.input c.args.out c.fill_and_pass-answer.new.out c.fill_and_pass-answer.ensures, taken_count c.args.purse.now.pages c.take.new.self.pages c.take.result c.in-Some.spare c.in-Some.is c.take.ensures.segments, c.requires.room, c.take.ensures.room, c.fill_and_pass-answer.ensures.purse_room, none_held c.args.input c.args.input.stored.room 3 c.requires.fresh, none_held c.args.out c.args.input.stored.room 3 c.requires.fresh_out)

pub drop_lot-first-requires-clause-ready : goal.drop_lot-first-requires-clause-ready
drop_lot-first-requires-clause-ready g c =
    ready_untold _ c.fill_and_pass-answer.new.input c.put.new.self (untold_on _ _ _ c.requires.untold c.fill_and_pass-answer.ensures.told)
    (omega (arith, both_count _ _ c.take.new.self c.fill_and_pass-answer.new.purse c.args.input c.fill_and_pass-answer.new.input c.args.out c.fill_and_pass-answer.new.out c.fill_and_pass-answer.ensures, taken_count c.args.purse.now.pages c.take.new.self.pages c.take.result c.in-Some.spare c.in-Some.is c.take.ensures.segments, put_count c.fill_and_pass-answer.new.purse.pages c.put.new.self.pages c.in-Some.spare c.put.ensures.pages, c.put.ensures.room, c.requires.room, c.take.ensures.room, c.fill_and_pass-answer.ensures.purse_room, none_held c.args.input c.args.input.stored.room 3 c.requires.fresh, none_held c.args.out c.args.input.stored.room 3 c.requires.fresh_out))

pub drop_lot-second-requires-clause-supply : goal.drop_lot-second-requires-clause-supply
drop_lot-second-requires-clause-supply g c some =
    omega (arith, put_count c.fill_and_pass-answer.new.purse.pages c.put.new.self.pages c.in-Some.spare c.put.ensures.pages, count_one _ _ c.fill_and_pass-answer.new.input c.drop_lot-first.new.self c.put.new.self c.drop_lot-first.new.purse _ c.drop_lot-first.ensures.preserves, ap (λ l. length (held l)) c.drop_lot-first.ensures.empty)

pub drop_lot-second-requires-clause-ready : goal.drop_lot-second-requires-clause-ready
drop_lot-second-requires-clause-ready g c =
    ready_untold _ c.fill_and_pass-answer.new.out c.drop_lot-first.new.purse (untold_on _ _ _ (untold_on _ _ _ c.requires.untold c.fill_and_pass-answer.ensures.told) c.drop_lot-first.ensures.preserves.told)
    (omega (arith, both_count _ _ c.take.new.self c.fill_and_pass-answer.new.purse c.args.input c.fill_and_pass-answer.new.input c.args.out c.fill_and_pass-answer.new.out c.fill_and_pass-answer.ensures, taken_count c.args.purse.now.pages c.take.new.self.pages c.take.result c.in-Some.spare c.in-Some.is c.take.ensures.segments, put_count c.fill_and_pass-answer.new.purse.pages c.put.new.self.pages c.in-Some.spare c.put.ensures.pages, count_one _ _ c.fill_and_pass-answer.new.input c.drop_lot-first.new.self c.put.new.self c.drop_lot-first.new.purse _ c.drop_lot-first.ensures.preserves, c.drop_lot-first.ensures.preserves.purse_room, c.put.ensures.room, c.requires.room, c.take.ensures.room, c.fill_and_pass-answer.ensures.purse_room, none_held c.args.input c.args.input.stored.room 3 c.requires.fresh, none_held c.args.out c.args.input.stored.room 3 c.requires.fresh_out))

pub returns-in-Ok-second : goal.returns-in-Ok-second
returns-in-Ok-second g c =
    both_home _ _ _ _ _ c.args.purse.now c.take.new.self c.fill_and_pass-answer.new.purse c.put.new.self c.drop_lot-first.new.purse c.drop_lot-second.new.purse
    c.args.input c.fill_and_pass-answer.new.input c.drop_lot-first.new.self c.args.out c.fill_and_pass-answer.new.out c.drop_lot-second.new.self c.in-Some.spare _ _
    (subst (λ r. (h : ℕ → ℕ → ℕ) → segment_sum h c.take.new.self.pages + segment_sum h (option_to_list r) ≡ segment_sum h c.args.purse.now.pages) c.in-Some.is c.take.ensures.segments)
    c.fill_and_pass-answer.ensures c.put.ensures.segments c.drop_lot-first.ensures.preserves c.drop_lot-second.ensures.preserves
    (ap held c.requires.fresh) (ap held c.requires.fresh_out) (ap held c.drop_lot-first.ensures.empty) (ap held c.drop_lot-second.ensures.empty)

pub returns-in-Err-second : goal.returns-in-Err-second
returns-in-Err-second g c =
    both_home _ _ _ _ _ c.args.purse.now c.take.new.self c.fill_and_pass-answer.new.purse c.put.new.self c.drop_lot-first.new.purse c.drop_lot-second.new.purse
    c.args.input c.fill_and_pass-answer.new.input c.drop_lot-first.new.self c.args.out c.fill_and_pass-answer.new.out c.drop_lot-second.new.self c.in-Some.spare _ _
    (subst (λ r. (h : ℕ → ℕ → ℕ) → segment_sum h c.take.new.self.pages + segment_sum h (option_to_list r) ≡ segment_sum h c.args.purse.now.pages) c.in-Some.is c.take.ensures.segments)
    c.fill_and_pass-answer.ensures c.put.ensures.segments c.drop_lot-first.ensures.preserves c.drop_lot-second.ensures.preserves
    (ap held c.requires.fresh) (ap held c.requires.fresh_out) (ap held c.drop_lot-first.ensures.empty) (ap held c.drop_lot-second.ensures.empty)

pub returns-in-Err : goal.returns-in-Err
returns-in-Err g c =
    both_home _ _ _ _ _ c.args.purse.now c.take.new.self c.fill_and_pass-answer.new.purse c.put.new.self c.drop_lot-first.new.purse c.drop_lot-second.new.purse
    c.args.input c.fill_and_pass-answer.new.input c.drop_lot-first.new.self c.args.out c.fill_and_pass-answer.new.out c.drop_lot-second.new.self c.in-Some.spare _ _
    (subst (λ r. (h : ℕ → ℕ → ℕ) → segment_sum h c.take.new.self.pages + segment_sum h (option_to_list r) ≡ segment_sum h c.args.purse.now.pages) c.in-Some.is c.take.ensures.segments)
    c.fill_and_pass-answer.ensures c.put.ensures.segments c.drop_lot-first.ensures.preserves c.drop_lot-second.ensures.preserves
    (ap held c.requires.fresh) (ap held c.requires.fresh_out) (ap held c.drop_lot-first.ensures.empty) (ap held c.drop_lot-second.ensures.empty)
