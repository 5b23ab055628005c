use Rattle.std.proofs.Common.{◌≤◌, ◌*◌, ◌/◌, arith}
use Rattle.std.proofs.Math.Nat.{le-div_iff_mul-le}
use Rattle.flow_model.specs.Segments.{worker_minimum}
use Rattle.plan_need.proofs.divide.allot.Goals as goal

pub overflow_sub-result-2 : goal.overflow_sub-result-2
overflow_sub-result-2 c =
    let fits : worker_minimum c.args.plan.now c.args.w * c.args.w ≤ c.args.budget = omega (arith, c.if-have-need.false, c.minimum-need.ensures.number, c.from-have.ensures) in
    let enough : worker_minimum c.args.plan.now c.args.w ≤ c.args.budget / c.args.w = (le-div_iff_mul-le (omega (arith, c.requires.least))).1 fits in
    omega (arith, c.solution_part-solution.ensures.bound, c.exchange_part-exchange.ensures.number, enough)

pub returns-clause-enough : goal.returns-clause-enough
returns-clause-enough c =
    let fits : worker_minimum c.args.plan.now c.args.w * c.args.w ≤ c.args.budget = omega (arith, c.if-have-need.false, c.minimum-need.ensures.number, c.from-have.ensures) in
    let enough : worker_minimum c.args.plan.now c.args.w ≤ c.args.budget / c.args.w = (le-div_iff_mul-le (omega (arith, c.requires.least))).1 fits in
    let back : (c.args.budget / c.args.w) * c.args.w ≤ c.args.budget = (le-div_iff_mul-le (omega (arith, c.requires.least))).0 (omega arith) in (
      omega (arith, c.solution_part-solution.ensures.bound, c.exchange_part-exchange.ensures.number, c.worker_minimum.ensures.number, enough),
      omega (arith, back),
    )
