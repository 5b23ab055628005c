-- A new pool holds each of its segments once.
use Rattle.std.proofs.Common.{◌≡◌, ◌≤◌, [], vec_len, vec_capacity, arith}
use Rattle.segment_core.proofs.Holders.{IsLedger-blank_pages, IsPartOf-IsLedger}
use Rattle.segment_core.proofs.pool.Pool.open.Goals as goal

pub returns-in-Ok-fill-clause-ledger : goal.returns-in-Ok-fill-clause-ledger
returns-in-Ok-fill-clause-ledger c = rw c.in-Ok-fill.ensures.ok (IsLedger-blank_pages c.args.count c.args.size)

pub invariant_of-result : goal.invariant_of-result
invariant_of-result c =
    let len : vec_len c.fill.new.free ≡ c.args.count = c.in-Ok-fill.ensures.len in
    let reserved : c.args.count ≤ vec_capacity c.fill.new.free = omega (arith, c.fill.ensures.capacity, c.in-Ok.ensures.exact) in
    record {
      sized = cc;
      least = omega (arith, c.if-count-eq0.false);
      most = c.if-count-gt-MOST_SEGMENTS.false;
      own = rw c.in-Ok-fill.ensures.ok (IsPartOf-IsLedger c.args.count c.args.size _ [] (IsLedger-blank_pages c.args.count c.args.size));
      fits = omega (arith, len);
      reserved = reserved;
    }
