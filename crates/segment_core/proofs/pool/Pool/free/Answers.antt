-- A pool that holds a whole ledger has all of its segments.
use Rattle.std.proofs.Common.{length, ap, arith}
use Rattle.segment_core.specs.Segments.{PoolView}
use Rattle.segment_core.proofs.Holders.{length-free}
use Rattle.segment_core.proofs.pool.Pool.free.Goals as goal

pub returns-clause-home : goal.returns-clause-home
returns-clause-home c ledger =
    omega (arith, length-free c.args.self.now ledger, c.len.ensures, c.self.inside.free.ok.0, ap (λ (v : PoolView). length v.free) c.self.view_is)
