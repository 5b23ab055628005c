-- The free segments and the purse's together are segments of the pool, and the list has space for all of these.
use Rattle.std.proofs.Common.{◌≡◌, ◌++◌, List, arith, ap, sym, subst, length, length-append}
use Rattle.std.proofs.lemmas.Grind.{common_steps}
use Rattle.segment_core.specs.Segments.{SegmentView, PoolView}
use Rattle.segment_core.specs.Ledger.{MayReturn, IsPartOf}
use Rattle.segment_core.proofs.Holders.{IsPartOf-MayReturn, length-IsPartOf}
use Rattle.segment_core.proofs.pool.Pool.restore.Goals as goal

together : (total size : _) (free : List SegmentView) (pool : PoolView) (pages : List SegmentView) → record { total = total; size = size; free = free } ≡ pool → IsPartOf total size free → MayReturn pool pages → IsPartOf total size (free ++ pages)
together total size free pool pages is part may =
    let P : PoolView → _ = λ v. MayReturn v pages in IsPartOf-MayReturn _ pages part (subst P (sym is) may)

pub unwrap-requires : goal.unwrap-requires
unwrap-requires c =
    let all = together c.self.inside.total c.self.inside.size c.self.inside.free.items _ c.args.p.pages c.self.view_is c.self.invariant.own c.requires in
    c.append.ensures.succeeds (omega (arith, length-IsPartOf _ _ _ all, length-append c.self.inside.free.items c.args.p.pages))

pub invariant_of-self : goal.invariant_of-self
invariant_of-self c =
    let all = together c.self.inside.total c.self.inside.size c.self.inside.free.items _ c.args.p.pages c.self.view_is c.self.invariant.own c.requires in
    let e : c.append.new.self.items ≡ c.self.inside.free.items ++ c.args.p.pages = grind (arith, common_steps) in
    record {
      sized = c.self.invariant.sized;
      least = c.self.invariant.least;
      most = c.self.invariant.most;
      own = rw e all;
      fits = omega (arith, c.append.new.self.ok.0, ap length e, length-IsPartOf _ _ _ all);
      reserved = omega arith;
    }
