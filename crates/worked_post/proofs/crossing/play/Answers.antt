use Rattle.std.proofs.Common.{◌≡◌, ℕ, ◌<◌, List, [], ◌∙◌, ap, sym, subst, length, sum_by, All, arith}
use Rattle.std.proofs.lemmas.List.Elements.{All-nil}
use Rattle.std.proofs.lemmas.Result.{IfOk-at_ok}
use Rattle.segment_core.specs.Segments.{SegmentView, PurseView, segment_sum}
use Rattle.post_table.specs.Pairs.{pair_count}
use Rattle.post_table.specs.Views.{is_among}
use Rattle.worked_post.proofs.SwapLemmas.{ids_weigh-reverse, none_weighs, size_is, sized_as}
use Rattle.worked_post.proofs.CrowdLemmas.{below_all, unused_in, unused_out}
use Rattle.worked_post.proofs.crossing.play.Goals as goal
use Rattle.worked_post.proofs.crossing.play.Goals.{After-move_some}

-- the spares were taken out of segments of one size, and so are what is left
both_sized : (g : _) (c : After-move_some g) → All (λ (p : SegmentView). length p.bytes ≡ 4096) c.move_some.new.from.pages × All (λ (p : SegmentView). length p.bytes ≡ 4096) c.move_some.new.to.pages
both_sized g c =
    let empty : c.expect-spares.result ≡ record { room = 12; pages = [] } = IfOk-at_ok (λ (p : PurseView). p ≡ record { room = 12; pages = [] }) c.expect-spares.ensures c.open.ensures.ok in
    let none : All (λ (p : SegmentView). length p.bytes ≡ 4096) c.expect-spares.result.pages =
    subst (λ (v : PurseView). All (λ (p : SegmentView). length p.bytes ≡ 4096) v.pages) (sym empty) (All-nil (λ (p : SegmentView). length p.bytes ≡ 4096)) in
    c.move_some.ensures.sized 4096 c.requires.sized none

pub open-post-requires-clause-sized : goal.open-post-requires-clause-sized
open-post-requires-clause-sized g c = sized_as 4096 c.move_some.new.to.pages (both_sized g c).1

pub seat_all-requires-clause-sized : goal.seat_all-requires-clause-sized
seat_all-requires-clause-sized g c =
    let sized = both_sized g (goal.at.seat_all-requires-clause-sized g c).After-move_some in
    let size : c.open-post.result.0.size ≡ 4096 = c.open-post.ensures.post.1 ∙ size_is 4096 c.move_some.new.to.pages (omega (arith, c.move_some.ensures.to_len)) sized.1 in
    subst (λ (n : ℕ). All (λ (p : SegmentView). length p.bytes ≡ n) c.move_some.new.from.pages) (sym size) sized.0

pub close-home-requires-clause-met : goal.close-home-requires-clause-met
close-home-requires-clause-met g c = λ worker near.
    c.meet_all.ensures.here worker (ap (is_among worker) (c.work_at_once.ensures.here ∙ c.seat_all.ensures.here) ∙ below_all 4 worker (subst (λ (w : ℕ). worker < w) c.open-post.ensures.post.0 near))

pub returns : goal.returns
returns g c = record {
  segments = λ h.
      let n : ℕ = c.open-post.result.0.size in
      let both = both_sized g (goal.at.returns g c).After-move_some in
      let size : n ≡ 4096 = c.open-post.ensures.post.1 ∙ size_is 4096 c.move_some.new.to.pages (omega (arith, c.move_some.ensures.to_len)) both.1 in
      let sized : All (λ (p : SegmentView). length p.bytes ≡ n) c.move_some.new.to.pages = subst (λ (z : ℕ). All (λ (p : SegmentView). length p.bytes ≡ z) c.move_some.new.to.pages) (sym size) both.1 in
      let spares : sum_by (λ (i : ℕ). h i n) c.open-post.result.0.spares ≡ segment_sum h c.move_some.new.to.pages =
      ap (λ (l : List ℕ). sum_by (λ (i : ℕ). h i n) l) c.open-post.ensures.post.2 ∙ ids_weigh-reverse h n c.move_some.new.to.pages sized in
      let pairs : pair_count c.open-post.result.0.workers ≡ 12 = ap pair_count c.open-post.ensures.post.0 in
      let left : segment_sum h c.move_some-2.new.from.pages ≡ 0 = none_weighs h c.move_some-2.new.from.pages (omega (arith, c.close-home.ensures.count, c.move_some-2.ensures.from_len)) in
      let empty : c.expect-spares.result ≡ record { room = 12; pages = [] } = IfOk-at_ok (λ (p : PurseView). p ≡ record { room = 12; pages = [] }) c.expect-spares.ensures c.open.ensures.ok in
      let nothing : segment_sum h c.expect-spares.result.pages ≡ 0 = ap (λ (v : PurseView). segment_sum h v.pages) empty in
      omega (
        arith,
        c.move_some.ensures.segments h,
        c.seat_all.ensures.got h n,
        c.seat_all.ensures.given h n,
        unused_in h n c.seat_all.new.main.view c.seat_all.ensures.unused,
        unused_out h n c.seat_all.new.main.view c.seat_all.ensures.unused,
        c.work_at_once.ensures.swaps h,
        c.meet_all.ensures.given h n,
        c.meet_all.ensures.got h n,
        c.close-home.ensures.segments h,
        c.move_some-2.ensures.segments h,
      );
}
