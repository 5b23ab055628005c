use Rattle.std.proofs.Common.{◌≡◌, ℕ, ◌<◌, List, [], ◌∷◌, ◌++◌, ◌∙◌, ap, sym, subst, length, sum_by, All, arith}
use Rattle.std.proofs.lemmas.List.Elements.{All-nil}
use Rattle.std.proofs.lemmas.Result.{IfOk-at_ok}
use Rattle.segment_core.specs.Segments.{SegmentView, PurseView, segment_sum}
use Rattle.post_table.specs.Pairs.{pair_count}
use Rattle.post_table.specs.Views.{is_among, chosen, parted, without}
use Rattle.post_table.specs.declared.view.View.{View}
use Rattle.worked_post.specs.Swaps.{put_in, took_out}
use Rattle.worked_post.proofs.SwapLemmas.{both_met, ids_weigh-reverse, none_weighs, put_in_both, size_is, sized_as, took_out_both}
use Rattle.worked_post.proofs.row.play.Goals as goal

pub open-post-requires-clause-sized : goal.open-post-requires-clause-sized
open-post-requires-clause-sized g c =
    let empty : c.expect-spares.result ≡ record { room = 2; pages = [] } = IfOk-at_ok (λ (p : PurseView). p ≡ record { room = 2; pages = [] }) c.expect-spares.ensures c.open.ensures.ok in
    let none : All (λ (p : SegmentView). length p.bytes ≡ 4096) c.expect-spares.result.pages =
    subst (λ (v : PurseView). All (λ (p : SegmentView). length p.bytes ≡ 4096) v.pages) (sym empty) (All-nil (λ (p : SegmentView). length p.bytes ≡ 4096)) in
    let first = c.move_one.ensures.sized 4096 c.requires.sized none in
    let second = c.move_one-2.ensures.sized 4096 first.0 first.1 in
    sized_as 4096 c.move_one-2.new.to.pages second.1

pub pass_on-page-requires-clause-sized : goal.pass_on-page-requires-clause-sized
pass_on-page-requires-clause-sized g c =
    let empty : c.expect-spares.result ≡ record { room = 2; pages = [] } = IfOk-at_ok (λ (p : PurseView). p ≡ record { room = 2; pages = [] }) c.expect-spares.ensures c.open.ensures.ok in
    let none : All (λ (p : SegmentView). length p.bytes ≡ 4096) c.expect-spares.result.pages =
    subst (λ (v : PurseView). All (λ (p : SegmentView). length p.bytes ≡ 4096) v.pages) (sym empty) (All-nil (λ (p : SegmentView). length p.bytes ≡ 4096)) in
    let first = c.move_one.ensures.sized 4096 c.requires.sized none in
    let second = c.move_one-2.ensures.sized 4096 first.0 first.1 in
    let size : c.open-post.result.0.size ≡ 4096 = c.open-post.ensures.post.1 ∙ size_is 4096 c.move_one-2.new.to.pages (omega arith) second.1 in
    (c.take_one-page.ensures.sized 4096 second.0).1 ∙ sym size

pub close-home-requires-clause-met : goal.close-home-requires-clause-met
close-home-requires-clause-met g c = λ worker near.
    let two : c.open-post.result.0.workers ≡ 2 = c.open-post.ensures.post.0 in
    let zero_is : c.pass_on-page.new.zero.view.here ≡ 0 ∷ [] = c.pass_on-page.ensures.here.0 ∙ ap (λ (v : View). v.here) c.part-zero.ensures.seat in
    let one_is : c.pass_on-page.new.one.view.here ≡ 1 ∷ [] = c.pass_on-page.ensures.here.1 ∙ ap (λ (v : View). v.here) c.part-one.ensures.seat in
    let first : c.meet.new.main.view.here ≡ c.part-one.new.main.view.here ++ 0 ∷ [] =
    ap (λ (v : View). v.here) c.meet.ensures.view ∙ ap (λ (l : List ℕ). c.part-one.new.main.view.here ++ l) zero_is in
    let here : c.meet-2.new.main.view.here ≡ (c.part-one.new.main.view.here ++ 0 ∷ []) ++ 1 ∷ [] =
    ap (λ (v : View). v.here) c.meet-2.ensures.view ∙ ap (λ (l : List ℕ). c.meet.new.main.view.here ++ l) one_is ∙ ap (λ (l : List ℕ). l ++ 1 ∷ []) first in
    ap (is_among worker) here ∙ both_met c.part-one.new.main.view.here worker (subst (λ (z : ℕ). worker < z) two near)

pub returns : goal.returns
returns g c =
    let empty : c.expect-spares.result ≡ record { room = 2; pages = [] } = IfOk-at_ok (λ (p : PurseView). p ≡ record { room = 2; pages = [] }) c.expect-spares.ensures c.open.ensures.ok in
    let none : All (λ (p : SegmentView). length p.bytes ≡ 4096) c.expect-spares.result.pages =
    subst (λ (v : PurseView). All (λ (p : SegmentView). length p.bytes ≡ 4096) v.pages) (sym empty) (All-nil (λ (p : SegmentView). length p.bytes ≡ 4096)) in
    let first = c.move_one.ensures.sized 4096 c.requires.sized none in
    let second = c.move_one-2.ensures.sized 4096 first.0 first.1 in
    let size : c.open-post.result.0.size ≡ 4096 = c.open-post.ensures.post.1 ∙ size_is 4096 c.move_one-2.new.to.pages (omega arith) second.1 in
    record {
      segments = λ h.
          let n : ℕ = c.open-post.result.0.size in
          let sized : All (λ (p : SegmentView). length p.bytes ≡ n) c.move_one-2.new.to.pages = subst (λ (z : ℕ). All (λ (p : SegmentView). length p.bytes ≡ z) c.move_one-2.new.to.pages) (sym size) second.1 in
          let start = c.open-post.ensures.seat in
          let after : c.part-zero.new.main.view ≡ without 0 (chosen 0 c.part-zero.new.main.view.last c.open-post.result.1.view) = c.part-zero.ensures.main in
          let in_0 : put_in h n c.part-zero.result.view ≡ 0 = ap (put_in h n) c.part-zero.ensures.seat ∙ ap (λ (v : View). put_in h n (parted 0 v)) start in
          let out_0 : took_out h n c.part-zero.result.view ≡ 0 = ap (took_out h n) c.part-zero.ensures.seat ∙ ap (λ (v : View). took_out h n (parted 0 v)) start in
          let x : ℕ = c.part-zero.new.main.view.last in
          let y : ℕ = c.part-one.new.main.view.last in
          let in_1 : put_in h n c.part-one.result.view ≡ 0 = ap (put_in h n) c.part-one.ensures.seat ∙ ap (λ (v : View). put_in h n (parted 1 v)) after ∙ ap (λ (v : View). put_in h n (parted 1 (without 0 (chosen 0 x v)))) start in
          let out_1 : took_out h n c.part-one.result.view ≡ 0 = ap (took_out h n) c.part-one.ensures.seat ∙ ap (λ (v : View). took_out h n (parted 1 v)) after ∙ ap (λ (v : View). took_out h n (parted 1 (without 0 (chosen 0 x v)))) start in
          let in_m : put_in h n c.part-one.new.main.view ≡ 0 =
          ap (put_in h n) c.part-one.ensures.main ∙ ap (λ (v : View). put_in h n (without 1 (chosen 1 y v))) after ∙ ap (λ (v : View). put_in h n (without 1 (chosen 1 y (without 0 (chosen 0 x v))))) start in
          let out_m : took_out h n c.part-one.new.main.view ≡ 0 =
          ap (took_out h n) c.part-one.ensures.main ∙ ap (λ (v : View). took_out h n (without 1 (chosen 1 y v))) after ∙ ap (λ (v : View). took_out h n (without 1 (chosen 1 y (without 0 (chosen 0 x v))))) start in
          let in_a = put_in_both h n _ c.part-one.new.main.view c.pass_on-page.new.zero.view c.meet.new.main.view c.meet.ensures.view in
          let out_a = took_out_both h n _ c.part-one.new.main.view c.pass_on-page.new.zero.view c.meet.new.main.view c.meet.ensures.view in
          let in_b = put_in_both h n _ c.meet.new.main.view c.pass_on-page.new.one.view c.meet-2.new.main.view c.meet-2.ensures.view in
          let out_b = took_out_both h n _ c.meet.new.main.view c.pass_on-page.new.one.view c.meet-2.new.main.view c.meet-2.ensures.view in
          let spares : sum_by (λ (i : ℕ). h i n) c.open-post.result.0.spares ≡ segment_sum h c.move_one-2.new.to.pages =
          ap (λ (l : List ℕ). sum_by (λ (i : ℕ). h i n) l) c.open-post.ensures.post.2 ∙ ids_weigh-reverse h n c.move_one-2.new.to.pages sized in
          let two : pair_count c.open-post.result.0.workers ≡ 2 = ap pair_count c.open-post.ensures.post.0 in
          let left : segment_sum h c.move_one-4.new.from.pages ≡ 0 = none_weighs h c.move_one-4.new.from.pages (omega (arith, c.close-home.ensures.count, c.move_one-3.ensures.from_len, c.move_one-4.ensures.from_len)) in
          let nothing : segment_sum h c.expect-spares.result.pages ≡ 0 = ap (λ (v : PurseView). segment_sum h v.pages) empty in
          omega (
            arith,
            c.move_one.ensures.segments h,
            c.move_one-2.ensures.segments h,
            c.take_one-page.ensures.segments h,
            c.pass_on-page.ensures.swaps h,
            c.put.ensures.segments h,
            c.close-home.ensures.segments h,
            c.move_one-3.ensures.segments h,
            c.move_one-4.ensures.segments h,
          );
    }
