-- One piece was put.
use Rattle.std.proofs.Common.{arith}
use Rattle.paged_view.proofs.WritingLemmas.{put_known, put_body, text_put, text_put_full, weigh_put, length_put}
use Rattle.paged_view.proofs.writer.PageWriter.put_piece.Goals as goal

pub returns-then-self-space-clause-text : goal.returns-then-self-space-clause-text
returns-then-self-space-clause-text c =
    let put = put_known c.self.inside.pages.items c.write_piece-count.new.pages.items c.self.inside.room c.self.inside.full c.self.inside.fill c.write_piece-count.result c.args.self.now c.args.bytes.now c.body_of-space.result.now c.index.result.now c.self.view_is c.self.invariant.under_way (omega (arith, c.self.invariant.among, c.self.inside.pages.ok.0)) c.requires.some c.requires.space c.index.ensures c.body_of-space.ensures.value c.body_of-space.ensures.some c.write_piece-count.ensures.count c.write_piece-count.ensures.pages in
    text_put_full _ _ _ _ _ _ _ _ c.self.view_is put.0 (omega (arith, put.1, c.if-self-space.true))

pub returns-then-self-space-clause-segments : goal.returns-then-self-space-clause-segments
returns-then-self-space-clause-segments c =
    let put = put_known c.self.inside.pages.items c.write_piece-count.new.pages.items c.self.inside.room c.self.inside.full c.self.inside.fill c.write_piece-count.result c.args.self.now c.args.bytes.now c.body_of-space.result.now c.index.result.now c.self.view_is c.self.invariant.under_way (omega (arith, c.self.invariant.among, c.self.inside.pages.ok.0)) c.requires.some c.requires.space c.index.ensures c.body_of-space.ensures.value c.body_of-space.ensures.some c.write_piece-count.ensures.count c.write_piece-count.ensures.pages in
    weigh_put _ _ _ _ _ _ _ _ c.self.view_is put.0

pub returns-then-self-space-clause-size : goal.returns-then-self-space-clause-size
returns-then-self-space-clause-size c =
    let put = put_known c.self.inside.pages.items c.write_piece-count.new.pages.items c.self.inside.room c.self.inside.full c.self.inside.fill c.write_piece-count.result c.args.self.now c.args.bytes.now c.body_of-space.result.now c.index.result.now c.self.view_is c.self.invariant.under_way (omega (arith, c.self.invariant.among, c.self.inside.pages.ok.0)) c.requires.some c.requires.space c.index.ensures c.body_of-space.ensures.value c.body_of-space.ensures.some c.write_piece-count.ensures.count c.write_piece-count.ensures.pages in
    length_put _ _ _ _ _ _ _ _ c.self.view_is put.0

pub returns-else-self-space-clause-text : goal.returns-else-self-space-clause-text
returns-else-self-space-clause-text c =
    let put = put_known c.self.inside.pages.items c.write_piece-count.new.pages.items c.self.inside.room c.self.inside.full c.self.inside.fill c.write_piece-count.result c.args.self.now c.args.bytes.now c.body_of-space.result.now c.index.result.now c.self.view_is c.self.invariant.under_way (omega (arith, c.self.invariant.among, c.self.inside.pages.ok.0)) c.requires.some c.requires.space c.index.ensures c.body_of-space.ensures.value c.body_of-space.ensures.some c.write_piece-count.ensures.count c.write_piece-count.ensures.pages in
    text_put _ _ _ _ _ _ _ _ c.self.view_is put.0

pub returns-else-self-space-clause-size : goal.returns-else-self-space-clause-size
returns-else-self-space-clause-size c =
    let put = put_known c.self.inside.pages.items c.write_piece-count.new.pages.items c.self.inside.room c.self.inside.full c.self.inside.fill c.write_piece-count.result c.args.self.now c.args.bytes.now c.body_of-space.result.now c.index.result.now c.self.view_is c.self.invariant.under_way (omega (arith, c.self.invariant.among, c.self.inside.pages.ok.0)) c.requires.some c.requires.space c.index.ensures c.body_of-space.ensures.value c.body_of-space.ensures.some c.write_piece-count.ensures.count c.write_piece-count.ensures.pages in
    length_put _ _ _ _ _ _ _ _ c.self.view_is put.0

pub invariant_of-self-else-self-space : goal.invariant_of-self-else-self-space
invariant_of-self-else-self-space c =
    let put = put_known c.self.inside.pages.items c.write_piece-count.new.pages.items c.self.inside.room c.self.inside.full c.self.inside.fill c.write_piece-count.result c.args.self.now c.args.bytes.now c.body_of-space.result.now c.index.result.now c.self.view_is c.self.invariant.under_way (omega (arith, c.self.invariant.among, c.self.inside.pages.ok.0)) c.requires.some c.requires.space c.index.ensures c.body_of-space.ensures.value c.body_of-space.ensures.some c.write_piece-count.ensures.count c.write_piece-count.ensures.pages in
    let same = put_body _ _ _ _ _ _ put.0 in
    record {
      fits = omega (arith, c.self.invariant.fits, c.write_piece-count.ensures.len);
      reserved = omega (arith, c.self.invariant.reserved, c.write_piece-count.ensures.capacity);
      among = omega (arith, c.self.invariant.among, c.write_piece-count.ensures.len);
      under_way = λ some. omega (arith, same, put.0.fits, put.1, c.if-self-space.false);
      small = omega (arith, put.0.fits, put.1, c.body_of-space.ensures.most);
    }
