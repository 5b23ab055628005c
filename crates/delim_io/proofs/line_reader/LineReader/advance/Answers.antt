-- A line is ahead, or the input is at its end.
use Rattle.std.proofs.Common.{◌≡◌, ℕ, List, ◌∷◌, [], None, drop, ap, sym, ◌∙◌, subst}
use Rattle.memchr.specs.Find.{IsFirstByte, is_byte}
use Rattle.flow_outside.proofs.Told.{range_to_end}
use Rattle.flow_outside.specs.Readers.{left_of}
use Rattle.delim_io.specs.Input.{parts_at}
use Rattle.delim_io.specs.LinesLeft.{HasRecord, LinesView}
use Rattle.delim_io.proofs.CutLemmas.{cut_nowhere}
use Rattle.delim_io.proofs.LinesLeftLemmas.{gives_row, where_given, where_rises}
use Rattle.delim_io.proofs.line_reader.LineReader.advance.Goals as goal

pub returns-in-Some-clause-rows : goal.returns-in-Some-clause-rows
returns-in-Some-clause-rows g c =
    gives_row c.give_line.result (left_of (g.S.Shelf.readers c.args.shelf.now c.args.id)) (left_of (g.S.Shelf.readers c.pieces.shelf c.args.id)) c.args.self.now c.pieces.self c.give_line.new.self c.pieces.invariant.same c.pieces.invariant.bytes c.give_line.ensures.row

pub end_of_input-requires-clause-last : goal.end_of_input-requires-clause-last
end_of_input-requires-clause-last g c =
    let stays = (c.in_ok-fill.ensures.end c.if-not-branch.true).0 in
    let text : List ℕ = drop c.self.inside.start c.self.inside.ahead.items in
    let none : IsFirstByte (is_byte 10) text None = subst (λ xs. IsFirstByte (is_byte 10) xs None) (range_to_end c.deref.result.now c.self.inside.start ∙ ap (drop c.self.inside.start) c.deref.ensures.value) c.in_default.ensures in
    subst (λ (v : LinesView). parts_at 10 v.ahead ≡ v.ahead ∷ []) (sym stays) (subst (λ (v : LinesView). parts_at 10 v.ahead ≡ v.ahead ∷ []) c.self.view_is (cut_nowhere 10 text none))

pub returns-in-Some-clause-record : goal.returns-in-Some-clause-record
returns-in-Some-clause-record g c = where_given c.give_line.result (HasRecord c.give_line.new.self) c.give_line.ensures.record

pub returns-in-Some-clause-rises : goal.returns-in-Some-clause-rises
returns-in-Some-clause-rises g c = where_rises c.give_line.result c.args.self.now c.pieces.self c.give_line.new.self c.pieces.invariant.same c.give_line.ensures.rises
