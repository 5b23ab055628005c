-- The first line of those ahead is odd, has no row, or has one.
use Rattle.std.proofs.Common.{◌≡◌, ◌+◌, ◌-◌, ◌++◌, List, ℕ, Some, None, true, false, length, take, drop, refl, ap, sym, subst, ◌∙◌, arith, append_assoc}
use Rattle.std.specs.List.{list_all}
use Rattle.std.proofs.lemmas.List.{drop-drop, take-append-drop}
use Rattle.memchr.specs.Find.{IsFirstByte, is_byte}
use Rattle.flow_outside.proofs.Files.{written_back}
use Rattle.flow_types.specs.Records.{form}
use Rattle.record_codec.proofs.RecordLemmas.{reads_as_written}
use Rattle.delim_io.specs.Fields.{first_and_others}
use Rattle.delim_io.specs.Input.{is_plain_byte, tuple_of_line}
use Rattle.delim_io.specs.LinesLeft.{GivesRow, LinesView, rows_ahead, rows_left}
use Rattle.delim_io.proofs.LinesLeftLemmas.{has_record, line_without_row, odd_line, row_shown, rows_from_line}
use Rattle.delim_io.proofs.line_reader.LineReader.give_line.Goals as goal

-- the line, as the code cuts it
line_is : (start at : ℕ) (items lent : List ℕ) → lent ≡ items → take (start + at - start) (drop start lent) ≡ take at (drop start items)
line_is start at items lent is =
    ap (λ xs. take (start + at - start) (drop start xs)) is ∙ ap (λ n. take n (drop start items)) (let here : start + at - start ≡ at = omega arith in here)

pub returns-then-not-all_plain-clause-refused : goal.returns-then-not-all_plain-clause-refused
returns-then-not-all_plain-clause-refused c = λ _ left.
    let start = c.self.inside.start in
    let text : List ℕ = drop start c.self.inside.ahead.items in
    let odd : list_all is_plain_byte (take c.args.at text) ≡ false = ap (list_all is_plain_byte) (sym (line_is start c.args.at c.self.inside.ahead.items c.deref.result.now c.deref.ensures.value)) ∙ sym c.all_plain.ensures ∙ c.if-not-all_plain.true in
    subst (λ v. rows_ahead v left ≡ None) c.self.view_is
    (odd_line c.self.inside.schema c.self.inside.delimiter start (take c.args.at text) (drop c.args.at text ++ left) (text ++ left)
    (ap (λ xs. xs ++ left) (sym (take-append-drop c.args.at text)) ∙ append_assoc (take c.args.at text) (drop c.args.at text) left) odd)

pub returns-in-None-clause-refused : goal.returns-in-None-clause-refused
returns-in-None-clause-refused c = λ _ left.
    let start = c.self.inside.start in
    let text : List ℕ = drop start c.self.inside.ahead.items in
    let is = line_is start c.args.at c.self.inside.ahead.items c.deref.result.now c.deref.ensures.value in
    let first : IsFirstByte (is_byte 10) text (Some c.args.at) = subst (λ v. IsFirstByte (is_byte 10) v.ahead (Some c.args.at)) (sym c.self.view_is) c.requires in
    let plain : list_all is_plain_byte (take c.args.at text) ≡ true = ap (list_all is_plain_byte) (sym is) ∙ sym c.all_plain.ensures ∙ c.if-not-all_plain.false in
    subst (λ v. rows_ahead v left ≡ None) c.self.view_is
    (line_without_row c.self.inside.schema c.self.inside.delimiter start text left c.args.at first plain (ap (tuple_of_line c.self.inside.schema c.self.inside.delimiter) (sym is) ∙ c.in-None.ensures.row))

pub returns-in-Some-clause-row : goal.returns-in-Some-clause-row
returns-in-Some-clause-row c =
    let start = c.self.inside.start in
    let items = c.self.inside.ahead.items in
    let text : List ℕ = drop start items in
    let is = line_is start c.args.at items c.deref.result.now c.deref.ensures.value in
    let first : IsFirstByte (is_byte 10) text (Some c.args.at) = subst (λ v. IsFirstByte (is_byte 10) v.ahead (Some c.args.at)) (sym c.self.view_is) c.requires in
    let plain : list_all is_plain_byte (take c.args.at text) ≡ true = ap (list_all is_plain_byte) (sym is) ∙ sym c.all_plain.ensures ∙ c.if-not-all_plain.false in
    let wrote = c.in-Some.ensures.row in
    let end : start + (c.args.at + 1) ≡ start + c.args.at + 1 = omega arith in
    let rest : drop (c.args.at + 1) text ≡ drop (start + c.args.at + 1) items = drop-drop (c.args.at + 1) start items ∙ ap (λ n. drop n items) end in
    let after : LinesView = record {
      fields = c.self.inside.schema;
      delimiter = c.self.inside.delimiter;
      given = start + c.args.at + 1;
      ahead = drop (start + c.args.at + 1) items;
      row_bytes = take c.in-Some.len (take c.self.inside.row.len (c.write_record.new.out ++ drop (length c.write_record.new.out) c.self.inside.row.items));
    } in
    let back = written_back c.write_record.new.out (drop (length c.write_record.new.out) c.self.inside.row.items) c.self.inside.row.len (omega (arith, c.write_record.ensures.space, c.as_mut_slice.ensures.len)) in
    let shown : after.row_bytes ≡ form wrote.0 = row_shown wrote.0 c.as_mut_slice.result.now c.write_record.new.out (drop (length c.write_record.new.out) c.self.inside.row.items) c.self.inside.row.len c.in-Some.len wrote.2 wrote.3 back in (
      refl,
      λ left. subst (λ v. GivesRow v after left left) c.self.view_is (record {
        tuple = wrote.0;
        shown = shown;
        read = reads_as_written c.self.inside.schema wrote.0 after.row_bytes (record { tuple = c.in-Some.ensures.tuple wrote.0 wrote.1; formed = shown });
        rows = rows_from_line c.self.inside.schema c.self.inside.delimiter start text left c.args.at first plain
            ∙ ap (λ o. first_and_others o (rows_left c.self.inside.schema c.self.inside.delimiter (start + c.args.at + 1) (drop (c.args.at + 1) text ++ left))) (ap (tuple_of_line c.self.inside.schema c.self.inside.delimiter) (sym is) ∙ wrote.1)
            ∙ ap (λ xs. first_and_others (Some wrote.0) (rows_left c.self.inside.schema c.self.inside.delimiter (start + c.args.at + 1) (xs ++ left))) rest;
      }),
    )

pub returns-in-Some-clause-record : goal.returns-in-Some-clause-record
returns-in-Some-clause-record c =
    let wrote = c.in-Some.ensures.row in
    let start = c.self.inside.start in
    let after : LinesView = record {
      fields = c.self.inside.schema;
      delimiter = c.self.inside.delimiter;
      given = start + c.args.at + 1;
      ahead = drop (start + c.args.at + 1) c.self.inside.ahead.items;
      row_bytes = take c.in-Some.len (take c.self.inside.row.len (c.write_record.new.out ++ drop (length c.write_record.new.out) c.self.inside.row.items));
    } in
    let back = written_back c.write_record.new.out (drop (length c.write_record.new.out) c.self.inside.row.items) c.self.inside.row.len (omega (arith, c.write_record.ensures.space, c.as_mut_slice.ensures.len)) in
    has_record after wrote.0 c.write_record.new.out (drop c.in-Some.len c.as_mut_slice.result.now) (c.in-Some.ensures.tuple wrote.0 wrote.1)
    (row_shown wrote.0 c.as_mut_slice.result.now c.write_record.new.out (drop (length c.write_record.new.out) c.self.inside.row.items) c.self.inside.row.len c.in-Some.len wrote.2 wrote.3 back)
    wrote.3 (omega (arith, c.write_record.ensures.space, c.as_mut_slice.ensures.len, c.self.invariant.2))
