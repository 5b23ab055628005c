-- The lines of rows, one after another.
use Rattle.std.proofs.Common.{◌≡◌, ◌≢◌, ℕ, ◌+◌, ◌-◌, ◌<◌, ◌≤◌, true, false, List, [], ◌∷◌, ◌++◌, length, take, drop, get_or, Option, Some, refl, sym, ap, ◌∙◌, arith, append_assoc, append-nil}
use Rattle.std.specs.Global.{Vec}
use Rattle.std.proofs.Math.Seq.{take-add, take-append_seam, take-append-add}
use Rattle.std.proofs.lemmas.List.{take_more, take-append-le, take-append-drop, length-append}
use Rattle.std.proofs.lemmas.Grind.{flat_map-append}
use Rattle.csv.specs.Writing.{default_writer, with_flexible, escaped, field_text, fields_text, is_blank, row_text, writer_setup, fields_written, has_written}
use Rattle.csv.specs.declared.writer.WriterBuilder.{WriterBuilder}
use Rattle.csv.specs.declared.writer.QuoteStyle.TheVariants as style
use Rattle.csv.specs.declared.writer.Writer.{Writer}
use Rattle.flow_outside.specs.Told.{with_text, Appends, AppendsPrefix, AppendsProperPrefix}
use Rattle.flow_outside.proofs.Told.{appends_more}
use Rattle.flow_types.specs.Tuples.{Tuple}
use Rattle.delim_io.specs.LineWriter.{HoldsText}
use Rattle.delim_io.specs.ResultText.{row_line, lines_of}

-- the text that a writer holds
abbrev pub text_held : Writer (Vec ℕ) → List ℕ
text_held writer = writer.wtr.inner.items ++ writer.wtr.buf

-- the default writer, but that records may have different numbers of fields
abbrev flexible : WriterBuilder
flexible = with_flexible default_writer true

escaped_same : (field : List ℕ) → escaped flexible field ≡ escaped default_writer field
unfolding escaped
escaped_same [] = refl
escaped_same (b ∷ rest) = rw (escaped_same rest) refl

field_same : (field : List ℕ) → field_text flexible field ≡ field_text default_writer field
field_same field = rw (escaped_same field) refl

fields_same : (fields : List (List ℕ)) → fields_text flexible fields ≡ fields_text default_writer fields
unfolding fields_text
fields_same [] = refl
fields_same (field ∷ rest) = rw (field_same field, fields_same rest) refl

blank_same : (fields : List (List ℕ)) → is_blank flexible fields ≡ is_blank default_writer fields
unfolding is_blank
blank_same [] = refl
blank_same (field ∷ []) = rw (field_same field) refl
blank_same (field ∷ next ∷ rest) = refl

-- it writes each record as the default writer does
pub row_same : (fields : List (List ℕ)) → row_text flexible fields ≡ row_text default_writer fields
row_same [] = rw (blank_same []) refl
row_same (field ∷ rest) = rw (field_same field, fields_same rest, blank_same (field ∷ rest)) refl

-- the lines of one row more
pub lines_more : (rows : List Tuple) (i : ℕ) (d : Tuple) → i < length rows → lines_of (take (i + 1) rows) ≡ lines_of (take i rows) ++ row_line (get_or rows i d)
lines_more rows i d within =
    rw (take_more rows i d within, flat_map-append row_line (take i rows) (get_or rows i d ∷ [])) (ap (λ l. lines_of (take i rows) ++ l) (append-nil (row_line (get_or rows i d))))

-- a writer that wrote one record more
pub text_more : (writer new : Writer (Vec ℕ)) (text : List ℕ) (fields : List (List ℕ)) → HoldsText writer text
    → writer_setup new ≡ writer_setup writer → fields_written new ≡ 0 → has_written new ≡ false
    → ((writer_setup writer).style ≢ style.NonNumeric → text_held new ≡ text_held writer ++ row_text (writer_setup writer) fields)
    → HoldsText new (text ++ row_text default_writer fields)
text_more writer new text fields before setup no_field no_byte written =
    let plain : (writer_setup writer).style ≢ style.NonNumeric = rw before.setup (λ e. cc) in
    let line : row_text (writer_setup writer) fields ≡ row_text default_writer fields =
    ap (λ cfg. row_text cfg fields) before.setup ∙ row_same fields in
    let front : text_held writer ≡ text = cc before.holds in
    record {
      setup = setup ∙ before.setup;
      no_field = no_field;
      no_byte = no_byte;
      holds = ap Some (written plain ∙ ap (λ l. l ++ row_text (writer_setup writer) fields) front ∙ ap (λ l. text ++ l) line);
    }

-- the lines of the rows from one place up to another
lines_between : (rows : List Tuple) (at end : ℕ) → at ≤ end → lines_of (take end rows) ≡ lines_of (take at rows) ++ lines_of (take (end - at) (drop at rows))
lines_between rows at end up =
    let e : end ≡ at + (end - at) = omega arith in
    ap (λ n. lines_of (take n rows)) e
    ∙ ap lines_of (take-add at (end - at) rows)
    ∙ flat_map-append row_line (take at rows) (take (end - at) (drop at rows))

-- all lines, in three parts
lines_around : (rows : List Tuple) (at end : ℕ) → at ≤ end → lines_of rows ≡ lines_of (take at rows) ++ (lines_of (take (end - at) (drop at rows)) ++ lines_of (drop end rows))
lines_around rows at end up =
    sym (ap lines_of (take-append-drop end rows))
    ∙ flat_map-append row_line (take end rows) (drop end rows)
    ∙ ap (λ l. l ++ lines_of (drop end rows)) (lines_between rows at end up)
    ∙ append_assoc (lines_of (take at rows)) (lines_of (take (end - at) (drop at rows))) (lines_of (drop end rows))

module _ (rows : List Tuple) (at end : ℕ) (up : at ≤ end) (old middle new : Option (List ℕ)) (first : Appends old middle (lines_of (take at rows))) where
  -- the lines up to one place were taken, and then those up to another
  pub lines_taken : Appends middle new (lines_of (take (end - at) (drop at rows))) → Appends old new (lines_of (take end rows))
  lines_taken next =
      next
      ∙ ap (λ told. with_text told (lines_of (take (end - at) (drop at rows)))) first
      ∙ appends_more old (lines_of (take at rows)) (lines_of (take (end - at) (drop at rows)))
      ∙ ap (with_text old) (sym (lines_between rows at end up))

  -- the lines up to one place were taken, and then not all of those up to another
  pub lines_broken : AppendsProperPrefix middle new (lines_of (take (end - at) (drop at rows))) → AppendsProperPrefix old new (lines_of rows)
  lines_broken part =
      let front = lines_of (take at rows) in
      let piece = lines_of (take (end - at) (drop at rows)) in
      let back = lines_of (drop end rows) in
      let all : lines_of rows ≡ front ++ (piece ++ back) = lines_around rows at end up in
      let cut : take (length front + part.count) (lines_of rows) ≡ front ++ take part.count piece =
      ap (take (length front + part.count)) all
      ∙ take-append-add front (piece ++ back) part.count
      ∙ ap (λ l. front ++ l) (take-append-le part.count piece back (omega (arith, part.proper))) in
      let below : length front + part.count < length (lines_of rows) =
      omega (arith, ap length all, length-append front (piece ++ back), length-append piece back, part.proper) in
      record {
        count = length front + part.count;
        proper = below;
        appended = part.appended
            ∙ ap (λ told. with_text told (take part.count piece)) first
            ∙ appends_more old front (take part.count piece)
            ∙ ap (with_text old) (sym cut);
      }

  -- the lines up to one place were taken, and no more
  pub lines_stopped : AppendsPrefix old middle (lines_of rows)
  lines_stopped =
      let front = lines_of (take at rows) in
      let rest = lines_of (take (end - at) (drop at rows)) ++ lines_of (drop end rows) in
      let all : lines_of rows ≡ front ++ rest = lines_around rows at end up in
      record {
        count = length front;
        within = omega (arith, ap length all, length-append front rest);
        appended = first ∙ ap (with_text old) (sym (ap (take (length front)) all ∙ take-append_seam front rest));
      }
