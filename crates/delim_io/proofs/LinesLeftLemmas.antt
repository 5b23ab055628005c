-- Lines that are taken off the front of an input.
use Rattle.std.proofs.Common.{◌≡◌, ℕ, zero, suc, ◌+◌, ◌<◌, ◌≤◌, ◌==◌, nat_le, Bool, true, false, ◌&&◌, if◌then◌else◌, List, [], ◌∷◌, ◌++◌, length, take, drop, get_or, Result, Ok, Err, IfOk, Option, Some, None, option_map, refl, sym, ap, subst, ◌∙◌, arith, append_assoc, length-append}
use Rattle.std.specs.List.{list_all}
use Rattle.std.proofs.lemmas.Bool.Decides.{nat_tests}
use Rattle.std.proofs.lemmas.List.{length-take-le, take-append-drop, take_at}
use Rattle.std.proofs.lemmas.List.Splits.{length-slice_split}
use Rattle.memchr.specs.Find.{IsFirstByte, is_byte}
use Rattle.flow_outside.specs.Readers.{GivesNext, Reading, behind, left_of}
use Rattle.flow_outside.specs.Told.{IfTold}
use Rattle.flow_types.specs.Limits.{record_limit}
use Rattle.flow_types.specs.Records.{IsTupleOf, form, size, tuple_of}
use Rattle.flow_types.specs.Tuples.{Tuple}
use Rattle.flow_types.specs.Types.{Fields}
use Rattle.record_codec.proofs.RecordLemmas.{is_record_of_read}
use Rattle.delim_io.specs.Fields.{first_and_others}
use Rattle.delim_io.specs.Input.{input_limit, is_plain_byte, parts_at, rows_of, tuple_of_line, tuples_of_parts}
use Rattle.delim_io.specs.LinesLeft.{AdvancesLines, GivesRow, HasRecord, LinesView, ReadsAhead, RisesBelow, rows_ahead, rows_left}
use Rattle.delim_io.proofs.CutLemmas.{IsCutAt, cut_before}
use Rattle.delim_io.proofs.LineLemmas.{lines_more, none_after, none_first}

pub drop_front : (n : ℕ) (xs ys : List ℕ) → n ≤ length xs → drop n (xs ++ ys) ≡ drop n xs ++ ys
drop_front zero xs ys low = refl
drop_front (suc n) [] ys low = absurd (omega (arith, low))
drop_front (suc n) (x ∷ xs) ys low = drop_front n xs ys (omega (arith, low))

-- bytes in front that are plain don't count, and one that isn't decides
plain_front : (xs ys : List ℕ) → list_all is_plain_byte xs ≡ true → list_all is_plain_byte (xs ++ ys) ≡ list_all is_plain_byte ys
plain_front [] ys all = refl
plain_front (x ∷ xs) ys all = go (is_plain_byte x) (λ rest. plain_front xs ys rest) all
  where
    go : (b : Bool) → (list_all is_plain_byte xs ≡ true → list_all is_plain_byte (xs ++ ys) ≡ list_all is_plain_byte ys) → b && list_all is_plain_byte xs ≡ true → b && list_all is_plain_byte (xs ++ ys) ≡ list_all is_plain_byte ys
    go true on rest = on rest
    go false on wrong = cc

odd_front : (xs ys : List ℕ) → list_all is_plain_byte xs ≡ false → list_all is_plain_byte (xs ++ ys) ≡ false
odd_front [] ys odd = cc
odd_front (x ∷ xs) ys odd = go (is_plain_byte x) (λ rest. odd_front xs ys rest) odd
  where
    go : (b : Bool) → (list_all is_plain_byte xs ≡ false → list_all is_plain_byte (xs ++ ys) ≡ false) → b && list_all is_plain_byte xs ≡ false → b && list_all is_plain_byte (xs ++ ys) ≡ false
    go true on rest = on rest
    go false on done = refl

feed_is_plain : (x : ℕ) → (x == 10) ≡ true → is_plain_byte x ≡ true
feed_is_plain x is = subst (λ n. is_plain_byte n ≡ true) (sym ten) refl
  where
    ten : x ≡ 10
    ten = grind (arith, nat_tests, is)

-- an input with a byte that isn't plain has no rows
pub odd_line : (fields : Fields) (delimiter given : ℕ) (line rest all : List ℕ) → all ≡ line ++ rest → list_all is_plain_byte line ≡ false → rows_left fields delimiter given all ≡ None
odd_line fields delimiter given line rest all is odd =
    go (nat_le (given + length all) input_limit) (list_all is_plain_byte all) (ap (list_all is_plain_byte) is ∙ odd_front line rest odd)
  where
    go : (a b : Bool) → b ≡ false → (if a && b then tuples_of_parts fields delimiter (parts_at 10 all) else None) ≡ None
    go true true wrong = cc
    go true false done = refl
    go false b done = refl

-- The rows from a plain line on are its row and those behind it.
pub rows_from_line : (fields : Fields) (delimiter given : ℕ) (text left : List ℕ) (at : ℕ) → IsFirstByte (is_byte 10) text (Some at) → list_all is_plain_byte (take at text) ≡ true
    → rows_left fields delimiter given (text ++ left) ≡ first_and_others (tuple_of_line fields delimiter (take at text)) (rows_left fields delimiter (given + at + 1) (drop (at + 1) text ++ left))
rows_from_line fields delimiter given text left at first plain =
    ap (λ b. if b then tuples_of_parts fields delimiter (parts_at 10 (text ++ left)) else None) guard
    ∙ ap (λ ts. if nat_le (given + at + 1 + length more) input_limit && list_all is_plain_byte more then ts else None) rows
    ∙ go (nat_le (given + at + 1 + length more) input_limit && list_all is_plain_byte more)
  where
    more : List ℕ
    more = drop (at + 1) text ++ left

    cut : IsCutAt 10 text left at
    cut = cut_before 10 text left at first

    long : given + length (text ++ left) ≡ given + at + 1 + length more
    long = omega (arith, ap length cut.whole, length-append (take at text) (get_or text at 0 ∷ more), length-take-le at text (omega (arith, cut.high)))

    plain_more : list_all is_plain_byte (text ++ left) ≡ list_all is_plain_byte more
    plain_more = ap (list_all is_plain_byte) cut.whole ∙ plain_front (take at text) (get_or text at 0 ∷ more) plain ∙ ap (λ b. b && list_all is_plain_byte more) (feed_is_plain (get_or text at 0) cut.found)

    guard : nat_le (given + length (text ++ left)) input_limit && list_all is_plain_byte (text ++ left) ≡ nat_le (given + at + 1 + length more) input_limit && list_all is_plain_byte more
    guard = ap (λ n. nat_le n input_limit && list_all is_plain_byte (text ++ left)) long ∙ ap (λ b. nat_le (given + at + 1 + length more) input_limit && b) plain_more

    rows : tuples_of_parts fields delimiter (parts_at 10 (text ++ left)) ≡ first_and_others (tuple_of_line fields delimiter (take at text)) (tuples_of_parts fields delimiter (parts_at 10 more))
    rows = ap (tuples_of_parts fields delimiter) cut.parts ∙ lines_more fields delimiter (take at text) (parts_at 10 more) (omega (arith, length-slice_split (λ b. b == 10) more))

    go : (b : Bool) → (if b then first_and_others (tuple_of_line fields delimiter (take at text)) (tuples_of_parts fields delimiter (parts_at 10 more)) else None) ≡ first_and_others (tuple_of_line fields delimiter (take at text)) (if b then tuples_of_parts fields delimiter (parts_at 10 more) else None)
    go true = refl
    go false = sym (none_after (tuple_of_line fields delimiter (take at text)))

-- a line without a row
pub line_without_row : (fields : Fields) (delimiter given : ℕ) (text left : List ℕ) (at : ℕ) → IsFirstByte (is_byte 10) text (Some at) → list_all is_plain_byte (take at text) ≡ true
    → tuple_of_line fields delimiter (take at text) ≡ None → rows_left fields delimiter given (text ++ left) ≡ None
line_without_row fields delimiter given text left at first plain none =
    rows_from_line fields delimiter given text left at first plain ∙ ap (λ o. first_and_others o (rows_left fields delimiter (given + at + 1) (drop (at + 1) text ++ left))) none
    ∙ none_first (rows_left fields delimiter (given + at + 1) (drop (at + 1) text ++ left))

-- an input that is too long has no rows
pub too_long : (fields : Fields) (delimiter given : ℕ) (bytes : List ℕ) → input_limit < given + length bytes → rows_left fields delimiter given bytes ≡ None
too_long fields delimiter given bytes long = go (nat_le (given + length bytes) input_limit) over
  where
    over : nat_le (given + length bytes) input_limit ≡ false
    over = grind (arith, nat_tests, long)

    go : (b : Bool) → b ≡ false → (if b && list_all is_plain_byte bytes then tuples_of_parts fields delimiter (parts_at 10 bytes) else None) ≡ None
    go true wrong = cc
    go false done = refl

-- what a read of the shelf adds
pub reads_ahead : (old new : Option Reading) (before after : LinesView) (into : List ℕ) (count : ℕ) → IfTold (left_of old) (λ rest. GivesNext rest into count) → new ≡ behind old count → after.ahead ≡ before.ahead ++ take count into
    → IfTold (left_of old) (λ left. ReadsAhead before after left (left_of new))
reads_ahead old new before after into count given is ahead =
    subst (λ r. IfTold (left_of old) (λ left. ReadsAhead before after left (left_of r))) (sym is) (go (left_of old) given)
  where
    go : (o : Option (List ℕ)) → IfTold o (λ rest. GivesNext rest into count) → IfTold o (λ left. ReadsAhead before after left (option_map (drop count) o))
    go None next = tt
    go (Some left) next = record {
      left_now = drop count left;
      told = refl;
      bytes = ap (λ xs. before.ahead ++ xs) (sym (take-append-drop count left)) ∙ ap (λ xs. before.ahead ++ (xs ++ drop count left)) (sym next.bytes)
          ∙ sym (append_assoc before.ahead (take count into) (drop count left)) ∙ ap (λ xs. xs ++ drop count left) (sym ahead);
    }

-- the rows that are left don't change while more is read ahead
same_rows : (a b : LinesView) (left left_now : List ℕ) → b ≡ record a { ahead = b.ahead } → a.ahead ++ left ≡ b.ahead ++ left_now → rows_ahead a left ≡ rows_ahead b left_now
same_rows a b left left_now same bytes =
    ap (rows_left a.fields a.delimiter a.given) bytes ∙ ap (λ (v : LinesView). rows_left v.fields v.delimiter v.given (b.ahead ++ left_now)) (sym same)

-- The row of a line that is ahead is the first of those that were left.
pub gives_row : {E : Type 0} (answer : Result Bool E) (t u : Option (List ℕ)) (a b e : LinesView) → b ≡ record a { ahead = b.ahead } → IfTold t (λ left. ReadsAhead a b left u)
    → IfOk answer (λ more. (more ≡ true) × ((left : List ℕ) → GivesRow b e left left)) → IfOk answer (λ more. IfTold t (λ left. AdvancesLines more a e left u))
gives_row (Err fault) t u a b e same reads given = tt
gives_row (Ok more) None u a b e same reads given = tt
gives_row (Ok more) (Some left) u a b e same reads given =
    let row = given.1 reads.left_now in
    let here : AdvancesLines true a e left u = (
      reads.left_now,
      (
        reads.told,
        record {
          tuple = row.tuple;
          shown = row.shown;
          read = ap (λ fs. tuple_of fs e.row_bytes) (sym (ap (λ (v : LinesView). v.fields) same)) ∙ row.read;
          rows = same_rows a b left reads.left_now same reads.bytes ∙ row.rows;
        },
      ),
    ) in
    subst (λ (m : Bool). AdvancesLines m a e left u) (sym given.0) here

-- the record at the front of what a row was written over
pub row_shown : (t : Tuple) (old new rest : List ℕ) (size_of_row count : ℕ) → count ≡ size t → new ≡ form t ++ drop count old → take size_of_row (new ++ rest) ≡ new → take count (take size_of_row (new ++ rest)) ≡ form t
row_shown t old new rest size_of_row count is written back = ap (take count) (back ∙ written) ∙ take_at (form t) (drop count old) count (sym is)

-- a reader that shows the form of a tuple of its schema has a record
pub has_record : (lines : LinesView) (t : Tuple) (out rest : List ℕ) → IsTupleOf lines.fields t → lines.row_bytes ≡ form t → out ≡ form t ++ rest → length out ≡ record_limit → HasRecord lines
has_record lines t out rest tuple shown whole room = record {
  is = is_record_of_read lines.fields t lines.row_bytes (record { tuple = tuple; formed = shown });
  short = omega (arith, ap length shown, ap length whole, length-append (form t) rest, room);
}

-- what holds of each row that is given
pub where_given : {E : Type 0} (answer : Result Bool E) (P : Type 0) → IfOk answer (λ more. P) → IfOk answer (λ more. more ≡ true → P)
where_given (Err fault) P given = tt
where_given (Ok more) P given = λ is. given

-- what was read ahead doesn't change how far the rows reach
pub where_rises : {E : Type 0} (answer : Result Bool E) (a b e : LinesView) → b ≡ record a { ahead = b.ahead } → IfOk answer (λ more. RisesBelow input_limit b.given e.given)
    → IfOk answer (λ more. more ≡ true → RisesBelow input_limit a.given e.given)
where_rises (Err fault) a b e same given = tt
where_rises (Ok more) a b e same given = λ is. subst (λ (n : ℕ). RisesBelow input_limit n e.given) (ap (λ (v : LinesView). v.given) same) given

-- The first line that is ahead has no row: neither has the input.
pub no_row : (t u : Option (List ℕ)) (a b : LinesView) → b ≡ record a { ahead = b.ahead } → IfTold t (λ left. ReadsAhead a b left u)
    → ((left : List ℕ) → rows_ahead b left ≡ None) → IfTold t (λ left. rows_ahead a left ≡ None)
no_row None u a b same reads none = tt
no_row (Some left) u a b same reads none = same_rows a b left reads.left_now same reads.bytes ∙ none reads.left_now

-- at the first byte all rows are left
pub all_left : (fields : Fields) (delimiter : ℕ) (bytes : List ℕ) → rows_left fields delimiter 0 bytes ≡ rows_of fields delimiter bytes
all_left fields delimiter bytes =
    let count : 0 + length bytes ≡ length bytes = omega arith in
    ap (λ n. if nat_le n input_limit && list_all is_plain_byte bytes then tuples_of_parts fields delimiter (parts_at 10 bytes) else None) count
