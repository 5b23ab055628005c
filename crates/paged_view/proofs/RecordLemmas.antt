-- Lemmas on framed records.
use Rattle.std.proofs.Common.{◌≡◌, ℕ, ◌+◌, ◌^◌, ◌<◌, ◌≤◌, List, ◌++◌, length, take, drop, refl, sym, ap, ◌∙◌, arith, append_assoc, length-append, take-append-drop}
use Rattle.std.proofs.lemmas.List.{take_at, take-append-le, drop_at}
use Rattle.std.proofs.lemmas.Nat.{from_be_bytes-to_be_bytes_4}
use Rattle.std.specs.Int.{to_be_bytes, from_be_bytes, w32}
use Rattle.flow_types.specs.Records.{framed}
use Rattle.paged_view.specs.Reading.{HasRecord, size_of}
use Rattle.paged_view.specs.RecordLaws.{ReadsAsAppended}

-- four bytes that were given are the record's length
size_given : (given later row behind : List ℕ) → length row < 2 ^ 32 → given ++ later ≡ framed row ++ behind → 4 ≤ length given → size_of given ≡ length row
size_given given later row behind small is some =
    let e : take 4 given ≡ to_be_bytes w32 (length row) = sym (take-append-le 4 given later some) ∙ ap (take 4) (is ∙ append_assoc (to_be_bytes w32 (length row)) row behind) ∙ take_at (to_be_bytes w32 (length row)) (row ++ behind) 4 refl in
    ap (from_be_bytes w32) e ∙ from_be_bytes-to_be_bytes_4 (length row) small

pub length-framed : (row : List ℕ) → length (framed row) ≡ 4 + length row
length-framed row = length-append (to_be_bytes w32 (length row)) row

-- where all of a framed record was given, it is followed by what else was given
framed_given : (given later row behind : List ℕ) → given ++ later ≡ framed row ++ behind → 4 + length row ≤ length given → framed row ++ drop (4 + length row) given ≡ given
framed_given given later row behind is enough =
    let e : take (4 + length row) given ≡ framed row = sym (take-append-le (4 + length row) given later enough) ∙ ap (take (4 + length row)) is ∙ take_at (framed row) behind (4 + length row) (length-framed row) in
    ap (λ xs. xs ++ drop (4 + length row) given) (sym e) ∙ take-append-drop (4 + length row) given

-- its record stands behind its length
first_given : (given row rest : List ℕ) → framed row ++ rest ≡ given → take (length row) (drop 4 given) ≡ row
first_given given row rest is =
    let e : drop 4 given ≡ row ++ rest = ap (drop 4) (sym is ∙ append_assoc (to_be_bytes w32 (length row)) row rest) ∙ drop_at (to_be_bytes w32 (length row)) (row ++ rest) 4 refl in
    ap (take (length row)) e ∙ take_at row rest (length row) refl

pub reads_first : ReadsAsAppended
reads_first given later row behind small is = record {
  whole = (λ has. omega (arith, has, size has), λ enough. omega (arith, enough, size_given given later row behind small is (omega arith)));
  first = λ has. ap (λ n. take n (drop 4 given)) (size has) ∙ first_given given row (drop (4 + length row) given) (framed_given given later row behind is (omega (arith, has, size has)));
  rest = λ has. ap (λ n. framed row ++ drop (4 + n) given) (size has) ∙ framed_given given later row behind is (omega (arith, has, size has));
}
  where
    size : HasRecord given → size_of given ≡ length row
    size has = size_given given later row behind small is (omega (arith, has))
