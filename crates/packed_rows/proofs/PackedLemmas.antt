-- Laws of packed rows.
use Rattle.std.proofs.Common.{◌≡◌, ℕ, zero, suc, ◌+◌, ◌<◌, ◌≤◌, ◌^◌, List, [], ◌∷◌, ◌++◌, length, take, drop, map, refl, sym, ◌∙◌, ap, subst, arith, append-nil, length-append}
use Rattle.std.specs.Int.{to_be_bytes, from_be_bytes, w32}
use Rattle.std.proofs.lemmas.Nat.{from_be_bytes-to_be_bytes_4}
use Rattle.std.proofs.lemmas.List.{take_at, drop_at, map-append}
use Rattle.std.proofs.lemmas.List.Elements.{All-nil, All-cons, All-head, All-tail, All-append}
use Rattle.std.proofs.lemmas.List.Concat.{flat_map-append}
use Rattle.flow_types.specs.Types.{Fields}
use Rattle.flow_types.specs.Tuples.{Tuple}
use Rattle.flow_types.specs.Records.{form, framed, frames, tuple_of, IsRecord}
use Rattle.record_codec.proofs.RecordLemmas.{form_read, is_record_of_read}
use Rattle.packed_rows.specs.Packed.{first_len, first_record, behind_first, rows_up_to, rows_in, IsRowOf, IsPackedOf, IsPacked, PacksReadAsWritten}

-- what is read of a record behind its length, in front of other bytes
pub record ReadsFront (rec rest bytes : List ℕ) : Type 0 where
  pub len : first_len bytes ≡ length rec
  pub first : first_record bytes ≡ rec
  pub behind : behind_first bytes ≡ rest
  pub long : length bytes ≡ 4 + length rec + length rest

pub front_read : (rec rest bytes : List ℕ) → length rec < 2 ^ 32 → bytes ≡ framed rec ++ rest → ReadsFront rec rest bytes
front_read rec rest bytes short formed =
    let head : take 4 bytes ≡ to_be_bytes w32 (length rec) = ap (take 4) formed in
    let body : drop 4 bytes ≡ rec ++ rest = ap (drop 4) formed in
    let len : first_len bytes ≡ length rec =
    ap (λ (xs : List ℕ). from_be_bytes w32 xs) head ∙ from_be_bytes-to_be_bytes_4 (length rec) short in
    let long : length (framed rec) ≡ 4 + length rec = omega arith in
    record {
      len = len;
      first = ap (λ (n : ℕ). take n (drop 4 bytes)) len ∙ ap (take (length rec)) body ∙ take_at rec rest (length rec) refl;
      behind = ap (λ (n : ℕ). drop (4 + n) bytes) len ∙ ap (drop (4 + length rec)) formed ∙ drop_at (framed rec) rest (4 + length rec) long;
      long = omega (arith, ap length formed, length-append (framed rec) rest);
    }

-- the same of the first of some rows
pub rows_read : (fields : Fields) (t : Tuple) (ts : List Tuple) (bytes : List ℕ) → IsPackedOf fields (t ∷ ts) bytes
    → ReadsFront (form t) (frames (map form ts)) bytes
rows_read fields t ts bytes is =
    front_read (form t) (frames (map form ts)) bytes (All-head (IsRowOf fields) t ts is.rows_of).short is.formed

-- the rows behind the first
pub rows_behind : (fields : Fields) (t : Tuple) (ts : List Tuple) (bytes : List ℕ) → IsPackedOf fields (t ∷ ts) bytes
    → IsPackedOf fields ts (behind_first bytes)
rows_behind fields t ts bytes is = record {
  rows_of = All-tail (IsRowOf fields) t ts is.rows_of;
  formed = (rows_read fields t ts bytes is).behind;
}

read_up_to : (n : ℕ) (fields : Fields) (rows : List Tuple) (bytes : List ℕ) → IsPackedOf fields rows bytes → length bytes ≤ n
    → rows_up_to n fields bytes ≡ rows
read_up_to zero fields [] bytes is short = refl
read_up_to (suc n) fields [] [] is short = refl
read_up_to (suc n) fields [] (b ∷ bs) is short = absurd (omega (arith, ap length is.formed))
read_up_to zero fields (t ∷ ts) bytes is short = absurd (omega (arith, (rows_read fields t ts bytes is).long))
read_up_to (suc n) fields (t ∷ ts) [] is short = absurd (omega (arith, (rows_read fields t ts [] is).long))
read_up_to (suc n) fields (t ∷ ts) (b ∷ bs) is short =
    let bytes : List ℕ = b ∷ bs in
    let front : ReadsFront (form t) (frames (map form ts)) bytes = rows_read fields t ts bytes is in
    let first : IsRowOf fields t = All-head (IsRowOf fields) t ts is.rows_of in
    let read : tuple_of fields (first_record bytes) ≡ t = ap (tuple_of fields) front.first ∙ form_read fields t first.tuple.fitting first.tuple.values in
    let others : rows_up_to n fields (behind_first bytes) ≡ ts =
    read_up_to n fields ts (behind_first bytes) (rows_behind fields t ts bytes is) (omega (arith, front.long, ap length front.behind)) in
    ap (λ (x : Tuple). x ∷ rows_up_to n fields (behind_first bytes)) read ∙ ap (λ (xs : List Tuple). t ∷ xs) others

pub packs_read_as_written : PacksReadAsWritten
packs_read_as_written fields rows bytes is = read_up_to (length bytes) fields rows bytes is (omega arith)

-- what is packed is packed rows that it is read as
pub packed_of_read : (fields : Fields) (rows : List Tuple) (bytes : List ℕ) → IsPackedOf fields rows bytes → IsPacked fields bytes
packed_of_read fields rows bytes is =
    subst (λ (ts : List Tuple). IsPackedOf fields ts bytes) (sym (packs_read_as_written fields rows bytes is)) is

-- no rows
pub packed_none : (fields : Fields) → IsPacked fields []
packed_none fields = record { rows_of = All-nil (IsRowOf fields); formed = refl }

-- one row
pub packed_one : (fields : Fields) (t : Tuple) → IsRowOf fields t → IsPackedOf fields (t ∷ []) (framed (form t))
packed_one fields t row = record {
  rows_of = All-cons (IsRowOf fields) t [] row (All-nil (IsRowOf fields));
  formed = sym (append-nil (framed (form t)));
}

-- some rows and others behind them
pub packed_both : (fields : Fields) (rows others : List Tuple) (bytes more : List ℕ) → IsPackedOf fields rows bytes → IsPackedOf fields others more
    → IsPackedOf fields (rows ++ others) (bytes ++ more)
packed_both fields rows others bytes more left right = record {
  rows_of = All-append (IsRowOf fields) rows others left.rows_of right.rows_of;
  formed = ap (λ (xs : List ℕ). xs ++ more) left.formed
      ∙ ap (λ (xs : List ℕ). frames (map form rows) ++ xs) right.formed
      ∙ sym (ap frames (map-append form rows others) ∙ flat_map-append framed (map form rows) (map form others));
}

-- Bytes are packed, and are read as these rows.
pub record Holds (fields : Fields) (rows : List Tuple) (bytes : List ℕ) : Type 0 where
  pub packed : IsPacked fields bytes
  pub read : rows_in fields bytes ≡ rows

pub holds : (fields : Fields) (rows : List Tuple) (bytes : List ℕ) → IsPackedOf fields rows bytes → Holds fields rows bytes
holds fields rows bytes is = record { packed = packed_of_read fields rows bytes is; read = packs_read_as_written fields rows bytes is }

-- one row more behind some
pub holds_more : (fields : Fields) (t : Tuple) (bytes : List ℕ) → IsPacked fields bytes → IsRowOf fields t
    → Holds fields (rows_in fields bytes ++ t ∷ []) (bytes ++ framed (form t))
holds_more fields t bytes packed row =
    holds fields (rows_in fields bytes ++ t ∷ []) (bytes ++ framed (form t))
    (packed_both fields (rows_in fields bytes) (t ∷ []) bytes (framed (form t)) packed (packed_one fields t row))

-- The first of some rows, and those behind it.
pub record HasFirst (fields : Fields) (bytes : List ℕ) : Type 0 where
  pub inside : 4 + first_len bytes ≤ length bytes
  pub first : IsRecord fields (first_record bytes)
  pub row : IsRowOf fields (tuple_of fields (first_record bytes))
  pub behind : IsPacked fields (behind_first bytes)
  pub rows : rows_in fields bytes ≡ tuple_of fields (first_record bytes) ∷ rows_in fields (behind_first bytes)
  pub formed : take (4 + first_len bytes) bytes ≡ framed (form (tuple_of fields (first_record bytes)))

has_first_of : (fields : Fields) (rows : List Tuple) (bytes : List ℕ) → IsPackedOf fields rows bytes → 0 < length bytes → HasFirst fields bytes
has_first_of fields [] bytes is some = absurd (omega (arith, ap length is.formed))
has_first_of fields (t ∷ ts) bytes is some =
    let rest : List ℕ = frames (map form ts) in
    let front : ReadsFront (form t) rest bytes = rows_read fields t ts bytes is in
    let first : IsRowOf fields t = All-head (IsRowOf fields) t ts is.rows_of in
    let read : tuple_of fields (first_record bytes) ≡ t = ap (tuple_of fields) front.first ∙ form_read fields t first.tuple.fitting first.tuple.values in
    let others : Holds fields ts (behind_first bytes) = holds fields ts (behind_first bytes) (rows_behind fields t ts bytes is) in
    let long : length (framed (form t)) ≡ 4 + length (form t) = omega arith in
    record {
      inside = omega (arith, front.len, front.long);
      first = is_record_of_read fields t (first_record bytes) (record { tuple = first.tuple; formed = front.first });
      row = subst (λ (x : Tuple). IsRowOf fields x) (sym read) first;
      behind = others.packed;
      rows = packs_read_as_written fields (t ∷ ts) bytes is
          ∙ ap (λ (x : Tuple). x ∷ ts) (sym read)
          ∙ ap (λ (xs : List Tuple). tuple_of fields (first_record bytes) ∷ xs) (sym others.read);
      formed = ap (λ (n : ℕ). take (4 + n) bytes) front.len
          ∙ ap (take (4 + length (form t))) is.formed
          ∙ take_at (framed (form t)) rest (4 + length (form t)) long
          ∙ ap (λ (x : Tuple). framed (form x)) (sym read);
    }

pub has_first : (fields : Fields) (bytes : List ℕ) → IsPacked fields bytes → 0 < length bytes → HasFirst fields bytes
has_first fields bytes is some = has_first_of fields (rows_in fields bytes) bytes is some
