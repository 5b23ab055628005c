-- What a header says after it was written.
use Rattle.std.proofs.Common.{◌≡◌, ℕ, ◌+◌, ◌^◌, ◌<◌, ◌≤◌, List, ◌++◌, length, take, drop, sym, ap, ◌∙◌, arith}
use Rattle.std.proofs.Math.Seq.{drop-append-add, take-append_seam}
use Rattle.std.proofs.lemmas.List.{length-take-le}
use Rattle.std.proofs.lemmas.Nat.{from_be_bytes-to_be_bytes_8}
use Rattle.std.specs.Int.{from_be_bytes, to_be_bytes, w32, w64}
use Rattle.spool.specs.Headers.{next_of, with_header}

-- The block that was written is the one that the header names.
next_written : (page : List ℕ) (number next : ℕ) → 16 ≤ length page → next < 2 ^ 64 → next_of (with_header page number next) ≡ next
next_written page number next long small =
    let rest : List ℕ = to_be_bytes w64 next ++ drop 16 page in
    let before : length (take 4 page) + 4 ≡ 8 = omega (arith, length-take-le 4 page (omega (arith, long))) in
    let behind : drop 8 (with_header page number next) ≡ rest =
    ap (λ k. drop k (with_header page number next)) (sym before) ∙ drop-append-add (take 4 page) (to_be_bytes w32 number ++ rest) 4 in
    ap (λ (xs : List ℕ). from_be_bytes w64 (take 8 xs)) behind ∙ from_be_bytes-to_be_bytes_8 next small

-- The same of a page that was lent to be written.
pub next_lent : (page written : List ℕ) (number next : ℕ) → written ≡ with_header page number next → length written ≡ length page
    → 16 ≤ length page → next < 2 ^ 64
    → next_of (take (length page) (written ++ drop (length written) page)) ≡ next
next_lent page written number next is same long small =
    ap next_of (ap (λ n. take n (written ++ drop (length written) page)) (sym same) ∙ take-append_seam written (drop (length written) page) ∙ is)
    ∙ next_written page number next long small
