-- A lot holds the records that it is read as.
use Rattle.std.proofs.Common.{◌≡◌, ℕ, zero, suc, ◌^◌, ◌<◌, ◌≤◌, All, List, [], ◌∷◌, ◌++◌, length, refl, sym, ap, ◌∙◌, subst, arith, append-nil, length-append}
use Rattle.std.proofs.lemmas.List.{append_cancel_left}
use Rattle.std.proofs.lemmas.List.Elements.{All-head, All-tail}
use Rattle.flow_outside.specs.Blocks.{Blocks}
use Rattle.flow_types.specs.Records.{framed, frames}
use Rattle.paged_view.specs.Reading.{HasRecord, after_first}
use Rattle.paged_view.specs.RecordLaws.{ReadsFirst}
use Rattle.paged_view.proofs.RecordLemmas.{length-framed, reads_first}
use Rattle.lot_store.specs.Lots.{HoldsRows, LotView}
use Rattle.lot_store.specs.Rows.{Gains, IsWhole, rows_in, unframed, unframed_up_to}

read_frames : (most : ℕ) (rows : List (List ℕ)) → All (λ row. length row < 2 ^ 32) rows → length (frames rows) ≤ most → unframed_up_to most (frames rows) ≡ rows
read_frames zero [] short within = refl
read_frames (suc most) [] short within = refl
read_frames zero (row ∷ rows) short within = absurd (omega (arith, within, length-append (framed row) (frames rows), length-framed row))
read_frames (suc most) (row ∷ rows) short within =
    step (framed row ++ frames rows) refl (read_frames most rows (All-tail (λ r. length r < 2 ^ 32) row rows short) (omega (arith, within, length-append (framed row) (frames rows), length-framed row)))
  where
    step : (bytes : List ℕ) → bytes ≡ framed row ++ frames rows → unframed_up_to most (frames rows) ≡ rows → unframed_up_to (suc most) bytes ≡ row ∷ rows
    step [] is rest = absurd (omega (arith, ap length is, length-append (framed row) (frames rows), length-framed row))
    step (b ∷ bs) is rest =
        let first : ReadsFirst (b ∷ bs) row = reads_first (b ∷ bs) [] row (frames rows) (All-head (λ r. length r < 2 ^ 32) row rows short) (append-nil (b ∷ bs) ∙ is) in
        let whole : HasRecord (b ∷ bs) = first.whole.1 (omega (arith, ap length is, length-append (framed row) (frames rows), length-framed row)) in
        let behind : after_first (b ∷ bs) ≡ frames rows = append_cancel_left (framed row) _ _ (first.rest whole ∙ is) in
        ap (λ r. r ∷ unframed_up_to most (after_first (b ∷ bs))) (first.first whole)
        ∙ ap (λ xs. row ∷ unframed_up_to most xs) behind
        ∙ ap (λ xs. row ∷ xs) rest

pub rows_read : (m : Blocks) (lot : LotView) (rows : List (List ℕ)) → HoldsRows m lot rows → rows_in m lot ≡ rows
rows_read m lot rows holds = ap unframed holds.bytes ∙ read_frames (length (frames rows)) rows holds.lengths (omega arith)

-- What is added to a whole lot, as a relation and as a function.
pub gains_of : (m n : Blocks) (a b : LotView) (added : List (List ℕ)) → (IsWhole m a → HoldsRows n b (rows_in m a ++ added)) → Gains a b added m n
gains_of m n a b added now = record {
  whole = λ w. subst (HoldsRows n b) (sym (rows_read n b (rows_in m a ++ added) (now w))) (now w);
  rows = λ w. rows_read n b (rows_in m a ++ added) (now w);
}
