-- The record that a lot shows, and what is given of it.
use Rattle.std.proofs.Common.{Result, Err, OnOk, ◌≡◌, ◌^◌, ◌<◌, ◌≤◌, ℕ, Bool, true, false, List, [], ◌∷◌, length, map, Option, Some, None, IsTrue, refl, sym, ap, ◌∙◌, subst, arith}
use Rattle.segment_core.specs.Segments.{SegmentView}
use Rattle.flow_outside.specs.Blocks.{Blocks, BothTold}
use Rattle.flow_outside.specs.Causes.{HasStreamCause}
use Rattle.flow_outside.specs.Told.{IfTold}
use Rattle.flow_outside.specs.declared.failure.StreamFault.{StreamFault}
use Rattle.flow_outside.specs.declared.failure.StreamFault.TheVariants as fault
use Rattle.flow_types.specs.Limits.{record_limit}
use Rattle.flow_types.specs.Tuples.{Tuple}
use Rattle.flow_types.specs.Types.{Fields, widest}
use Rattle.flow_types.specs.Records.{IsRecord, IsRecordOf, form, tuple_of}
use Rattle.record_codec.proofs.RecordLemmas.{form_widest, reads_as_written}
use Rattle.lot_store.specs.Lots.{LotView}
use Rattle.lot_store.proofs.LotLemmas.{on_ok_map}
use Rattle.row_pipe.specs.Pipes.{AddsRows, GivesShown, HasPlaceFor, HasPlaces, ShowsTuple}
use Rattle.row_pipe.specs.Works.{piped}
use Rattle.row_pipe.specs.declared.work.Work.{Work}
use Rattle.lot_store.specs.Storage.{Stand}
use Rattle.lot_store.proofs.Telling.{told_map, told_weaker}
use Rattle.row_pipe.proofs.Passing.{second_stands}

-- a record of a narrow schema is short
pub short_record : (fields : Fields) (bytes : List ℕ) → IsRecord fields bytes → widest fields ≤ record_limit → length bytes < 2 ^ 32
short_record fields bytes is small =
    omega (arith, form_widest fields (tuple_of fields bytes) is.tuple.fitting, ap length is.formed, small)

-- There is a place for what is given of the row.
pub place_of_head : (t : Option Blocks) (fields : Fields) (w : Work) (input out : LotView) (p : List SegmentView) (bytes : List ℕ) → IsRecord fields bytes
    → IfTold t (HasPlaces fields w input out p) → IfTold t (HasPlaceFor (map form (piped w (tuple_of fields bytes ∷ []))) out p)
place_of_head t fields w input out p bytes is places =
    told_weaker t (HasPlaces fields w input out p) (HasPlaceFor (map form (piped w (tuple_of fields bytes ∷ []))) out p)
    (λ m here. record { size = here.size; stand = second_stands here.size p input out m here.stand; within = here.within (tuple_of fields bytes) is.tuple }) places

same_bytes : (bytes : List ℕ) (u : Tuple) (shown : Option (List ℕ)) → Some bytes ≡ shown → shown ≡ Some (form u) → bytes ≡ form u
same_bytes bytes u shown is other = let both : Some bytes ≡ Some (form u) = is ∙ other in cc

-- What is given of the tuple that the record is read as is given of the tuple that it was made of.
pub gives_head : {E : Type 0} (answer : Result Unit E) (t u : Option Blocks) (fields : Fields) (w : Work) (input out out_now : LotView) (bytes : List ℕ) → Some bytes ≡ input.feed.shown
    → OnOk answer (BothTold t u (AddsRows out out_now (map form (piped w (tuple_of fields bytes ∷ []))))) → OnOk answer (BothTold t u (GivesShown fields w input out out_now))
gives_head answer t u fields w input out out_now bytes is adds =
    on_ok_map answer (BothTold t u (AddsRows out out_now (map form (piped w (tuple_of fields bytes ∷ []))))) (BothTold t u (GivesShown fields w input out out_now))
    (told_map t u (AddsRows out out_now (map form (piped w (tuple_of fields bytes ∷ [])))) (GivesShown fields w input out out_now)
    (λ m n added row fit shown.
    let read : tuple_of fields bytes ≡ row = reads_as_written fields row bytes (record { tuple = fit; formed = same_bytes bytes row input.feed.shown is shown }) in
    subst (λ (v : Tuple). AddsRows out out_now (map form (piped w (v ∷ []))) m n) read added))
    adds

-- Where a record isn't one of the schema, the disk doesn't tell.
not_whole : (t : Option Blocks) (fields : Fields) (input : LotView) (bytes : List ℕ) (whole : Bool) → IfTold t (λ m. ShowsTuple fields input) → Some bytes ≡ input.feed.shown
    → (IsRecord fields bytes → IsTrue whole) → whole ≡ false → t ≡ None
not_whole None fields input bytes whole shows is test fails = refl
not_whole (Some m) fields input bytes whole (row, of_row) is test fails =
    let of : IsRecordOf fields row bytes = record { tuple = of_row.0; formed = same_bytes bytes row input.feed.shown is of_row.1 } in
    let yes : whole ≡ true = test (subst (λ (v : Tuple). IsRecordOf fields v bytes) (sym (reads_as_written fields row bytes of)) of) in
    cc

pub damaged_head : {T : Type 0} (count block : ℕ) (t : Option Blocks) (fields : Fields) (input : LotView) (bytes : List ℕ) (whole : Bool) (given : StreamFault) → IfTold t (λ m. ShowsTuple fields input) → Some bytes ≡ input.feed.shown
    → (IsRecord fields bytes → IsTrue whole) → whole ≡ false → given ≡ fault.Damaged block → HasStreamCause {T = T} count count t (Err given)
damaged_head {T} count block t fields input bytes whole given shows is test fails damaged =
    subst (λ f. HasStreamCause {T = T} count count t (Err f)) (sym damaged) (record {
      later = omega arith;
      spill = λ is. cc;
      damaged = λ b same. not_whole t fields input bytes whole shows is test fails;
    })
