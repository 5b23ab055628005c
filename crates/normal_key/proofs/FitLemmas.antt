-- The test of a record is true exactly of a record.
use Rattle.std.proofs.Common.{◌≡◌, ℕ, true, ◌&&◌, List, IsTrue}
use Rattle.std.specs.List.{list_all}
use Rattle.std.specs.Str.{bytes_eq}
use Rattle.std.proofs.lemmas.Bool.{and_parts, and_from}
use Rattle.std.proofs.lemmas.Slice.Eq.{bytes_eq-Decides}
use Rattle.flow_types.specs.Values.{is_value}
use Rattle.flow_types.specs.Types.{Fields, fits}
use Rattle.flow_types.specs.Tuples.{Tuple}
use Rattle.flow_types.specs.Records.{form, tuple_of, IsRecord}
use Rattle.normal_key.specs.Fits.{is_record}
use Rattle.normal_key.specs.Laws.{TellsRecords}

pub record_from_test : (fields : Fields) (bytes : List ℕ) → IsTrue (is_record fields bytes) → IsRecord fields bytes
record_from_test fields bytes passes =
    let t : Tuple = tuple_of fields bytes in
    let outer : ((fits fields t && list_all is_value t) ≡ true) × (bytes_eq bytes (form t) ≡ true) =
    and_parts (fits fields t && list_all is_value t) (bytes_eq bytes (form t)) passes in
    let inner : (fits fields t ≡ true) × (list_all is_value t ≡ true) = and_parts (fits fields t) (list_all is_value t) outer.0 in
    record {
      tuple = record { fitting = inner.0; values = inner.1 };
      formed = (bytes_eq-Decides bytes (form t)).0 outer.1;
    }

test_from_record : (fields : Fields) (bytes : List ℕ) → IsRecord fields bytes → IsTrue (is_record fields bytes)
test_from_record fields bytes is =
    let t : Tuple = tuple_of fields bytes in
    and_from (fits fields t && list_all is_value t) (bytes_eq bytes (form t))
    (and_from (fits fields t) (list_all is_value t) is.tuple.fitting is.tuple.values)
    ((bytes_eq-Decides bytes (form t)).1 is.formed)

pub tells_records : TellsRecords
tells_records fields bytes = (record_from_test fields bytes, test_from_record fields bytes)
