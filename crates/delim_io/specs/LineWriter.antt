use Rattle.std.specs.Prelude.{◌≡◌, ℕ, true, false, List, Some}
use Rattle.std.specs.Global.{Vec}
use Rattle.csv.specs.Writing.{default_writer, with_flexible, writer_setup, fields_written, has_written, text_written}
use Rattle.csv.specs.declared.writer.Writer.{Writer}

-- csv's writer holds this text, and stands between two records. It is the default writer, but that records may have
-- different numbers of fields.
pub record HoldsText (writer : Writer (Vec ℕ)) (text : List ℕ) : Type 0 where
  pub setup : writer_setup writer ≡ with_flexible default_writer true
  pub no_field : fields_written writer ≡ 0
  pub no_byte : has_written writer ≡ false
  pub holds : text_written (λ (v : Vec ℕ). Some v.items) writer ≡ Some text
