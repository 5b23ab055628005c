use Rattle.std.specs.Prelude.{ℕ}

-- The limits of texts and schemas are this project's own.

-- the most bytes of a text, and so the largest bound of a Str field
abbrev pub text_limit : ℕ
text_limit = 16382

-- the most fields of a tuple
abbrev pub field_limit : ℕ
field_limit = 32

-- the most bytes of a record
abbrev pub record_limit : ℕ
record_limit = 16384
