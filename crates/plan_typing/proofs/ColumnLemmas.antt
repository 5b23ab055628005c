-- What is told of columns, one after the other.
use Rattle.std.proofs.Common.{◌≡◌, Bool, ◌&&◌, ◌++◌, Option, Some, None, refl}
use Rattle.std.specs.Prelude.{option_map}
use Rattle.flow_types.specs.declared.field_type.FieldType.{FieldType}
use Rattle.flow_types.specs.declared.field_type.FieldType.TheVariants as type
use Rattle.flow_types.specs.Types.{Fields}
use Rattle.flow_model.specs.Schemas.{is_bool}
use Rattle.plan_typing.specs.Told.{capped, ColumnTypes}

-- types and whether they are narrow
abbrev pub column_types : Fields → Bool → ColumnTypes
column_types types narrow = record { types = types; narrow = narrow }

-- columns that were told before others
abbrev pub after : ColumnTypes → Option ColumnTypes → Option ColumnTypes
after done rest = option_map (λ (cs : ColumnTypes). column_types (done.types ++ cs.types) (done.narrow && cs.narrow)) rest

-- a test is of a Bool exactly where what is told of it is
pub bool_told : (t : Option FieldType) → is_bool (option_map capped t) ≡ is_bool t
bool_told None = refl
bool_told (Some type.Long) = refl
bool_told (Some type.Bool) = refl
bool_told (Some (type.Str n)) = refl
