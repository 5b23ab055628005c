use Rattle.std.specs.Prelude.{◌≡◌, ℕ, true, Some}
use Rattle.flow_types.specs.declared.field_type.FieldType.{FieldType}
use Rattle.flow_types.specs.declared.expr.Expr.{Expr}
use Rattle.flow_types.specs.Types.{Fields}
use Rattle.flow_types.specs.ExprTypes.{type_of, typing_of, extent_of, is_narrow_type}

-- What a walk over an expression tells of it: its type, that no part of it is wider than a text, and its extent.
pub record IsKnown (fields : Fields) (e : Expr) (kind : FieldType) (parts lists : ℕ) : Type 0 where
  pub typed : type_of fields e ≡ Some kind
  pub narrow : (typing_of fields e).narrow ≡ true
  pub parts_are : (extent_of e).parts ≡ parts
  pub lists_are : (extent_of e).lists ≡ lists

-- What is told of it by that of its parts: a type that is no wider than a text, and its extent.
pub record IsTold (kind wanted : FieldType) (parts lists some_parts some_lists : ℕ) : Type 0 where
  pub kind_is : kind ≡ wanted
  pub narrow : is_narrow_type (Some kind) ≡ true
  pub parts_are : parts ≡ some_parts
  pub lists_are : lists ≡ some_lists
