use Rattle.std.proofs.Common.{◌≡◌, drop}
use Rattle.plan_typing.specs.Told.{told_columns}
use Rattle.plan_typing.proofs.ColumnLemmas.{column_types, after}
use Rattle.plan_typing.proofs.columns.columns_of.Given as goal

abbrev pub invariant-loop-column : goal.invariant-loop-column
invariant-loop-column l = told_columns l.fields l.columns ≡ after (column_types l.types.items l.narrow) (told_columns l.fields (drop l.column-index l.columns))
