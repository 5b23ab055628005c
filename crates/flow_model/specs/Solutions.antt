use Rattle.std.specs.Prelude.{ℕ, List, [], ◌∷◌, ◌++◌}
use Rattle.std.specs.List.{flat_map}
use Rattle.flow_types.specs.declared.order_item.OrderItem.{OrderItem}
use Rattle.flow_types.specs.declared.expr.Expr.{Expr}
use Rattle.flow_types.specs.Tuples.{Tuple, rank_cmp}
use Rattle.flow_types.specs.Bags.{sort_by}
use Rattle.flow_model.specs.declared.op.MergeRule.{MergeRule}
use Rattle.flow_model.specs.declared.op.MergeRule.TheVariants as rule
use Rattle.flow_model.specs.Env.{Tuples}
use Rattle.flow_model.specs.Rows.{with_key, keys_in, inner_rows}

-- The solution set of a delta iteration, as Ewen and others describe it: at most one tuple for each key. Which of
-- several candidates stays is this project's own rule.

-- a solution's tuples, one for each key in ascending order of the keys, and the numbers of the key's fields
pub record Solution : Type 0 where
  pub key : List ℕ
  pub entries : Tuples

-- the solution outside of delta iterations
abbrev pub no_solution : Solution
no_solution = record { key = []; entries = [] }

-- the last row, in a list of its own; nothing where there is no row
abbrev pub last_row : Tuples → Tuples
last_row [] = []
last_row (t ∷ []) = t ∷ []
last_row (t ∷ u ∷ rows) = last_row (u ∷ rows)

-- the row with the greatest rank, in a list of its own; nothing where there is no row
abbrev pub greatest_row : List OrderItem → Tuples → Tuples
greatest_row order rows = last_row (sort_by (rank_cmp order) rows)

-- for each key that rows have, the row of it with the greatest rank
abbrev pub chosen : List ℕ → List OrderItem → Tuples → Tuples
chosen key order rows = flat_map (λ k. greatest_row order (with_key key k rows)) (keys_in key rows)

-- the rows among which the new entry is chosen, of a key's old entry and its deltas
abbrev pub candidates : MergeRule → Tuples → Tuples → Tuples
candidates rule.Replace old deltas = deltas
candidates rule.Greatest old deltas = old ++ deltas

-- a key's new entry: where there are no deltas the old one stays, else the candidate with the greatest rank
abbrev pub next_entry : List OrderItem → MergeRule → Tuples → Tuples → Tuples
next_entry order merge old [] = old
next_entry order merge old (d ∷ deltas) = greatest_row order (candidates merge old (d ∷ deltas))

-- the entries after a superstep's deltas
abbrev pub merged : List ℕ → List OrderItem → MergeRule → Tuples → Tuples → Tuples
merged key order merge old deltas =
    flat_map (λ k. next_entry order merge (with_key key k old) (with_key key k deltas)) (keys_in key (old ++ deltas))

-- probe: for each row whose key the solution holds, the columns over the row followed by the entry
abbrev pub probe_rows : Solution → List ℕ → List Expr → Tuples → Tuples
probe_rows held key columns rows = inner_rows key held.key columns rows held.entries
