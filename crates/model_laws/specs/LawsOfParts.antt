use Rattle.std.specs.Prelude.{◌≡◌, ℕ, ◌<◌, ◌==◌, List, filter, Option}
use Rattle.std.specs.List.{flat_map}
use Rattle.flow_types.specs.declared.agg.Agg.{Agg}
use Rattle.flow_types.specs.declared.expr.Expr.{Expr}
use Rattle.flow_types.specs.declared.order_item.OrderItem.{OrderItem}
use Rattle.flow_types.specs.Tuples.{Tuple, key_of}
use Rattle.flow_types.specs.SameBags.{SameBag}
use Rattle.flow_types.specs.Hash.{part}
use Rattle.flow_model.specs.declared.op.Branch.{Branch}
use Rattle.flow_model.specs.declared.op.JoinKind.{JoinKind}
use Rattle.flow_model.specs.declared.op.MergeRule.{MergeRule}
use Rattle.flow_model.specs.Env.{Tuples}
use Rattle.flow_model.specs.Rows.{map_rows, filter_rows, flat_map_rows, keys_in, distinct_rows, group_rows, top_rows, cogroup_rows, inner_rows, alone, join_rows}
use Rattle.flow_model.specs.Solutions.{Solution, chosen, merged, probe_rows}
use Rattle.flow_model.specs.Algebra.{Env, rows_at}
use Rattle.flow_model.specs.Full.{numbers_below, own_entries}

-- The law of parts: an operation that goes by keys may be done part by part, where all rows of one key are in one
-- part. Which part a key is in, any function says.

-- each tuple has a part, by its number below n
abbrev pub HasParts : ℕ → (Tuple → ℕ) → Type 0
HasParts n part_of = (t : Tuple) → part_of t < n

-- the rows of a part
abbrev pub rows_in : (Tuple → ℕ) → ℕ → Tuples → Tuples
rows_in part_of i rows = filter (λ t. part_of t == i) rows

-- the rows whose key is in a part
abbrev pub keyed_in : (Tuple → ℕ) → List ℕ → ℕ → Tuples → Tuples
keyed_in part_of key i rows = rows_in (λ t. part_of (key_of key t)) i rows

-- what is done in each of n parts, one part after the other
abbrev pub in_each : ℕ → (ℕ → Tuples) → Tuples
in_each n done = flat_map done (numbers_below n)

-- The operations over one list: rows in parts are all rows, and each operation over the rows of each part, one part
-- after the other, is the operation over all rows. A row's own part serves `distinct`, and its key's part the others.
pub record OpsSplitBy (n : ℕ) (part_of : Tuple → ℕ) : Type 0 where
  pub rows : (xs : Tuples) → SameBag (in_each n (λ i. rows_in part_of i xs)) xs
  pub keyed : (key : List ℕ) (xs : Tuples) → SameBag (in_each n (λ i. keyed_in part_of key i xs)) xs
  pub keys :
      (key : List ℕ) (xs : Tuples) → SameBag (in_each n (λ i. keys_in key (keyed_in part_of key i xs))) (keys_in key xs)
  pub distinct : (xs : Tuples) → SameBag (in_each n (λ i. distinct_rows (rows_in part_of i xs))) (distinct_rows xs)
  pub grouped :
      (key : List ℕ) (aggs : List Agg) (xs : Tuples) →
      SameBag (in_each n (λ i. group_rows key aggs (keyed_in part_of key i xs))) (group_rows key aggs xs)
  pub topped :
      (key : List ℕ) (order : List OrderItem) (count : ℕ) (xs : Tuples) →
      SameBag (in_each n (λ i. top_rows key order count (keyed_in part_of key i xs))) (top_rows key order count xs)
  pub choice :
      (key : List ℕ) (order : List OrderItem) (xs : Tuples) →
      SameBag (in_each n (λ i. chosen key order (keyed_in part_of key i xs))) (chosen key order xs)

-- so for any number of parts and any function from keys to them
abbrev pub OpsSplit : Type 0
OpsSplit = (n : ℕ) (part_of : Tuple → ℕ) → HasParts n part_of → OpsSplitBy n part_of

-- The operations over two lists, each of them in parts by its own key: a join of each kind, and of it the pairs with one
-- key and the rows without a partner; a cogroup; a probe, which asks the entries of its part; and a merge, which puts
-- each part's deltas into that part's entries.
pub record PairsSplitBy (n : ℕ) (part_of : Tuple → ℕ) : Type 0 where
  pub joined :
      (kind : JoinKind) (left_key right_key : List ℕ) (columns : List Expr) (left_default right_default : Option Tuple)
      (ls rs : Tuples) →
      SameBag
      (in_each n (λ i. join_rows kind left_key right_key columns left_default right_default
      (keyed_in part_of left_key i ls) (keyed_in part_of right_key i rs)))
      (join_rows kind left_key right_key columns left_default right_default ls rs)
  pub pairs :
      (left_key right_key : List ℕ) (columns : List Expr) (ls rs : Tuples) →
      SameBag
      (in_each n (λ i. inner_rows left_key right_key columns (keyed_in part_of left_key i ls) (keyed_in part_of right_key i rs)))
      (inner_rows left_key right_key columns ls rs)
  pub without_partner :
      (own_key other_key : List ℕ) (others xs : Tuples) →
      SameBag
      (in_each n (λ i. alone own_key other_key (keyed_in part_of other_key i others) (keyed_in part_of own_key i xs)))
      (alone own_key other_key others xs)
  pub cogrouped :
      (left_key right_key : List ℕ) (left_aggs right_aggs : List Agg) (ls rs : Tuples) →
      SameBag
      (in_each n (λ i. cogroup_rows left_key right_key left_aggs right_aggs
      (keyed_in part_of left_key i ls) (keyed_in part_of right_key i rs)))
      (cogroup_rows left_key right_key left_aggs right_aggs ls rs)
  pub probed :
      (held : Solution) (key : List ℕ) (columns : List Expr) (xs : Tuples) →
      SameBag
      (in_each n (λ i. probe_rows (record { key = held.key; entries = keyed_in part_of held.key i held.entries })
      key columns (keyed_in part_of key i xs)))
      (probe_rows held key columns xs)
  pub put_together :
      (key : List ℕ) (order : List OrderItem) (merge : MergeRule) (old xs : Tuples) →
      SameBag
      (in_each n (λ i. merged key order merge (keyed_in part_of key i old) (keyed_in part_of key i xs)))
      (merged key order merge old xs)

-- so for any number of parts and any function from keys to them
abbrev pub PairsSplit : Type 0
PairsSplit = (n : ℕ) (part_of : Tuple → ℕ) → HasParts n part_of → PairsSplitBy n part_of

-- all pieces of a list, one after the other
abbrev pub whole : List Tuples → Tuples
whole pieces = flat_map (λ piece. piece) pieces

-- The operations without a key over a list cut in pieces, piece by piece. A union takes the pieces of each of its
-- inputs: those of several lists of evaluated nodes.
pub record PiecesSplit : Type 0 where
  pub mapped : (columns : List Expr) (pieces : List Tuples) → flat_map (map_rows columns) pieces ≡ map_rows columns (whole pieces)
  pub filtered : (test : Expr) (pieces : List Tuples) → flat_map (filter_rows test) pieces ≡ filter_rows test (whole pieces)
  pub flat_mapped :
      (branches : List Branch) (pieces : List Tuples) →
      flat_map (flat_map_rows branches) pieces ≡ flat_map_rows branches (whole pieces)
  pub united :
      (names : List ℕ) (envs : List Env) →
      SameBag (flat_map (λ env. flat_map (rows_at env) names) envs) (flat_map (λ name. flat_map (λ env. rows_at env name) envs) names)
  pub parted :
      (part_of : Tuple → ℕ) (i : ℕ) (pieces : List Tuples) →
      flat_map (rows_in part_of i) pieces ≡ rows_in part_of i (whole pieces)

-- The hash of a key's record is such a function, by which a worker's own entries are those of its part.
pub record HashGivesParts : Type 0 where
  pub parts : (workers : ℕ) → 0 < workers → HasParts workers (λ key. part key workers)
  pub own :
      (key : List ℕ) (workers worker : ℕ) (entries : Tuples) →
      own_entries key workers worker entries ≡ keyed_in (λ k. part k workers) key worker entries
