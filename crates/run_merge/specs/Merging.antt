-- Ascending streams are merged. Their rows in order are this project's own `sort_by` of all of them: of rows that tie,
-- those of an earlier stream stand first.
use Rattle.std.specs.Prelude.{◌≡◌, ℕ, zero, suc, ◌<◌, ◌+◌, Bool, true, false, List, [], ◌∷◌, Option, Some, None, All, IsTrue, slice_index_or, cond, is_some}
use Rattle.std.specs.List.{flat_map}
use Rattle.std.specs.Ordering.{is_gt, is_lt}
use Rattle.std.specs.declared.cmp.Ordering.{Ordering}
use Rattle.flow_outside.specs.Blocks.{Blocks}
use Rattle.flow_types.specs.Bags.{sort_by}
use Rattle.run_merge.specs.declared.source.Source.{Source}
use Rattle.run_merge.specs.Prefixes.{KeepsPrefix}

-- a record's bytes, and records one after the other
abbrev pub Row : Type 0
Row = List ℕ

abbrev pub Rows : Type 0
Rows = List Row

-- no row stands behind one that is greater
abbrev pub Ascends : (Row → Row → Ordering) → Rows → Type 0
Ascends cmp [] = Unit {0}
Ascends cmp (row ∷ rows) = All (λ other. is_gt (cmp row other) ≡ false) rows × Ascends cmp rows

-- the rows of several lists, in order
abbrev pub merged : (Row → Row → Ordering) → List Rows → Rows
merged cmp lists = sort_by cmp (flat_map (λ rows. rows) lists)

-- What a stream has yet to give: what it has left, behind the row that it shows where that wasn't given yet.
abbrev pub Pending : (given : Bool) → (shown : Option Row) → (left : Rows → Type 0) → Rows → Type 0
Pending true shown left rows = left rows
Pending false None left rows = rows ≡ []
Pending false (Some row) left rows = (rest : Rows) × (rows ≡ row ∷ rest) × left rest

-- The same, where these rows ascend and each passes the order's own test.
pub record Yields (cmp : Row → Row → Ordering) (fit : Row → Bool) (given : Bool) (shown : Option Row) (left : Rows → Type 0) (rows : Rows) : Type 0 where
  pub pending : Pending given shown left rows
  pub ascends : Ascends cmp rows
  pub fits : All (λ row. IsTrue (fit row)) rows

-- for each element of one list the one of the other
abbrev pub Pairwise : {S : Type 0} → (S → Rows → Type 0) → List S → List Rows → Type 0
Pairwise P [] [] = Unit {0}
Pairwise P [] (rows ∷ lists) = ⊥
Pairwise P (s ∷ sources) [] = ⊥
Pairwise P (s ∷ sources) (rows ∷ lists) = P s rows × Pairwise P sources lists

-- of some lists that are pairwise what the sources yield these are the rows in order
abbrev pub Merges : {S : Type 0} → (Row → Row → Ordering) → (S → Rows → Type 0) → List S → Rows → Type 0
Merges cmp yields sources rows = (lists : List Rows) × Pairwise yields sources lists × (rows ≡ merged cmp lists)

-- what a source yields, by what the disk tells
abbrev pub yields : {R : Type 0} → (Row → Row → Ordering) → (Row → Bool) → (R → Option Row) → (R → Option Blocks → Rows → Type 0) → Option Blocks → Source R → Rows → Type 0
yields cmp fit shown left told s rows = Yields cmp fit s.given (shown s.stream) (left s.stream told) rows

-- the row that is shown passes the test
abbrev pub ShowsFitting : (Row → Bool) → Option Row → Type 0
ShowsFitting fit None = Unit {0}
ShowsFitting fit (Some row) = IsTrue (fit row)

-- the row that a source shows passes the test, and its prefix is kept, where it wasn't given yet
abbrev pub WaitsFitting : {R : Type 0} → (Row → Bool) → (Row → List ℕ) → (R → Option Row) → Source R → Type 0
WaitsFitting fit prefix_of shown s = s.given ≡ false → ShowsFitting fit (shown s.stream) × KeepsPrefix prefix_of s.prefix (shown s.stream)

-- how many records it still gives at most, the one that it shows among them where that wasn't given yet
abbrev pub most_of : {R : Type 0} → (R → Option Row) → (R → ℕ) → Source R → ℕ
most_of shown most s = most s.stream + cond s.given 0 (cond (is_some (shown s.stream)) 1 0)

-- a test's answer is whether one row that is shown is less than another, where both are shown
abbrev pub IsLess : (Row → Row → Ordering) → Bool → Option Row → Option Row → Type 0
IsLess cmp answer None other = Unit {0}
IsLess cmp answer (Some row) None = Unit {0}
IsLess cmp answer (Some row) (Some other) = answer ≡ is_lt (cmp row other)

-- Of the first `count` rows that are shown, the one at this place is the first of the least ones.
pub record IsLeastBelow {R : Type 0} (cmp : Row → Row → Ordering) (shown : R → Option Row) (sources : List (Source R)) (count place : ℕ) (row : Row) : Type 0 where
  pub there : place < count
  pub here : (d : Source R) → shown (slice_index_or sources place d).stream ≡ Some row
  pub before : (i : ℕ) (d : Source R) (other : Row) → i < place → shown (slice_index_or sources i d).stream ≡ Some other → is_gt (cmp other row) ≡ true
  pub least : (i : ℕ) (d : Source R) (other : Row) → i < count → shown (slice_index_or sources i d).stream ≡ Some other → is_gt (cmp row other) ≡ false

-- Where one is shown this is that place, and else none is.
abbrev pub IsBestBelow : {R : Type 0} → (Row → Row → Ordering) → (R → Option Row) → List (Source R) → (count : ℕ) → Option ℕ → Type 0
IsBestBelow {R} cmp shown sources count None = (i : ℕ) (d : Source R) → i < count → shown (slice_index_or sources i d).stream ≡ None
IsBestBelow cmp shown sources count (Some place) = (row : Row) × IsLeastBelow cmp shown sources count place row

-- what a stream at a place shows; none past the end, and none where there is no place
abbrev pub shown_at : {R : Type 0} → (R → Option Row) → List (Source R) → Option ℕ → Option Row
shown_at shown [] place = None
shown_at shown (s ∷ sources) None = None
shown_at shown (s ∷ sources) (Some zero) = shown s.stream
shown_at shown (s ∷ sources) (Some (suc place)) = shown_at shown sources (Some place)

-- the number of a stream at a place, 0 where there is none
abbrev pub number_at : {R : Type 0} → (R → ℕ) → List (Source R) → Option ℕ → ℕ
number_at number [] place = 0
number_at number (s ∷ sources) None = 0
number_at number (s ∷ sources) (Some zero) = number s.stream
number_at number (s ∷ sources) (Some (suc place)) = number_at number sources (Some place)

-- the number of the first stream whose record was given, 0 where there is none: where a stream failed it is that one,
-- since those before it show their next records
abbrev pub number_of_given : {R : Type 0} → (R → ℕ) → List (Source R) → ℕ
number_of_given number [] = 0
number_of_given number (s ∷ sources) = cond s.given (number s.stream) (number_of_given number sources)

-- the block that a merge read last: that of the stream whose record it shows, and where it shows none that of the first
-- whose record was given
abbrev pub block_at : {R : Type 0} → (R → ℕ) → List (Source R) → Option ℕ → ℕ
block_at number sources None = number_of_given number sources
block_at number sources (Some place) = number_at number sources (Some place)

-- a stream that was added: it counts as not advanced, so what it shows isn't given, only what it has left
abbrev pub added : {R : Type 0} → R → Source R
added stream = record { stream = stream; given = true; prefix = None }
