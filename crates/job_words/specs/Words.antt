use Rattle.std.specs.Prelude.{ℕ, ◌≤◌, Bool, false, not, ◌&&◌, ◌==◌, nat_le, nat_lt, if◌then◌else◌, List, [], ◌∷◌, length, drop, slice_index_or, codes, Option, Some, None, option_map}
use Rattle.std.specs.List.{before_first, after_first, position_or_len}
use Rattle.std.specs.Str.{bytes_eq}
use Rattle.flow_types.specs.Decimal.{number_up_to}
use Rattle.flow_types.specs.ExprTypes.{◌>>=◌}
use Rattle.flow_types.specs.Names.{is_name}
use Rattle.job_words.specs.declared.program.Program.{Program}
use Rattle.job_words.specs.declared.program.Program.TheVariants as program

-- The words of the command lines. Their forms are this project's own.

-- A name and the path that it is bound to.
pub record Binding : Type 0 where
  pub name : List ℕ
  pub path : List ℕ

-- How many workers a run has, and how many segments.
pub record Budget : Type 0 where
  pub workers : ℕ
  pub segments : ℕ

-- What is to be done with a plan: to check it, to say how many segments it needs with so many workers, or to run it over
-- the files that names are bound to, within a budget where there is one.
pub data Task : Type 0 where
  check : Task
  need : (workers : ℕ) → Task
  run : (budget : Option Budget) (bindings : List Binding) → Task

-- What words ask for: something to be done with the plan in a file.
pub record Asked : Type 0 where
  pub plan : List ℕ
  pub task : Task

-- ---- one word

-- not empty, and no `-` at its start
abbrev pub is_word : List ℕ → Bool
is_word [] = false
is_word (c ∷ cs) = not (c == 45)

-- a number that isn't below the least
abbrev pub not_below : ℕ → Option ℕ → Option ℕ
not_below least None = None
not_below least (Some n) = if nat_le least n then Some n else None

-- the number from `least` to `most` that one to ten digits write
abbrev pub number_of : ℕ → ℕ → List ℕ → Option ℕ
number_of least most word = if nat_le (length word) 10 then not_below least (number_up_to most word) else None

-- the sign between a name and its path
abbrev pub is_equals : ℕ → Bool
is_equals c = c == 61

-- `NAME=PATH`: the name ends at the first `=`, it has a name's form, and the path isn't empty
abbrev pub binding_of : List ℕ → Option Binding
binding_of word =
    if nat_lt (position_or_len is_equals word) (length word) && is_name (before_first is_equals word) && nat_le 1 (length (after_first is_equals word))
    then Some (record { name = before_first is_equals word; path = after_first is_equals word })
    else None

-- a binding of each word, where each is one
abbrev pub bindings_of : List (List ℕ) → Option (List Binding)
bindings_of [] = Some []
bindings_of (word ∷ words) = binding_of word >>= λ b. bindings_of words >>= λ bs. Some (b ∷ bs)

-- ---- all words

-- the most workers: one, until there are workers beside one another
abbrev pub worker_limit : ℕ
worker_limit = 1

-- the most segments
abbrev pub segment_limit : ℕ
segment_limit = 65536

-- the word at a place, from 0
abbrev pub word_at : List (List ℕ) → ℕ → List ℕ
word_at words i = slice_index_or words i []

-- a word is a command's, before the word of a plan's file
abbrev pub is_command : (name command plan : List ℕ) → Bool
is_command name command plan = bytes_eq command name && is_word plan

-- a task with the plan in a file
abbrev pub ask : List ℕ → Task → Asked
ask plan task = record { plan = plan; task = task }

-- `check PLAN`
abbrev pub check_of : (command plan : List ℕ) → Option Asked
check_of command plan = if is_command (codes "check") command plan then Some (ask plan Task.check) else None

-- `need PLAN WORKERS`
abbrev pub need_of : (command plan workers : List ℕ) → Option Asked
need_of command plan workers =
    if is_command (codes "need") command plan then (number_of 1 worker_limit workers >>= λ w. Some (ask plan (Task.need w))) else None

-- the numbers of a budget
abbrev pub budget_of : (workers segments : List ℕ) → Option Budget
budget_of workers segments =
    number_of 1 worker_limit workers >>= λ w. number_of 1 segment_limit segments >>= λ s. Some (record { workers = w; segments = s })

-- a run, where its budget and its bindings are ones
abbrev pub run_with : List ℕ → Option (Option Budget) → Option (List Binding) → Option Asked
run_with plan budget bindings = budget >>= λ b. bindings >>= λ bs. Some (ask plan (Task.run b bs))

-- `run PLAN WORKERS SEGMENTS NAME=PATH..`, with any number of bindings
abbrev pub run_of : (command plan workers segments : List ℕ) → (bindings : List (List ℕ)) → Option Asked
run_of command plan workers segments bindings =
    if is_command (codes "run") command plan then run_with plan (option_map Some (budget_of workers segments)) (bindings_of bindings) else None

-- the words of `flink_run`; other words ask for nothing
abbrev pub flink_asked : List (List ℕ) → Option Asked
flink_asked words =
    if length words == 2 then check_of (word_at words 0) (word_at words 1)
    else (if length words == 3 then need_of (word_at words 0) (word_at words 1) (word_at words 2)
    else (if nat_le 4 (length words) then run_of (word_at words 0) (word_at words 1) (word_at words 2) (word_at words 3) (drop 4 words) else None))

-- the words of `plain_run`: `PLAN NAME=PATH..`; other words ask for nothing
abbrev pub plain_asked : List (List ℕ) → Option Asked
plain_asked words = if is_word (word_at words 0) then run_with (word_at words 0) (Some None) (bindings_of (drop 1 words)) else None

-- What the words of a program ask for.
abbrev pub asked_of : Program → List (List ℕ) → Option Asked
asked_of program.FlinkRun words = flink_asked words
asked_of program.PlainRun words = plain_asked words

-- The numbers of a budget are in their limits.
pub record IsBudgetWithin (b : Budget) : Type 0 where
  pub some_workers : 1 ≤ b.workers
  pub few_workers : b.workers ≤ worker_limit
  pub few_segments : b.segments ≤ segment_limit

-- The numbers of a budget are in their limits, where there is one.
abbrev pub IsInLimits : Option Budget → Type 0
IsInLimits None = Unit {0}
IsInLimits (Some budget) = IsBudgetWithin budget

-- The numbers of a task are in their limits.
abbrev pub IsWithin : Task → Type 0
IsWithin Task.check = Unit {0}
IsWithin (Task.need workers) = (1 ≤ workers) × (workers ≤ worker_limit)
IsWithin (Task.run budget bindings) = IsInLimits budget
