-- The ordered pairs of workers, numbered: each has one mailbox, which is one word and one slot.
use Rattle.std.specs.Prelude.{ℕ, zero, suc, ◌+◌, ◌-◌, ◌*◌, ◌/◌, ◌%◌, ◌==◌, nat_lt, if◌then◌else◌, List, [], ◌∷◌}

-- How many ordered pairs there are among so many workers.
abbrev pub pair_count : ℕ → ℕ
pair_count w = w * (w - 1)

-- The number of the pair from p to c: poster by poster, and of each its receivers in the order of their
-- numbers, the poster itself left out.
unfoldable pub pair_number : ℕ → ℕ → ℕ → ℕ
pair_number w p c = p * (w - 1) + (if nat_lt c p then c else c - 1)

-- The poster of a pair.
unfoldable pub poster_of : ℕ → ℕ → ℕ
poster_of w k = k / (w - 1)

-- The receiver of a pair.
unfoldable pub receiver_of : ℕ → ℕ → ℕ
receiver_of w k = if nat_lt (k % (w - 1)) (k / (w - 1)) then k % (w - 1) else k % (w - 1) + 1

-- Whose turn it is at a mailbox: its poster's while the word is even, its receiver's while it is odd.
unfoldable pub turn : ℕ → ℕ → ℕ → ℕ
turn w word k = if word % 2 == 0 then poster_of w k else receiver_of w k

-- The workers 0 to n - 1.
abbrev pub workers_below : ℕ → List ℕ
workers_below zero = []
workers_below (suc n) = n ∷ workers_below n
