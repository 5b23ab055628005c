-- What a view has, and what each kind of step makes of it.
use Rattle.std.specs.Prelude.{◌≡◌, ℕ, ◌+◌, ◌/◌, ◌<◌, Bool, true, false, not, ◌==◌, ◌||◌, List, [], ◌∷◌, ◌++◌, map, filter, sum_by, Option, Some, None}
use Rattle.segment_core.specs.Segments.{SegmentView}
use Rattle.exchange_core.specs.Lane.{Bytes, Lane}
use Rattle.exchange_core.specs.Laws.{KeepsUp}
use Rattle.post_table.specs.Pairs.{pair_count, poster_of, receiver_of, workers_below}
use Rattle.post_table.specs.declared.view.Moved.{Moved}
use Rattle.post_table.specs.declared.view.View.{View}

-- A list of what was posted, or of what was taken, pairs of workers mixed.
abbrev pub Log : Type 0
Log = List Moved

-- What stands in it of one pair, in order.
abbrev pub of_pair : ℕ → Log → Log
of_pair k log = filter (λ (m : Moved). m.pair == k) log

-- The pages, as their bytes.
abbrev pub pages_of : Log → List Bytes
pages_of log = map (λ (m : Moved). m.bytes) log

-- What the ids weigh that went into slots, and those that came out of them.
abbrev pub weigh_in : (ℕ → ℕ) → Log → ℕ
weigh_in h log = sum_by (λ (m : Moved). h m.went_in) log

abbrev pub weigh_out : (ℕ → ℕ) → Log → ℕ
weigh_out h log = sum_by (λ (m : Moved). h m.came_out) log

-- The worker is one of these.
abbrev pub is_among : ℕ → List ℕ → Bool
is_among i [] = false
is_among i (x ∷ xs) = (i == x) || is_among i xs

-- The worker's lists stand in this view.
abbrev pub is_here : View → ℕ → Bool
is_here v i = is_among i v.here

-- The lane of a pair: what was posted, what was taken, and the page that waits in the mailbox.
abbrev pub lane_of_logs : Log → Log → Option Bytes → Lane
lane_of_logs posted took waiting = record { sent = pages_of posted; received = pages_of took; mailbox = waiting }

-- The two lists of a pair show a lane of the exchange machine.
pub record ShowsLane (posted took : Log) : Type 0 where
  pub waiting : Option Bytes
  pub keeps_up : KeepsUp (lane_of_logs posted took waiting)

-- For each pair of which both workers' lists stand here, they do.
abbrev pub ShowsExchange : View → Type 0
ShowsExchange v = (k : ℕ) → k < pair_count v.count → is_here v (poster_of v.count k) ≡ true → is_here v (receiver_of v.count k) ≡ true
    → ShowsLane (of_pair k v.posted) (of_pair k v.took)

-- The main seat's view at the start: all workers' lists stand in it, and nothing was moved.
abbrev pub opening_view : ℕ → ℕ → View
opening_view w size = record {
  count = w;
  size = size;
  number = 0;
  here = workers_below w;
  posted = [];
  took = [];
  known = [];
  loads = 0;
  last = 0;
  holding = None;
  in_hand = [];
  is_spent = false;
}

-- Each load counts, and its value is kept.
abbrev pub looked : ℕ → View → View
looked found v = record v { loads = v.loads + 1; last = found }

-- The selecting load: the main seat notes the worker that it parts next.
abbrev pub chosen : ℕ → ℕ → View → View
chosen n found v = record v { number = n; loads = v.loads + 1; last = found }

-- Split: the new view has its number, the size, its worker's lists and what the main seat knows.
abbrev pub parted : ℕ → View → View
parted n v = record {
  count = v.count;
  size = v.size;
  number = n;
  here = n ∷ [];
  posted = filter (λ (m : Moved). poster_of v.count m.pair == n) v.posted;
  took = filter (λ (m : Moved). receiver_of v.count m.pair == n) v.took;
  known = v.known;
  loads = 0;
  last = 0;
  holding = None;
  in_hand = [];
  is_spent = false;
}

-- Split: the main seat marks the worker out, and its lists leave.
abbrev pub without : ℕ → View → View
without n v = record v {
  here = filter (λ (i : ℕ). not (i == n)) v.here;
  posted = filter (λ (m : Moved). not (poster_of v.count m.pair == n)) v.posted;
  took = filter (λ (m : Moved). not (receiver_of v.count m.pair == n)) v.took;
}

-- Join: the main seat keeps the other's lists and what it knew.
abbrev pub both_of : View → View → View
both_of v other = record v {
  here = v.here ++ other.here;
  posted = v.posted ++ other.posted;
  took = v.took ++ other.took;
  known = v.known ++ other.known;
}

-- Join: what is left of the view of a seat that was met.
abbrev pub spent_view : View
spent_view = record {
  count = 0;
  size = 0;
  number = 0;
  here = [];
  posted = [];
  took = [];
  known = [];
  loads = 0;
  last = 0;
  holding = None;
  in_hand = [];
  is_spent = true;
}

-- The meet's load: what was kept becomes known.
abbrev pub learned : View → View
learned v = record v { known = record { posted = v.posted; took = v.took } ∷ v.known }

-- A poster's or a receiver's load: the slot comes into its hand.
abbrev pub taking : ℕ → Bytes → View → View
taking k bytes v = record v { holding = Some k; in_hand = bytes }

-- A page was posted: it went into the slot of the pair, and the segment `out` came out.
abbrev pub with_posted : ℕ → SegmentView → ℕ → View → View
with_posted k page out v = record v {
  posted = v.posted ++ record { pair = k; bytes = page.bytes; went_in = page.id; came_out = out } ∷ [];
  holding = None;
  in_hand = [];
}

-- A page of these bytes was taken: the segment `into` went into the slot of the pair, and `out` came out.
abbrev pub with_taken : ℕ → Bytes → ℕ → ℕ → View → View
with_taken k bytes into out v = record v {
  took = v.took ++ record { pair = k; bytes = bytes; went_in = into; came_out = out } ∷ [];
  holding = None;
  in_hand = [];
}

-- The poster's store: what came out has the id that the word showed.
abbrev pub after_posting : ℕ → SegmentView → View → View
after_posting k page v = with_posted k page (v.last / 2) v

-- The receiver's store: so has the page, which is what it took out.
abbrev pub after_taking : ℕ → SegmentView → View → View
after_taking k spare v = with_taken k v.in_hand spare.id (v.last / 2) v
