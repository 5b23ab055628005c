-- The rule of the table: what holds of its words, its slots and the seats' views between any two atomic steps.
use Rattle.std.specs.Prelude.{◌≡◌, ℕ, zero, suc, ◌+◌, ◌*◌, ◌/◌, ◌%◌, ◌<◌, ◌⊎◌, true, false, cond, List, [], ◌∷◌, ◌++◌, length, slice_index, All, Option, Some, None}
use mathlib.Core.Option.{none, some}
use mathlib.Core.Option as maybe
use lib.ListN.{get_elem?}
use Rattle.atomic_table.specs.Table.{State}
use Rattle.segment_core.specs.Segments.{SegmentView}
use Rattle.exchange_core.specs.Lane.{Bytes}
use Rattle.exchange_core.specs.Laws.{KeepsUp}
use Rattle.post_table.specs.Pairs.{pair_count, poster_of, receiver_of, turn}
use Rattle.post_table.specs.Views.{Log, of_pair, pages_of, weigh_in, weigh_out, is_here, lane_of_logs}
use Rattle.post_table.specs.declared.view.Moved.{Moved}
use Rattle.post_table.specs.declared.view.Meeting.{Meeting}
use Rattle.post_table.specs.declared.view.View.{View}

-- A slot of the state: at home with its segment, or out.
abbrev pub Slot : Type 0
Slot = maybe.Option (maybe.Option SegmentView)

-- A mailbox's word: twice the id of the segment in the slot, and one more where a page waits there.
abbrev pub word_of : ℕ → Option Bytes → ℕ
word_of id None = 2 * id
word_of id (Some page) = 2 * id + 1

-- The id that went in last, or the opening spare's where none did.
abbrev pub last_in : ℕ → Log → ℕ
last_in id [] = id
last_in id (m ∷ log) = last_in m.went_in log

-- The same of both lists of a pair: the poster's is the later one where a page waits.
abbrev pub entered : ℕ → Log → Log → Option Bytes → ℕ
entered spare posted took None = last_in spare took
entered spare posted took (Some page) = last_in spare posted

-- The segment holds the page that waits, where one does.
abbrev pub HoldsPage : Option Bytes → SegmentView → Type 0
HoldsPage None segment = Unit {0}
HoldsPage (Some page) segment = segment.bytes ≡ page

-- The slot is at home: it holds one segment of the table's size, with this id and the page that waits.
pub record IsHome (size id : ℕ) (waiting : Option Bytes) (slot : Slot) : Type 0 where
  pub segment : SegmentView
  pub there : slot ≡ some (some segment)
  pub same : segment.id ≡ id
  pub sized : length segment.bytes ≡ size
  pub page : HoldsPage waiting segment

-- The slot is out, in the hand of this seat.
pub record IsOut (views : List View) (seat k : ℕ) (slot : Slot) : Type 0 where
  pub away : slot ≡ some none
  pub view : View
  pub there : get_elem? views seat ≡ some view
  pub holds : view.holding ≡ Some k

-- One mailbox, with the lists of its pair. `seat` is the seat of the worker whose turn it is.
pub record IsMailbox (size spare word : ℕ) (posted took : Log) (views : List View) (seat k : ℕ) (slot : Slot) : Type 0 where
  pub id : ℕ
  pub waiting : Option Bytes
  -- the word says which segment the slot has, and whether a page waits
  pub shows : word ≡ word_of id waiting
  -- what was taken is what was posted, or that without the page that waits
  pub keeps_up : KeepsUp (lane_of_logs posted took waiting)
  -- that segment went in last
  pub in_last : id ≡ entered spare posted took waiting
  -- the slot is at home or with the worker whose turn it is
  pub lies : IsHome size id waiting slot ⊎ IsOut views seat k slot
  -- the slot's id and all that came out weigh what the opening spare and all that went in do
  pub weighs : (h : ℕ → ℕ) → h id + weigh_out h posted + weigh_out h took ≡ h spare + weigh_in h posted + weigh_in h took

-- f of each number below n, added up.
abbrev pub sum_below : ℕ → (ℕ → ℕ) → ℕ
sum_below zero f = 0
sum_below (suc n) f = f 0 + sum_below n (λ k. f (suc k))

-- A list begins with what is known of it.
pub record BeginsWith (known whole : Log) : Type 0 where
  pub rest : Log
  pub is : whole ≡ known ++ rest

-- What was known at a meeting is a prefix of each list.
pub record IsKnown (count : ℕ) (posted took : ℕ → Log) (meeting : Meeting) : Type 0 where
  pub of_posted : (k : ℕ) → k < count → BeginsWith (of_pair k meeting.posted) (posted k)
  pub of_took : (k : ℕ) → k < count → BeginsWith (of_pair k meeting.took) (took k)

-- The seat that holds a slot is that of the worker whose turn it is, the word is what it saw last, and
-- a page that it took is the one that waits.
pub record IsHolder (w : ℕ) (words : List ℕ) (posted took : ℕ → Log) (owner : ℕ → ℕ) (seat : ℕ) (v : View) (k : ℕ) : Type 0 where
  pub near : k < pair_count w
  pub saw : slice_index words k ≡ v.last
  pub whose : owner (turn w v.last k) ≡ seat
  pub page : v.last % 2 ≡ 1 → pages_of (posted k) ≡ pages_of (took k) ++ v.in_hand ∷ []

-- One seat and its view.
pub record IsSeated (w size : ℕ) (words : List ℕ) (posted took : ℕ → Log) (owner : ℕ → ℕ) (seat : ℕ) (v : View) : Type 0 where
  -- each worker's lists stand in one view
  pub owns : (i : ℕ) → is_here v i ≡ true → (i < w) × (owner i ≡ seat)
  -- the lists of its own workers, and nothing of any other
  pub posts : (k : ℕ) → k < pair_count w → of_pair k v.posted ≡ cond (is_here v (poster_of w k)) (posted k) []
  pub takes : (k : ℕ) → k < pair_count w → of_pair k v.took ≡ cond (is_here v (receiver_of w k)) (took k) []
  pub posts_pairs : All (λ (m : Moved). m.pair < pair_count w) v.posted
  pub takes_pairs : All (λ (m : Moved). m.pair < pair_count w) v.took
  pub knows : All (IsKnown (pair_count w) posted took) v.known
  -- the size stands in every view that isn't spent
  pub alike : v.is_spent ≡ false → (v.size ≡ size) × (v.count ≡ w)
  pub holder : (k : ℕ) → v.holding ≡ Some k → IsHolder w words posted took owner seat v k

-- The worker's lists stand in the view of its seat.
pub record HasSeat (views : List View) (owner : ℕ → ℕ) (i : ℕ) : Type 0 where
  pub view : View
  pub there : get_elem? views (owner i) ≡ some view
  pub here : is_here view i ≡ true

-- The whole rule. There is for each pair the list that its poster posted and the list that its receiver
-- took, and for each worker the seat in whose view its lists stand.
pub record IsPostTable (w size : ℕ) (opened : List ℕ) (s : State SegmentView View) : Type 0 where
  pub posted : ℕ → Log
  pub took : ℕ → Log
  pub owner : ℕ → ℕ
  pub wide : length s.words ≡ pair_count w
  pub long : length s.homes ≡ pair_count w
  pub each_pair : (k : ℕ) → k < pair_count w → IsMailbox size (slice_index opened k / 2) (slice_index s.words k) (posted k) (took k)
      s.views (owner (turn w (slice_index s.words k) k)) k (get_elem? s.homes k)
  pub each_seat : (seat : ℕ) (v : View) → get_elem? s.views seat ≡ some v → IsSeated w size s.words posted took owner seat v
  pub each_worker : (i : ℕ) → i < w → HasSeat s.views owner i

-- What all slots weigh with all that came out of them, by the weights of ids, and what the opening spares
-- weigh with all that went in.
abbrev pub slots_and_out : (w size : ℕ) (opened : List ℕ) (s : State SegmentView View) → IsPostTable w size opened s → (ℕ → ℕ) → ℕ
slots_and_out w size opened s r h =
    sum_below (pair_count w) (λ k. h (slice_index s.words k / 2) + weigh_out h (r.posted k) + weigh_out h (r.took k))

abbrev pub spares_and_in : (w size : ℕ) (opened : List ℕ) (s : State SegmentView View) → IsPostTable w size opened s → (ℕ → ℕ) → ℕ
spares_and_in w size opened s r h =
    sum_below (pair_count w) (λ k. h (slice_index opened k / 2) + weigh_in h (r.posted k) + weigh_in h (r.took k))
