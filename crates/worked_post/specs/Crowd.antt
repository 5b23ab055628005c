-- The members of a crowd: where they stand, and what they swapped.
use Rattle.std.specs.Prelude.{◌≡◌, ℕ, ◌+◌, ◌<◌, List, [], ◌∷◌, ◌++◌, length, sum_by, All}
use Rattle.segment_core.specs.Segments.{SegmentView, segment_sum}
use Rattle.post_table.specs.Seats.{PostView, MadeBy}
use Rattle.worked_post.specs.Swaps.{put_in, took_out}
use Rattle.worked_post.specs.declared.crowd.Member.{Member}
use Rattle.worked_post.specs.declared.crowd.TheConstants.{WORKERS}

-- The member's seat is one of this post, for its own number, and the segment in its hand has the post's size.
pub record IsAt (post : PostView) (m : Member) : Type 0 where
  pub made : MadeBy post m.seat
  pub workers : post.workers ≡ WORKERS
  pub number : m.seat.view.number ≡ m.number
  pub near : m.number < WORKERS
  pub one : length m.hand.pages ≡ 1
  pub sized : All (λ (p : SegmentView). length p.bytes ≡ post.size) m.hand.pages

-- What the member has in its hand, with all that it put into slots.
abbrev pub weigh_given : (ℕ → ℕ → ℕ) → ℕ → Member → ℕ
weigh_given h size m = segment_sum h m.hand.pages + put_in h size m.seat.view

-- What it took out of them.
abbrev pub weigh_got : (ℕ → ℕ → ℕ) → ℕ → Member → ℕ
weigh_got h size m = took_out h size m.seat.view

-- The same member later: the same worker's lists are in its view, and its hand differs by what it swapped.
pub record IsLater (size : ℕ) (old new : Member) : Type 0 where
  pub number : new.number ≡ old.number
  pub here : new.seat.view.here ≡ old.seat.view.here
  pub swaps : (h : ℕ → ℕ → ℕ) → weigh_given h size new + weigh_got h size old ≡ weigh_given h size old + weigh_got h size new

-- The workers whose lists stand in the members' views.
abbrev pub all_here : List Member → List ℕ
all_here [] = []
all_here (m ∷ ms) = m.seat.view.here ++ all_here ms

-- The weights of all members.
abbrev pub all_given : (ℕ → ℕ → ℕ) → ℕ → List Member → ℕ
all_given h size ms = sum_by (weigh_given h size) ms

abbrev pub all_got : (ℕ → ℕ → ℕ) → ℕ → List Member → ℕ
all_got h size ms = sum_by (weigh_got h size) ms
