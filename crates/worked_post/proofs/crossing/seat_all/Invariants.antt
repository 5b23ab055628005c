use Rattle.std.proofs.Common.{◌≡◌, ℕ, ◌+◌, ◌≤◌, ◌++◌, length, All, vec_len, vec_capacity}
use Rattle.segment_core.specs.Segments.{segment_sum}
use Rattle.post_table.specs.Pairs.{workers_below}
use Rattle.post_table.specs.Seats.{MadeBy}
use Rattle.worked_post.specs.Swaps.{IsUnused}
use Rattle.worked_post.specs.Crowd.{IsAt, all_given, all_got, all_here}
use Rattle.worked_post.specs.declared.crowd.TheConstants.{WORKERS}
use Rattle.worked_post.proofs.crossing.seat_all.Given as goal

abbrev pub invariant-workers : goal.invariant-workers
invariant-workers g l = record {
  made : MadeBy l.post l.main;
  left : l.left ≤ WORKERS;
  here : l.main.view.here ≡ workers_below l.left;
  members_here : all_here l.members.items ++ workers_below l.left ≡ workers_below WORKERS;
  unused : IsUnused l.main.view;
  sized : All (λ p. length p.bytes ≡ l.post.size) l.all.pages;
  at : All (IsAt l.post) l.members.items;
  count : vec_len l.members + l.left ≡ WORKERS;
  capacity : vec_capacity l.members ≡ vec_capacity l.fn.members;
  room : l.all.room ≡ l.fn.all.room;
  len : length l.all.pages + vec_len l.members ≡ length l.fn.all.pages;
  got : (h : ℕ → ℕ → ℕ) (n : ℕ) → all_got h n l.members.items ≡ 0;
  given : (h : ℕ → ℕ → ℕ) (n : ℕ) → segment_sum h l.all.pages + all_given h n l.members.items ≡ segment_sum h l.fn.all.pages;
}

abbrev pub decreases-workers : goal.decreases-workers
decreases-workers g l = l.left
