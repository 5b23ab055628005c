use Rattle.std.proofs.Common.{◌≡◌, ℕ, ◌+◌, ◌||◌, true, length, All, vec_len}
use Rattle.segment_core.specs.Segments.{segment_sum}
use Rattle.post_table.specs.Seats.{MadeBy}
use Rattle.post_table.specs.Views.{is_among, is_here}
use Rattle.worked_post.specs.Swaps.{put_in, took_out}
use Rattle.worked_post.specs.Crowd.{IsAt, all_given, all_got, all_here}
use Rattle.worked_post.proofs.crossing.meet_all.Given as goal

abbrev pub invariant-members : goal.invariant-members
invariant-members g l = record {
  made : MadeBy l.post l.main;
  at : All (IsAt l.post) l.members.items;
  here : (i : ℕ) → is_among i (all_here l.fn.members.items) ≡ true → (is_here l.main.view i || is_among i (all_here l.members.items)) ≡ true;
  room : l.all.room ≡ l.fn.all.room;
  len : length l.all.pages + vec_len l.members ≡ length l.fn.all.pages + vec_len l.fn.members;
  given : (h : ℕ → ℕ → ℕ) (n : ℕ) → segment_sum h l.all.pages + put_in h n l.main.view + all_given h n l.members.items
      ≡ segment_sum h l.fn.all.pages + put_in h n l.fn.main.view + all_given h n l.fn.members.items;
  got : (h : ℕ → ℕ → ℕ) (n : ℕ) → took_out h n l.main.view + all_got h n l.members.items ≡ took_out h n l.fn.main.view + all_got h n l.fn.members.items;
}

abbrev pub decreases-members : goal.decreases-members
decreases-members g l = vec_len l.members
