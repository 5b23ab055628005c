use Rattle.std.proofs.Common.{◌≡◌, ℕ, ◌+◌, length, All}
use Rattle.segment_core.specs.Segments.{segment_sum}
use Rattle.worked_post.proofs.crossing.move_some.Given as goal

abbrev pub invariant-loop : goal.invariant-loop
invariant-loop g l = record {
  from_len : length l.from.pages + l.counter ≡ length l.fn.from.pages;
  to_len : length l.to.pages ≡ length l.fn.to.pages + l.counter;
  rooms : (l.from.room ≡ l.fn.from.room) × (l.to.room ≡ l.fn.to.room);
  sized : (n : ℕ) → All (λ p. length p.bytes ≡ n) l.fn.from.pages → All (λ p. length p.bytes ≡ n) l.fn.to.pages
      → All (λ p. length p.bytes ≡ n) l.from.pages × All (λ p. length p.bytes ≡ n) l.to.pages;
  segments : (h : ℕ → ℕ → ℕ) → segment_sum h l.from.pages + segment_sum h l.to.pages ≡ segment_sum h l.fn.from.pages + segment_sum h l.fn.to.pages;
}
