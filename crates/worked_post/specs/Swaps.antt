-- What seats swap in and out, weighed as segments are.
use Rattle.std.specs.Prelude.{◌≡◌, ℕ, ◌+◌, [], ◌∷◌}
use Rattle.segment_core.specs.Segments.{SegmentView, segment_sum}
use Rattle.post_table.specs.Views.{weigh_in, weigh_out}
use Rattle.post_table.specs.declared.view.View.{View}

-- What went into slots, by the lists of a view, where segments have this size.
abbrev pub put_in : (ℕ → ℕ → ℕ) → ℕ → View → ℕ
put_in h size v = weigh_in (λ id. h id size) v.posted + weigh_in (λ id. h id size) v.took

-- What came out of them.
abbrev pub took_out : (ℕ → ℕ → ℕ) → ℕ → View → ℕ
took_out h size v = weigh_out (λ id. h id size) v.posted + weigh_out (λ id. h id size) v.took

-- The segment that was handed in and the one that came back differ by what the seat swapped.
abbrev pub Swaps : ℕ → View → View → SegmentView → SegmentView → Type 0
Swaps size old new into back = (h : ℕ → ℕ → ℕ) →
    segment_sum h (back ∷ []) + put_in h size new + took_out h size old ≡ segment_sum h (into ∷ []) + put_in h size old + took_out h size new

-- Nothing was posted by the workers of this view, and nothing taken.
pub record IsUnused (v : View) : Type 0 where
  pub posted : v.posted ≡ []
  pub took : v.took ≡ []
