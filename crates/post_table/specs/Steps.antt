-- What each kind of step tells of the seat before, the word that was found and the seat after.
use Rattle.std.specs.Prelude.{◌≡◌, ℕ, ◌/◌, ◌%◌, ◌<◌, ◌≤◌, false, [], ◌∷◌, length, All, None}
use Rattle.atomic_table.specs.Table.{Me, Step}
use Rattle.segment_core.specs.Segments.{SegmentView}
use Rattle.post_table.specs.Views.{of_pair, looked, chosen, learned, taking, after_posting, after_taking, ShowsExchange}
use Rattle.post_table.specs.declared.view.Meeting.{Meeting}
use Rattle.post_table.specs.declared.view.View.{View}

abbrev pub Seated : Type 0
Seated = Me SegmentView View

-- The seat can step: no slot is in its hand, and it wasn't met.
pub record IsIdle (me : Seated) : Type 0 where
  pub hand : me.1 ≡ []
  pub holds : me.0.holding ≡ None
  pub live : me.0.is_spent ≡ false

-- The seat stays whose it was, with the same workers' lists, and can step again.
pub record StaysSeat (before after : Seated) : Type 0 where
  pub count : after.0.count ≡ before.0.count
  pub size : after.0.size ≡ before.0.size
  pub number : after.0.number ≡ before.0.number
  pub here : after.0.here ≡ before.0.here
  pub idle : IsIdle after

-- The slot of the pair came into the seat's hand: the segment has the id and the size that the seat knew.
pub record TakesOut (k found : ℕ) (v : View) (after : Seated) : Type 0 where
  pub segment : SegmentView
  pub view : after.0 ≡ taking k segment.bytes (looked found v)
  pub hand : after.1 ≡ (k, segment) ∷ []
  pub same : segment.id ≡ found / 2
  pub sized : length segment.bytes ≡ v.size

-- No meeting knew that all that the seat posted to this pair was received.
abbrev pub IsUnreceived : ℕ → View → Type 0
IsUnreceived k v = All (λ (m : Meeting). length (of_pair k m.took) < length (of_pair k v.posted)) v.known

-- No meeting knew of a page of this pair that the seat hasn't taken.
abbrev pub HasTakenKnown : ℕ → View → Type 0
HasTakenKnown k v = All (λ (m : Meeting). length (of_pair k m.posted) ≤ length (of_pair k v.took)) v.known

-- The poster's load.
pub record LooksToPost (k found : ℕ) (before after : Seated) : Type 0 where
  pub empty : found % 2 ≡ 0 → TakesOut k found before.0 after
  pub full : found % 2 ≡ 1 → (after ≡ (looked found before.0, [])) × IsUnreceived k before.0

-- The receiver's load.
pub record LooksToTake (k found : ℕ) (before after : Seated) : Type 0 where
  pub full : found % 2 ≡ 1 → TakesOut k found before.0 after
  pub empty : found % 2 ≡ 0 → (after ≡ (looked found before.0, [])) × HasTakenKnown k before.0

abbrev pub looks_to_post : Step SegmentView → Seated → ℕ → Seated → Type 0
looks_to_post step before found after = LooksToPost step.word found before after

abbrev pub looks_to_take : Step SegmentView → Seated → ℕ → Seated → Type 0
looks_to_take step before found after = LooksToTake step.word found before after

-- The poster's store, of the page in its hand.
abbrev pub posts : Step SegmentView → Seated → ℕ → Seated → Type 0
posts step before stored after = (page : SegmentView) → before.1 ≡ (step.word, page) ∷ [] → after ≡ (after_posting step.word page before.0, [])

-- The receiver's store, of the spare in its hand.
abbrev pub gets : Step SegmentView → Seated → ℕ → Seated → Type 0
gets step before stored after = (spare : SegmentView) → before.1 ≡ (step.word, spare) ∷ [] → after ≡ (after_taking step.word spare before.0, [])

-- The selecting load.
abbrev pub chooses : Step SegmentView → Seated → ℕ → Seated → Type 0
chooses step before found after = after ≡ (chosen step.word found before.0, before.1)

-- The meet's load, which shows the exchange as far as the main seat has its lists.
abbrev pub learns : Step SegmentView → Seated → ℕ → Seated → Type 0
learns step before found after = (after ≡ (learned (looked found before.0), before.1)) × ShowsExchange after.0
