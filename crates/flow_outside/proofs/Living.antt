use Rattle.std.proofs.Common.{◌≡◌, ℕ, ◌+◌, ◌<◌, ◌≤◌, Option, Some, None, List, length, take, slice_index_or, slice_set, ap, ◌∙◌, sym, arith, cond}
use Rattle.std.proofs.Math.Seq.{take-length}
use Rattle.std.proofs.lemmas.List.{get_or-set_same, get_or-set_other}
use Rattle.std.proofs.lemmas.List.Sums.{sum_by-set}
use Rattle.std.specs.Option.{is_some}
use Rattle.flow_outside.specs.Readers.{Reading, Readers, OthersStand, Starts}
use Rattle.flow_outside.specs.Slots.{living_in}

-- Where each number is that of a living reader, as many live as there are numbers.
pub all_live : {X : Type 0} (slots : List (Option X)) (n : ℕ) → length slots ≤ n → n ≤ length slots → living_in (take n slots) ≡ n → living_in slots ≡ n
all_live slots n above below all =
    let same : n ≡ length slots = omega arith in
    ap living_in (sym (ap (λ k. take k slots) same ∙ take-length slots)) ∙ all

-- 1 for a living reader, and 0 for none.
abbrev pub lives_once : {X : Type 0} → Option X → ℕ
lives_once slot = cond (is_some slot) 1 0

-- A change at one number changes how many live by that number's reader alone.
pub living_changes : {X : Type 0} (slots : List (Option X)) (id : ℕ) (slot : Option X) → id < length slots
    → living_in (slice_set slots id slot) + lives_once (slice_index_or slots id None) ≡ living_in slots + lives_once slot
living_changes slots id slot within = sum_by-set lives_once slots id slot None within

-- The readers of these slots.
abbrev pub readers_by : {X : Type 0} → (Option X → Option Reading) → List (Option X) → Readers
readers_by reading slots = λ id. reading (slice_index_or slots id None)

-- A change at one number leaves the other readers.
pub others_stand : {X : Type 0} (reading : Option X → Option Reading) (slots changed : List (Option X)) (id : ℕ) (slot : Option X)
    → changed ≡ slice_set slots id slot
    → OthersStand (readers_by reading slots) (readers_by reading changed) id
others_stand reading slots changed id slot change =
    λ k apart. ap (λ now. reading (slice_index_or now k None)) change
    ∙ ap reading (get_or-set_other slots id k slot None apart)

-- The reader at a number that was changed.
pub reader_changed : {X : Type 0} (reading : Option X → Option Reading) (slots changed : List (Option X)) (id : ℕ) (slot : Option X)
    → id < length slots
    → changed ≡ slice_set slots id slot
    → readers_by reading changed id ≡ reading slot
reader_changed reading slots changed id slot within change =
    ap (λ now. reading (slice_index_or now id None)) change
    ∙ ap reading (get_or-set_same slots id slot None within)

-- A reader is started in a free slot.
pub starts : {X : Type 0} (reading : Option X → Option Reading) (slots started : List (Option X)) (id : ℕ) (slot : X) (name : List ℕ) (bytes : Option (List ℕ))
    → reading None ≡ None
    → reading (Some slot) ≡ Some (record { name = name; left = bytes })
    → id < length slots
    → slice_index_or slots id None ≡ None
    → started ≡ slice_set slots id (Some slot)
    → Starts (readers_by reading slots) (readers_by reading started) name bytes id × (living_in started ≡ living_in slots + 1)
starts reading slots started id slot name bytes none is within free change =
    let counted = living_changes slots id (Some slot) within in
    let freed : lives_once (slice_index_or slots id None) ≡ 0 = ap lives_once free in
    let same : living_in started ≡ living_in (slice_set slots id (Some slot)) = ap living_in change in (
      record {
        fresh = ap reading free ∙ none;
        lives = reader_changed reading slots started id (Some slot) within change ∙ is;
        others = others_stand reading slots started id (Some slot) change;
      },
      omega arith,
    )
