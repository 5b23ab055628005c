-- Bytes hashed piece by piece.
use Rattle.std.proofs.Common.{◌≡◌, ℕ, ◌+◌, ◌-◌, ◌≤◌, List, length, take, drop, fold, refl, sym, ap, ◌∙◌}
use Rattle.std.proofs.lemmas.List.Sums.{fold-append}
use Rattle.flow_types.specs.Hash.{hash_more}
use Rattle.record_codec.proofs.DecodeLemmas.{copied_more}

-- one piece more
pub hashed_more : (hash so_far longer : ℕ) (seen piece : List ℕ) (start at count : ℕ) → start ≤ at → count ≤ length piece
    → piece ≡ take (length piece) (drop at seen) → so_far ≡ fold hash_more hash (take (at - start) (drop start seen))
    → longer ≡ fold hash_more so_far (take count piece)
    → longer ≡ fold hash_more hash (take (at + count - start) (drop start seen))
hashed_more hash so_far longer seen piece start at count began short is same more =
    let front : List ℕ = take (at - start) (drop start seen) in
    more
    ∙ ap (λ (h : ℕ). fold hash_more h (take count piece)) same
    ∙ sym (fold-append hash_more hash front (take count piece))
    ∙ ap (fold hash_more hash) (copied_more seen front _ piece start at count began short is refl refl)
