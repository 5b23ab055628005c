-- Bytes hashed after others, in two pieces.
use Rattle.std.proofs.Common.{◌≡◌, ℕ, List, ◌++◌, fold, sym, ap, ◌∙◌}
use Rattle.std.proofs.lemmas.List.Sums.{fold-append}
use Rattle.flow_types.specs.Hash.{hash_more}

-- two pieces, one after the other
pub two_pieces : (hash first last : ℕ) (front back a b : List ℕ) → front ≡ a → back ≡ b → first ≡ fold hash_more hash front → last ≡ fold hash_more first back → last ≡ fold hash_more hash (a ++ b)
two_pieces hash first last front back a b front_is back_is one two =
    two
    ∙ ap (fold hash_more first) back_is
    ∙ ap (λ h. fold hash_more h b) (one ∙ ap (fold hash_more hash) front_is)
    ∙ sym (fold-append hash_more hash a b)
