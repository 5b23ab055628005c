use Rattle.std.proofs.Common.{◌≡◌, ℕ, ◌+◌, ◌-◌, List, [], ◌++◌, length, take, drop, Option, Some, None, refl, sym, ap, ◌∙◌, append_assoc, append-nil}
use Rattle.std.proofs.lemmas.List.{length-drop}
use Rattle.std.proofs.Math.Seq.{take-add, take-length}
use Rattle.flow_outside.specs.Told.{with_text, Appends}

-- Nothing was added.
pub appends_nothing : (told : Option (List ℕ)) → Appends told told []
appends_nothing None = refl
appends_nothing (Some bytes) = ap Some (sym (append-nil bytes))

-- One text was added, and then another.
pub appends_more : (told : Option (List ℕ)) (front back : List ℕ) → with_text (with_text told front) back ≡ with_text told (front ++ back)
appends_more None front back = refl
appends_more (Some bytes) front back = ap Some (append_assoc bytes front back)

-- What stands from `at` to a text's end is the text without its first `at` bytes.
pub range_to_end : (text : List ℕ) (at : ℕ) → take (length text - at) (drop at text) ≡ drop at text
range_to_end text at =
    ap (λ n. take n (drop at text)) (sym (length-drop at text)) ∙ take-length (drop at text)

-- The first `at` bytes of a text were added, and then the first `count` of those that are left.
pub appends_piece : (old middle new : Option (List ℕ)) (text : List ℕ) (at count : ℕ)
    → Appends old middle (take at text)
    → Appends middle new (take count (take (length text - at) (drop at text)))
    → Appends old new (take (at + count) text)
appends_piece old middle new text at count first next =
    next ∙ ap (λ rest. with_text middle (take count rest)) (range_to_end text at)
    ∙ ap (λ told. with_text told (take count (drop at text))) first
    ∙ appends_more old (take at text) (take count (drop at text))
    ∙ ap (with_text old) (sym (take-add at count text))
