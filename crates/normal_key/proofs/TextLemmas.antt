-- Texts written byte by byte.
use Rattle.std.proofs.Common.{◌≡◌, ℕ, zero, suc, ◌+◌, ◌-◌, ◌<◌, ◌≤◌, ◌⊎◌, inl, inr, Bool, List, [], ◌∷◌, ◌++◌, length, map, take, drop, slice_index, refl, sym, ◌∙◌, ap, arith, length-drop}
use Rattle.std.specs.List.{flat_map}
use Rattle.std.proofs.lemmas.List.{take-append-drop, get_or-drop}
use Rattle.std.proofs.lemmas.List.Concat.{flat_map-append}
use Rattle.normal_key.specs.NormalForms.{Adds, escaped, turned}
use Rattle.normal_key.proofs.WrittenLemmas.{adds_more, adds_full, map_append, forms_more}

-- one byte more of a text was written
pub text_more : (down : Bool) (seen old now new : List ℕ) (start at end b : ℕ) → start ≤ at → at < end → end ≤ length seen
    → b ≡ slice_index seen at
    → Adds old now (map (turned down) (flat_map escaped (take (at - start) (drop start seen))))
    → Adds now new (map (turned down) (escaped b))
    → Adds old new (map (turned down) (flat_map escaped (take (at + 1 - start) (drop start seen))))
text_more down seen old now new start at end b order low inside read before written =
    let k : ℕ = at - start in
    let rest : List ℕ = drop start seen in
    let place : start + k ≡ at = omega arith in
    let next : k + 1 ≡ at + 1 - start = omega arith in
    let short : k < length rest = omega (arith, length-drop start seen) in
    let front : List ℕ = flat_map escaped (take k rest) in
    let here : slice_index rest k ≡ b = get_or-drop start seen k 0 ∙ ap (slice_index seen) place ∙ sym read in
    let more : flat_map escaped (take (k + 1) rest) ≡ front ++ escaped b =
    forms_more escaped rest k 0 short ∙ ap (λ (x : ℕ). front ++ escaped x) here in
    adds_more old now new (map (turned down) front) (map (turned down) (escaped b)) before written
    ∙ ap (λ (bs : List ℕ). take 16 (old ++ bs))
    (sym (map_append (turned down) front (escaped b)) ∙ ap (map (turned down)) (sym more)
    ∙ ap (λ (n : ℕ). map (turned down) (flat_map escaped (take n rest))) next)

-- the end of a text was written behind all of its bytes, or behind 16 bytes
pub text_done : (down : Bool) (old now new text : List ℕ) (k : ℕ) → (length text ≤ k) ⊎ (16 ≤ length now)
    → Adds old now (map (turned down) (flat_map escaped (take k text)))
    → Adds now new (map (turned down) (0 ∷ 0 ∷ []))
    → Adds old new (map (turned down) (flat_map escaped text ++ 0 ∷ 0 ∷ []))
text_done down old now new text k (inl all) before written =
    adds_more old now new (map (turned down) (flat_map escaped text)) (map (turned down) (0 ∷ 0 ∷ []))
    (before ∙ ap (λ (s : List ℕ). take 16 (old ++ map (turned down) (flat_map escaped s))) (take_all k text all)) written
    ∙ ap (λ (bs : List ℕ). take 16 (old ++ bs)) (sym (map_append (turned down) (flat_map escaped text) (0 ∷ 0 ∷ [])))
  where
    take_all : (n : ℕ) (xs : List ℕ) → length xs ≤ n → take n xs ≡ xs
    take_all zero [] low = refl
    take_all zero (x ∷ xs) low = absurd (omega arith)
    take_all (suc n) [] low = refl
    take_all (suc n) (x ∷ xs) low = ap (λ (ys : List ℕ). x ∷ ys) (take_all n xs (omega arith))
text_done down old now new text k (inr full) before written =
    let some : List ℕ = flat_map escaped (take k text) in
    let left : List ℕ = flat_map escaped (drop k text) in
    let all : some ++ left ≡ flat_map escaped text =
    sym (flat_map-append escaped (take k text) (drop k text)) ∙ ap (flat_map escaped) (take-append-drop k text) in
    let end : List ℕ = map (turned down) (0 ∷ 0 ∷ []) in
    let passed : Adds old now (map (turned down) (flat_map escaped text)) =
    adds_more old now now (map (turned down) some) (map (turned down) left) before (adds_full now (map (turned down) left) full)
    ∙ ap (λ (bs : List ℕ). take 16 (old ++ bs)) (sym (map_append (turned down) some left) ∙ ap (map (turned down)) all) in
    adds_more old now new (map (turned down) (flat_map escaped text)) end passed written
    ∙ ap (λ (bs : List ℕ). take 16 (old ++ bs)) (sym (map_append (turned down) (flat_map escaped text) (0 ∷ 0 ∷ [])))
