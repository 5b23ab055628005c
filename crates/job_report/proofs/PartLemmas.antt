-- The parts of a text, written one after another.
use Rattle.std.proofs.Common.{◌≡◌, ℕ, ◌+◌, ◌<◌, List, [], ◌∷◌, ◌++◌, length, take, drop, get_or, map, refl, sym, ap, ◌∙◌, arith, append_assoc, append-nil, Bor, Option, Result, Ok, Err, OnErr}
use Rattle.std.specs.List.{concat}
use Rattle.std.proofs.Math.Seq.{take-append-add}
use Rattle.std.proofs.lemmas.List.{take_more, take-append-le, take-append-drop, length-append}
use Rattle.flow_outside.specs.Told.{with_text, Appends, AppendsProperPrefix}
use Rattle.flow_outside.proofs.Told.{appends_more}

-- the text of parts
abbrev pub joined : List (Bor (List ℕ)) → List ℕ
joined parts = concat (map (λ (p : Bor (List ℕ)). p.now) parts)

joined-append : (ps qs : List (Bor (List ℕ))) → joined (ps ++ qs) ≡ joined ps ++ joined qs
joined-append [] qs = refl
joined-append (p ∷ ps) qs = ap (λ l. p.now ++ l) (joined-append ps qs) ∙ sym (append_assoc p.now (joined ps) (joined qs))

-- one part more
pub joined_more : (ps : List (Bor (List ℕ))) (i : ℕ) (d : Bor (List ℕ)) → i < length ps → joined (take (i + 1) ps) ≡ joined (take i ps) ++ (get_or ps i d).now
joined_more ps i d within =
    ap joined (take_more ps i d within) ∙ joined-append (take i ps) (get_or ps i d ∷ []) ∙ ap (λ l. joined (take i ps) ++ l) (append-nil (get_or ps i d).now)

-- all parts, round one of them
joined_around : (ps : List (Bor (List ℕ))) (i : ℕ) (d : Bor (List ℕ)) → i < length ps → joined ps ≡ joined (take i ps) ++ ((get_or ps i d).now ++ joined (drop (i + 1) ps))
joined_around ps i d within =
    sym (ap joined (take-append-drop (i + 1) ps)) ∙ joined-append (take (i + 1) ps) (drop (i + 1) ps)
    ∙ ap (λ l. l ++ joined (drop (i + 1) ps)) (joined_more ps i d within)
    ∙ append_assoc (joined (take i ps)) (get_or ps i d).now (joined (drop (i + 1) ps))

-- a front was taken, and then not all of the piece behind it
breaks_in_piece : (front piece back all : List ℕ) (old middle new : Option (List ℕ)) → all ≡ front ++ (piece ++ back) → Appends old middle front → AppendsProperPrefix middle new piece → AppendsProperPrefix old new all
breaks_in_piece front piece back all old middle new is first part =
    let cut : take (length front + part.count) all ≡ front ++ take part.count piece =
    ap (take (length front + part.count)) is
    ∙ take-append-add front (piece ++ back) part.count
    ∙ ap (λ l. front ++ l) (take-append-le part.count piece back (omega (arith, part.proper))) in
    let below : length front + part.count < length all =
    omega (arith, ap length is, length-append front (piece ++ back), length-append piece back, part.proper) in
    record {
      count = length front + part.count;
      proper = below;
      appended = part.appended
          ∙ ap (λ told. with_text told (take part.count piece)) first
          ∙ appends_more old front (take part.count piece)
          ∙ ap (with_text old) (sym cut);
    }

-- the parts before one were taken, and then not all of that one
pub parts_broken : (ps : List (Bor (List ℕ))) (i : ℕ) (d : Bor (List ℕ)) → i < length ps → (old middle new : Option (List ℕ)) → Appends old middle (joined (take i ps)) → AppendsProperPrefix middle new (get_or ps i d).now → AppendsProperPrefix old new (joined ps)
parts_broken ps i d within old middle new first part =
    breaks_in_piece (joined (take i ps)) (get_or ps i d).now (joined (drop (i + 1) ps)) (joined ps) old middle new (joined_around ps i d within) first part

-- the parts before one were taken, and then that one
pub parts_taken : (ps : List (Bor (List ℕ))) (i : ℕ) (d : Bor (List ℕ)) → i < length ps → (old middle new : Option (List ℕ)) → Appends old middle (joined (take i ps)) → Appends middle new (get_or ps i d).now → Appends old new (joined (take (i + 1) ps))
parts_taken ps i d within old middle new first next =
    next
    ∙ ap (λ told. with_text told (get_or ps i d).now) first
    ∙ appends_more old (joined (take i ps)) (get_or ps i d).now
    ∙ ap (with_text old) (sym (joined_more ps i d within))

-- what holds anyway holds at an error
pub on_err : {T F : Type 0} (r : Result T F) (P : Type 0) → P → OnErr r P
on_err (Ok x) P p = tt
on_err (Err e) P p = p
