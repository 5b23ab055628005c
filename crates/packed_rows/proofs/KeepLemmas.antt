-- Steps of keeping some of packed rows.
use Rattle.std.proofs.Common.{◌≡◌, ℕ, ◌+◌, ◌-◌, ◌<◌, ◌≤◌, Bool, true, false, if◌then◌else◌, List, [], ◌∷◌, ◌++◌, length, take, drop, filter, refl, sym, ◌∙◌, ap, subst, arith, append_assoc, append-nil, length-drop}
use Rattle.std.proofs.lemmas.List.{drop-drop}
use Rattle.flow_outside.proofs.Told.{range_to_end}
use Rattle.flow_types.specs.Types.{Fields}
use Rattle.flow_types.specs.Tuples.{Tuple}
use Rattle.flow_types.specs.Records.{form, framed, tuple_of}
use Rattle.packed_rows.specs.Packed.{first_len, first_record, behind_first, rows_in, IsPacked}
use Rattle.packed_rows.proofs.PackedLemmas.{Holds, HasFirst, has_first, holds_more}

-- The rows before a place were kept or not, those that were stand at the front, and those behind the place are left.
pub record Kept (fields : Fields) (p : Tuple → Bool) (all now : List ℕ) (kept at : ℕ) : Type 0 where
  pub lower : kept ≤ at
  pub inside : at ≤ length now
  pub long : length now ≡ length all
  pub front : IsPacked fields (take kept now)
  pub rest : IsPacked fields (drop at now)
  pub same : rows_in fields (take kept now) ++ filter p (rows_in fields (drop at now)) ≡ filter p (rows_in fields all)

-- one row more
pub kept_more : (fields : Fields) (p : Tuple → Bool) (all now new : List ℕ) (kept at after end : ℕ) (keep : Bool)
    → Kept fields p all now kept at → at < length now → end ≡ at + (4 + first_len (drop at now))
    → keep ≡ p (tuple_of fields (first_record (drop at now)))
    → take after new ≡ take kept now ++ (if keep then take (end - at) (drop at now) else [])
    → drop end new ≡ drop end now → after ≤ end → length new ≡ length now
    → Kept fields p all new after end
kept_more fields p all now new kept at after end keep before some place test front rest lower long =
    let left : List ℕ = drop at now in
    let first : HasFirst fields left = has_first fields left before.rest (omega (arith, length-drop at now)) in
    let t : Tuple = tuple_of fields (first_record left) in
    let done : List Tuple = rows_in fields (take kept now) in
    let others : List Tuple = rows_in fields (behind_first left) in
    let moved : drop end new ≡ behind_first left =
    rest ∙ ap (λ (n : ℕ). drop n now) place ∙ sym (drop-drop (4 + first_len left) at now) in
    let piece : take (end - at) left ≡ framed (form t) =
    ap (λ (n : ℕ). take n left) (let e : end - at ≡ 4 + first_len left = omega arith in e) ∙ first.formed in
    let held : Holds fields (done ++ (if keep then t ∷ [] else [])) (take after new) =
    subst (λ (bytes : List ℕ). Holds fields (done ++ (if keep then t ∷ [] else [])) bytes) (sym front) (hold keep piece) in
    record {
      lower = lower;
      inside = omega (arith, first.inside, length-drop at now);
      long = long ∙ before.long;
      front = held.packed;
      rest = subst (λ (bytes : List ℕ). IsPacked fields bytes) (sym moved) first.behind;
      same = ap (λ (xs : List Tuple). xs ++ filter p (rows_in fields (drop end new))) held.read
          ∙ ap (λ (bytes : List ℕ). (done ++ (if keep then t ∷ [] else [])) ++ filter p (rows_in fields bytes)) moved
          ∙ append_assoc done (if keep then t ∷ [] else []) (filter p others)
          ∙ ap (λ (xs : List Tuple). done ++ xs) (sort keep test)
          ∙ ap (λ (xs : List Tuple). done ++ filter p xs) (sym first.rows)
          ∙ before.same;
    }
  where
    hold : (b : Bool) → take (end - at) (drop at now) ≡ framed (form (tuple_of fields (first_record (drop at now))))
        → Holds fields (rows_in fields (take kept now) ++ (if b then tuple_of fields (first_record (drop at now)) ∷ [] else []))
        (take kept now ++ (if b then take (end - at) (drop at now) else []))
    hold true same =
        let first : HasFirst fields (drop at now) = has_first fields (drop at now) before.rest (omega (arith, length-drop at now)) in
        let t : Tuple = tuple_of fields (first_record (drop at now)) in
        subst (λ (bytes : List ℕ). Holds fields (rows_in fields (take kept now) ++ t ∷ []) (take kept now ++ bytes)) (sym same)
        (holds_more fields t (take kept now) before.front first.row)
    hold false same =
        subst (λ (bytes : List ℕ). Holds fields (rows_in fields (take kept now) ++ []) bytes) (sym (append-nil (take kept now)))
        (record { packed = before.front; read = sym (append-nil (rows_in fields (take kept now))) })

    sort : (b : Bool) → b ≡ p (tuple_of fields (first_record (drop at now)))
        → (if b then tuple_of fields (first_record (drop at now)) ∷ [] else []) ++ filter p (rows_in fields (behind_first (drop at now)))
        ≡ filter p (tuple_of fields (first_record (drop at now)) ∷ rows_in fields (behind_first (drop at now)))
    sort true e = rw (sym e) refl
    sort false e = rw (sym e) refl

-- the first row of those that are left
pub first_left : (fields : Fields) (p : Tuple → Bool) (all now : List ℕ) (kept at n : ℕ) → Kept fields p all now kept at → n ≡ length now → at < n
    → HasFirst fields (take (length now - at) (drop at now))
first_left fields p all now kept at n before count some =
    subst (λ (bytes : List ℕ). HasFirst fields bytes) (sym (range_to_end now at))
    (has_first fields (drop at now) before.rest (omega (arith, length-drop at now)))

-- one row more of those that are left, by what was read of it
pub kept_step : (fields : Fields) (p : Tuple → Bool) (all now new rec behind : List ℕ) (kept at after end n : ℕ) (keep : Bool)
    → Kept fields p all now kept at → n ≡ length now → at < n
    → rec ≡ first_record (take (length now - at) (drop at now)) → behind ≡ behind_first (take (length now - at) (drop at now))
    → end ≡ length now - length behind → keep ≡ p (tuple_of fields rec)
    → take after new ≡ take kept now ++ (if keep then take (end - at) (drop at now) else [])
    → drop end new ≡ drop end now → after ≤ end → length new ≡ length now
    → Kept fields p all new after end
kept_step fields p all now new rec behind kept at after end n keep before count some read left place test front rest lower long =
    let whole : take (length now - at) (drop at now) ≡ drop at now = range_to_end now at in
    let first : HasFirst fields (drop at now) = has_first fields (drop at now) before.rest (omega (arith, length-drop at now)) in
    let after_first : behind ≡ behind_first (drop at now) = left ∙ ap behind_first whole in
    kept_more fields p all now new kept at after end keep before (omega arith)
    (omega (arith, ap length after_first, length-drop (4 + first_len (drop at now)) (drop at now), length-drop at now, first.inside))
    (test ∙ ap (λ (bytes : List ℕ). p (tuple_of fields bytes)) (read ∙ ap first_record whole)) front rest lower long
