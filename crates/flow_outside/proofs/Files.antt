use Rattle.std.proofs.Common.{◌≡◌, inl, inr, ℕ, ◌+◌, ◌<◌, List, [], ◌++◌, length, take, drop, Option, Some, None, option_map, refl, sym, ap, subst, ◌∙◌, append_assoc, append-nil, length-append, arith}
use Rattle.std.proofs.lemmas.Bool.Decides.{eqb_tells}
use Rattle.std.proofs.lemmas.List.{take-append-drop}
use Rattle.std.proofs.Math.Seq.{take-append_seam}
use Rattle.flow_outside.specs.Told.{IfTold}
use Rattle.flow_outside.specs.Readers.{Readers, OthersStand, Starts, GivesNext, GoesOn, left_of, behind}
use Rattle.std.specs.Prelude.{IsSomeAnd}
use Rattle.flow_outside.specs.Files.{Files, bytes_of, IsAbsent, IfFileTold, LeavesAtMostOne}

of_there : (bytes : Option (List ℕ)) (p : List ℕ → Type 0) → (bytes ≡ None → ⊥) → IfTold bytes p → IsSomeAnd bytes p
of_there None p there claim = absurd (there refl)
of_there (Some bytes) p there claim = claim

-- What is claimed of the bytes of a file that is there.
pub file_told : (files : Option Files) (name : List ℕ) (p : List ℕ → Type 0) → (IsAbsent files name → ⊥) → IfTold (bytes_of files name) p → IfFileTold files name p
file_told None name p there claim = tt
file_told (Some files) name p there claim = of_there (files name) p there claim

-- The bytes that were given and those that are left are the file's.
abbrev pub Splits : (told left : Option (List ℕ)) → (bytes : List ℕ) → Type 0
Splits told left bytes =
    IfTold told (λ all. (rest : List ℕ) × (left ≡ Some rest) × (all ≡ bytes ++ rest))

-- In the middle of a file: reader `id`, which was started for it, has given `bytes`.
pub record Midway (told : Option (List ℕ)) (old new : Readers) (living_old living_new id : ℕ) (name bytes : List ℕ) : Type 0 where
  pub left : Option (List ℕ)
  pub fresh : old id ≡ None
  pub lives : new id ≡ Some (record { name = name; left = left })
  pub others : OthersStand old new id
  pub one_more : living_new ≡ living_old + 1
  pub split : Splits told left bytes

pub splits_start : (told : Option (List ℕ)) → Splits told told []
splits_start None = tt
splits_start (Some all) = (all, refl, refl)

pub midway_start : (told : Option (List ℕ)) (old new : Readers) (living_old living_new id : ℕ) (name bytes : List ℕ)
    → Starts old new name told id → living_new ≡ living_old + 1
    → bytes ≡ []
    → Midway told old new living_old living_new id name bytes
midway_start told old new living_old living_new id name bytes started more none = record {
  left = told;
  fresh = started.fresh;
  lives = started.lives;
  others = started.others;
  one_more = more;
  split = subst (Splits told told) (sym none) (splits_start told);
}

splits_more : (told left : Option (List ℕ)) (bytes into : List ℕ) (count : ℕ)
    → Splits told left bytes → IfTold left (λ rest. GivesNext rest into count)
    → Splits told (option_map (drop count) left) (bytes ++ take count into)
splits_more None left bytes into count split given = tt
splits_more (Some all) left bytes into count split given =
    let next : GivesNext split.0 into count =
    subst (λ (told : Option (List ℕ)). IfTold told (λ rest. GivesNext rest into count)) split.1 given in (
      drop count split.0,
      ap (option_map (drop count)) split.1,
      split.2
          ∙ ap (λ rest. bytes ++ rest) (sym (take-append-drop count split.0))
          ∙ ap (λ piece. bytes ++ (piece ++ drop count split.0)) (sym next.bytes)
          ∙ sym (append_assoc bytes (take count into) (drop count split.0)),
    )

pub midway_more : (told : Option (List ℕ)) (old new newer : Readers) (living_old living_new living_newer id : ℕ) (name bytes into more : List ℕ) (count : ℕ)
    → Midway told old new living_old living_new id name bytes
    → OthersStand new newer id
    → IfTold (left_of (new id)) (λ rest. GivesNext rest into count)
    → GoesOn (new id) (newer id) living_new living_newer count
    → 0 < count
    → more ≡ bytes ++ take count into
    → Midway told old newer living_old living_newer id name more
midway_more told old new newer living_old living_new living_newer id name bytes into more count midway others given on some grown =
    let on_lives = on.lives some in
    record {
      left = option_map (drop count) midway.left;
      fresh = midway.fresh;
      lives = on_lives.0 ∙ ap (λ reader. behind reader count) midway.lives;
      others = λ k apart. others k apart ∙ midway.others k apart;
      one_more = on_lives.1 ∙ midway.one_more;
      split = subst (Splits told (option_map (drop count) midway.left)) (sym grown) (splits_more told midway.left bytes into count midway.split
          (subst (λ reader. IfTold (left_of reader) (λ rest. GivesNext rest into count)) midway.lives given));
    }

whole_told : (told left : Option (List ℕ)) (bytes into : List ℕ)
    → Splits told left bytes → IfTold left (λ rest. GivesNext rest into 0)
    → IfTold told (λ all. bytes ≡ all)
whole_told None left bytes into split given = tt
whole_told (Some all) left bytes into split given =
    let next : GivesNext split.0 into 0 =
    subst (λ (told : Option (List ℕ)). IfTold told (λ rest. GivesNext rest into 0)) split.1 given in
    sym (split.2 ∙ ap (λ rest. bytes ++ rest) (next.end.0 refl) ∙ append-nil bytes)

-- Where the answer is 0, all of the file's bytes were given.
pub midway_whole : (told : Option (List ℕ)) (old new : Readers) (living_old living_new id : ℕ) (name bytes into : List ℕ) (count : ℕ)
    → Midway told old new living_old living_new id name bytes
    → IfTold (left_of (new id)) (λ rest. GivesNext rest into count)
    → count ≡ 0
    → IfTold told (λ all. bytes ≡ all)
midway_whole told old new living_old living_new id name bytes into count midway given zero =
    let here = subst (λ reader. IfTold (left_of reader) (λ rest. GivesNext rest into count)) midway.lives given in
    whole_told told midway.left bytes into midway.split
    (subst (λ (n : ℕ). IfTold midway.left (λ rest. GivesNext rest into n)) zero here)

-- Where the answer is 0, the readers are as they were before the file was opened.
pub midway_ended : (told : Option (List ℕ)) (old new newer : Readers) (living_old living_new living_newer id : ℕ) (name bytes : List ℕ) (count : ℕ)
    → Midway told old new living_old living_new id name bytes
    → OthersStand new newer id
    → GoesOn (new id) (newer id) living_new living_newer count
    → count ≡ 0
    → (newer ≡ old) × (living_newer ≡ living_old)
midway_ended told old new newer living_old living_new living_newer id name bytes count midway others on zero =
    let ended = on.ended zero in
    let one_more = midway.one_more in
    let at : (k : ℕ) → newer k ≡ old k =
    λ k. elim (eqb_tells k id) [
      | inl same ↦ ap newer same.1 ∙ ended.0 ∙ sym midway.fresh ∙ ap old (sym same.1)
      | inr apart ↦ others k apart.1 ∙ midway.others k apart.1
    ] in
    (λ i k. at k i, omega (arith, ended.1))

-- Where it is given up, the file's reader is left.
pub midway_left : (told : Option (List ℕ)) (old new newer : Readers) (living_old living_new living_newer id : ℕ) (name bytes : List ℕ)
    → Midway told old new living_old living_new id name bytes
    → OthersStand new newer id
    → living_newer ≡ living_new
    → LeavesAtMostOne old newer living_old living_newer
midway_left told old new newer living_old living_new living_newer id name bytes midway others same =
    let one_more = midway.one_more in
    let stand : OthersStand old newer id = λ k apart. others k apart ∙ midway.others k apart in
    record {
      left = id;
      others = stand;
      kept = λ k lived. stand k (λ same. lived (ap old same ∙ midway.fresh));
      no_fewer = omega arith;
      one_more = omega arith;
    }

-- Where more bytes were given than the limit, the file has more.
pub midway_longer : (told : Option (List ℕ)) (old new : Readers) (living_old living_new id : ℕ) (name bytes : List ℕ) (limit : ℕ)
    → Midway told old new living_old living_new id name bytes
    → limit < length bytes
    → IfTold told (λ all. limit < length all)
midway_longer None old new living_old living_new id name bytes limit midway more = tt
midway_longer (Some all) old new living_old living_new id name bytes limit midway more =
    let split = midway.split in
    omega (arith, simp length-append at (ap length split.2))

-- A slice that was lent by a vector of its length is what the vector then holds.
pub written_back : (into rest : List ℕ) (len : ℕ) → length into ≡ len → take len (into ++ rest) ≡ into
written_back into rest len same =
    subst (λ n. take n (into ++ rest) ≡ into) same (take-append_seam into rest)
