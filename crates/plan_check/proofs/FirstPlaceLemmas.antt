-- A name's first place: what a look-up by its position finds, and the map after one more place.
use Rattle.std.proofs.Common.{◌≡◌, ℕ, ◌+◌, ◌<◌, ◌≤◌, Bool, true, false, cond, List, [], ◌∷◌, ◌++◌, length, take, get_or, Option, Some, None, is_some, slice_get, position, Bor, IfSome, MatchOption, refl, sym, ap, ◌∙◌, subst, arith, length-append, length-take}
use Rattle.std.specs.Prelude.{nat_lt, find}
use Rattle.std.specs.List.{position_or_len, slice_index_or, HoldsAt}
use Rattle.std.specs.Option.{option_or, option_copied}
use Rattle.std.specs.Str.{bytes_eq}
use Rattle.std.specs.declared.string.String.{String}
use Rattle.std.specs.String.{string_bytes, string_eq}
use Rattle.std.proofs.lemmas.Bool.Decides.{nat_tests}
use Rattle.std.proofs.lemmas.List.{take_more}
use Rattle.std.proofs.lemmas.List.Folds.{find_at, position_or_len_push}
use Rattle.std.proofs.lemmas.List.Sums.{prefix_len-le-length}
use Rattle.std.proofs.lemmas.Map.Text.{hash_map_updates_text}
use Rattle.std.proofs.lemmas.Option.{cond_some, slice_get_past, slice_get_read}
use Rattle.std.proofs.lemmas.Slice.Eq.{bytes_eq-Decides}
use Rattle.indexmap.specs.IndexMap.{IndexMap, get_by_text, Updates}
use Rattle.plan_check.specs.Places.{Place, place_at}
use Rattle.plan_check.specs.FirstPlaces.{ShowsFirst, NotesFirst}

module _ {X : Type 0} (test : X → Bool) (xs : List X) where
  -- what is found is what stands at the position
  pub found_at : (i : ℕ) → position test xs ≡ Some i → find test xs ≡ slice_get xs i
  found_at i e = find_at test xs ∙ ap (slice_get xs) (cond_some _ _ _ e).1

  -- without a position nothing is found
  pub found_nowhere : position test xs ≡ None → find test xs ≡ None
  found_nowhere e = go (nat_lt (position_or_len test xs) (length xs)) refl e
    where
      go : (b : Bool) → nat_lt (position_or_len test xs) (length xs) ≡ b → cond b (Some (position_or_len test xs)) None ≡ None → find test xs ≡ None
      go true low e = absurd (grind arith)
      go false low e = find_at test xs ∙ slice_get_past xs (position_or_len test xs) (grind (arith, nat_tests))

  -- one more element is the first that passes where none did
  pub position_push : (x : X) → position test (xs ++ x ∷ []) ≡ option_or (position test xs) (cond (test x) (Some (length xs)) None)
  position_push x = grind (arith, nat_tests, position_or_len_push test xs x, prefix_len-le-length, length-append xs (x ∷ []))

module _ {A S : Type 0} where
  -- a new name has the new position
  pub noted_now : (old new : IndexMap (String A) ℕ S) (text : String A) (place : ℕ) → is_some (get_by_text old (string_bytes text)) ≡ false
      → Updates string_eq old new text (Some place) → NotesFirst old (string_bytes text) place new
  noted_now old new text place none updates other =
      hash_map_updates_text (string_bytes text) old new (Some place) updates other ∙ go (bytes_eq (string_bytes text) other) refl (get_by_text old other) refl
    where
      go : (b : Bool) → bytes_eq (string_bytes text) other ≡ b → (o : Option ℕ) → get_by_text old other ≡ o → cond b (Some place) o ≡ option_or o (cond b (Some place) None)
      go false e None f = refl
      go false e (Some x) f = refl
      go true e None f = refl
      go true e (Some x) f = let same : string_bytes text ≡ other = (bytes_eq-Decides (string_bytes text) other).0 e in absurd (grind arith)

  -- the map shows one more place once its name is noted
  pub shows_more : (old new : IndexMap (String A) ℕ S) (ps : List Place) (p : Place) → ShowsFirst old ps → NotesFirst old p.name (length ps) new → ShowsFirst new (ps ++ p ∷ [])
  shows_more old new ps p shows notes name =
      notes name ∙ ap (λ o. option_or o (cond (bytes_eq p.name name) (Some (length ps)) None)) (shows name)
      ∙ sym (position_push (λ (q : Place). bytes_eq q.name name) ps p)

  -- the same at a step of a loop over all places
  pub shows_next : (old new : IndexMap (String A) ℕ S) (ps : List Place) (i : ℕ) (p : Place) → i < length ps → p ≡ get_or ps i p
      → ShowsFirst old (take i ps) → NotesFirst old p.name i new → ShowsFirst new (take (i + 1) ps)
  shows_next old new ps i p within at shows notes =
      let len : length (take i ps) ≡ i = omega (arith, length-take i ps) in
      let more : take (i + 1) ps ≡ take i ps ++ p ∷ [] = take_more ps i p within ∙ ap (λ q. take i ps ++ q ∷ []) (sym at) in
      subst (ShowsFirst new) (sym more) (shows_more old new (take i ps) p shows (subst (λ n. NotesFirst old p.name n new) (sym len) notes))

  -- where the map has no position for a name, it has no place
  pub no_place : (first : IndexMap (String A) ℕ S) (ps now : List Place) (asked name : List ℕ) → ShowsFirst first ps → ps ≡ now → asked ≡ name
      → get_by_text first asked ≡ None → place_at now name ≡ None
  no_place first ps now asked name shows seen same none =
      subst (λ (l : List Place). place_at l name ≡ None) seen
      (found_nowhere (λ (p : Place). bytes_eq p.name name) ps (sym (shows name) ∙ subst (λ n. get_by_text first n ≡ None) same none))

  -- where the map has a position for a name, its first place stands there
  pub first_place : (first : IndexMap (String A) ℕ S) (ps now : List Place) (asked name : List ℕ) (i : ℕ) → ShowsFirst first ps → ps ≡ now → asked ≡ name
      → get_by_text first asked ≡ Some i → place_at now name ≡ slice_get ps i
  first_place first ps now asked name i shows seen same some =
      subst (λ (l : List Place). place_at l name ≡ slice_get ps i) seen
      (found_at (λ (p : Place). bytes_eq p.name name) ps i (sym (shows name) ∙ subst (λ n. get_by_text first n ≡ Some i) same some))

-- what a slice gives at a position
pub read_place : (r : Option (Bor Place)) (ps : List Place) (i : ℕ) → IfSome r (λ x. x.now ≡ slice_index_or ps i x.now)
    → MatchOption r (length ps ≤ i) (λ x. (i < length ps) × HoldsAt (λ y. x.now ≡ y) ps i) → option_copied r ≡ slice_get ps i
read_place None ps i is at = sym (slice_get_past ps i at)
read_place (Some x) ps i is at = sym (slice_get_read ps (length ps) i x.now refl at.0 is)
