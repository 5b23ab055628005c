-- What was seen, where other bytes change or are added.
use Rattle.std.proofs.Common.{◌≡◌, ℕ, zero, suc, ◌+◌, ◌≤◌, List, [], ◌∷◌, ◌++◌, length, take, drop, refl, sym, ◌∙◌, ap, arith, true, nat_le, IsTrue, length-append}
use Rattle.std.proofs.lemmas.List.{take-append-le, length-drop, length-take-le}
use Rattle.std.proofs.lemmas.Bool.{leb-true}
use Rattle.std.proofs.Math.Seq.{take-add}
use Rattle.span_bytes.proofs.CompareLemmas.{take_front}
use Rattle.std.proofs.lemmas.Bool.Decides.{nat_tests}
use Rattle.flow_types.specs.declared.value.Value.{Value}
use Rattle.flow_types.specs.declared.value.Value.TheVariants as value
use Rattle.flow_types.specs.Values.{bytes_of}
use Rattle.expr_core.specs.declared.seen.Seen.{Seen}
use Rattle.expr_core.specs.declared.seen.Seen.TheVariants as seen
use Rattle.expr_core.specs.declared.seen.Origin.{Origin}
use Rattle.expr_core.specs.declared.seen.Origin.TheVariants as origin
use Rattle.expr_core.specs.declared.seen.TextPlace.{TextPlace}
use Rattle.expr_core.specs.Places.{origin_bytes, text_bytes, value_in, is_inside, held, held_by}

le_test : (m n : ℕ) → m ≤ n → nat_le m n ≡ true
le_test m n h = grind (arith, nat_tests)

take_drop_left : (xs ys : List ℕ) (start len : ℕ) → len ≤ length (drop start xs) → take len (drop start (xs ++ ys)) ≡ take len (drop start xs)
take_drop_left xs ys zero len low = take-append-le len xs ys low
take_drop_left [] ys (suc start) len low =
    let e : len ≡ 0 = omega (arith, low) in ap (λ (n : ℕ). take n (drop (suc start) ([] ++ ys))) e ∙ sym (ap (λ (n : ℕ). take n (drop (suc start) [])) e)
take_drop_left (x ∷ xs) ys (suc start) len low = take_drop_left xs ys start len low

module _ (front back room : List ℕ) where
  -- what was seen in the front of the bytes
  left_text : (o : Origin) (len : ℕ) → nat_le len (length (origin_bytes front room o)) ≡ true
      → take len (origin_bytes (front ++ back) room o) ≡ take len (origin_bytes front room o)
  left_text (origin.Record start) len low = take_drop_left front back start len (leb-true len (length (drop start front)) low)
  left_text (origin.Literal s) len low = refl
  left_text origin.Room len low = refl

  left_inside_text : (o : Origin) (len : ℕ) → nat_le len (length (origin_bytes front room o)) ≡ true
      → nat_le len (length (origin_bytes (front ++ back) room o)) ≡ true
  left_inside_text (origin.Record start) len low =
      le_test len (length (drop start (front ++ back)))
      (omega (arith, leb-true len (length (drop start front)) low, length-drop start front, length-drop start (front ++ back), length-append front back))
  left_inside_text (origin.Literal s) len low = low
  left_inside_text origin.Room len low = low

  pub left_value : (s : Seen) → IsTrue (is_inside front room s) → value_in (front ++ back) room s ≡ value_in front room s
  left_value (seen.Long n) low = refl
  left_value (seen.Bool b) low = refl
  left_value (seen.Str text) low = ap (λ (xs : List ℕ). value.Str xs) (left_text text.origin text.len low)

  pub left_inside : (s : Seen) → IsTrue (is_inside front room s) → IsTrue (is_inside (front ++ back) room s)
  left_inside (seen.Long n) low = low
  left_inside (seen.Bool b) low = low
  left_inside (seen.Str text) low = left_inside_text text.origin text.len low

module _ (bytes room new : List ℕ) where
  -- what was seen, where the room's front that it takes stays
  kept_text : (o : Origin) (len : ℕ) → take (held_by len o) new ≡ take (held_by len o) room
      → take len (origin_bytes bytes new o) ≡ take len (origin_bytes bytes room o)
  kept_text (origin.Record start) len same = refl
  kept_text (origin.Literal s) len same = refl
  kept_text origin.Room len same = same

  pub kept_place : (text : TextPlace) → take (held_by text.len text.origin) new ≡ take (held_by text.len text.origin) room
      → text_bytes bytes new text ≡ text_bytes bytes room text
  kept_place text same = kept_text text.origin text.len same

  pub kept_value : (s : Seen) → take (held s) new ≡ take (held s) room → value_in bytes new s ≡ value_in bytes room s
  kept_value (seen.Long n) same = refl
  kept_value (seen.Bool b) same = refl
  kept_value (seen.Str text) same = ap (λ (xs : List ℕ). value.Str xs) (kept_text text.origin text.len same)

  kept_inside_text : (o : Origin) (len : ℕ) → length new ≡ length room
      → nat_le len (length (origin_bytes bytes room o)) ≡ true → nat_le len (length (origin_bytes bytes new o)) ≡ true
  kept_inside_text (origin.Record start) len same low = low
  kept_inside_text (origin.Literal s) len same low = low
  kept_inside_text origin.Room len same low = ap (nat_le len) same ∙ low

  pub kept_inside : (s : Seen) → length new ≡ length room → IsTrue (is_inside bytes room s) → IsTrue (is_inside bytes new s)
  kept_inside (seen.Long n) same low = low
  kept_inside (seen.Bool b) same low = low
  kept_inside (seen.Str text) same low = kept_inside_text text.origin text.len same low

held_small : (len : ℕ) (o : Origin) → held_by len o ≤ len
held_small len (origin.Record start) = omega arith
held_small len (origin.Literal s) = omega arith
held_small len origin.Room = omega arith

-- one text was brought behind the place of another, which was then brought to the front
pub cat_joined : (bytes old mid new y : List ℕ) (a : TextPlace) (n place : ℕ) → place ≡ a.len
    → take n (drop place mid) ≡ y → take place mid ≡ take place old
    → take a.len new ≡ text_bytes bytes mid a → drop a.len new ≡ drop a.len mid
    → take (a.len + n) new ≡ text_bytes bytes old a ++ y
cat_joined bytes old mid new y a n place at behind front brought rest =
    let h : ℕ = held_by a.len a.origin in
    let low : h ≤ a.len = held_small a.len a.origin in
    let same : take a.len mid ≡ take a.len old = sym (ap (λ (k : ℕ). take k mid) at) ∙ front ∙ ap (λ (k : ℕ). take k old) at in
    let kept : take h mid ≡ take h old = sym (take_front h a.len mid low) ∙ ap (take h) same ∙ take_front h a.len old low in
    take-add a.len n new
    ∙ ap (λ (xs : List ℕ). xs ++ take n (drop a.len new)) (brought ∙ kept_place bytes old mid a kept)
    ∙ ap (λ (xs : List ℕ). text_bytes bytes old a ++ take n xs) rest
    ∙ ap (λ (k : ℕ). text_bytes bytes old a ++ take n (drop k mid)) (sym at)
    ∙ ap (λ (xs : List ℕ). text_bytes bytes old a ++ xs) behind

-- what is held is no longer than the text
pub held_short : (bytes room : List ℕ) (s : Seen) (v : Value) (n : ℕ) → IsTrue (is_inside bytes room s) → value_in bytes room s ≡ v
    → length (bytes_of v) ≤ n → held s ≤ n
held_short bytes room (seen.Long k) v n low is short = omega arith
held_short bytes room (seen.Bool b) v n low is short = omega arith
held_short bytes room (seen.Str text) v n low is short =
    omega (arith, held_small text.len text.origin, length-take-le text.len (origin_bytes bytes room text.origin) (leb-true text.len (length (origin_bytes bytes room text.origin)) low), ap (λ (w : Value). length (bytes_of w)) is, short)

-- what was seen in a room, where the room goes on
pub more_value : (bytes room more : List ℕ) (s : Seen) → IsTrue (is_inside bytes room s) → value_in bytes (room ++ more) s ≡ value_in bytes room s
more_value bytes room more (seen.Long n) low = refl
more_value bytes room more (seen.Bool b) low = refl
more_value bytes room more (seen.Str text) low = ap (λ (xs : List ℕ). value.Str xs) (go text.origin text.len low)
  where
    go : (o : Origin) (len : ℕ) → nat_le len (length (origin_bytes bytes room o)) ≡ true
        → take len (origin_bytes bytes (room ++ more) o) ≡ take len (origin_bytes bytes room o)
    go (origin.Record start) len low = refl
    go (origin.Literal s) len low = refl
    go origin.Room len low = take-append-le len room more (leb-true len (length room) low)

-- what is held is inside the room
pub held_room : (bytes room : List ℕ) (s : Seen) (h : ℕ) → h ≡ held s → IsTrue (is_inside bytes room s) → h ≤ length room
held_room bytes room (seen.Long k) h is low = omega (arith, is)
held_room bytes room (seen.Bool b) h is low = omega (arith, is)
held_room bytes room (seen.Str text) h is low = go text.origin text.len is low
  where
    go : (o : Origin) (len : ℕ) → h ≡ held_by len o → nat_le len (length (origin_bytes bytes room o)) ≡ true → h ≤ length room
    go (origin.Record start) len is low = omega (arith, is)
    go (origin.Literal s) len is low = omega (arith, is)
    go origin.Room len is low = omega (arith, is, leb-true len (length room) low)
