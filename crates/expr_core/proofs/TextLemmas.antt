-- Texts copied and cut, piece by piece.
use Rattle.std.proofs.Common.{◌≡◌, ℕ, zero, suc, ◌+◌, ◌-◌, ◌<◌, ◌≤◌, List, [], ◌∷◌, ◌++◌, length, take, drop, refl, sym, ◌∙◌, ap, arith, length-append, Bool, true, false, cond, nat_le}
use Rattle.std.proofs.lemmas.Bool.{leb-true}
use Rattle.std.specs.Prelude.{slice_index}
use Rattle.flow_types.specs.Expressions.{goes_on, cut_place}
use Rattle.span_bytes.proofs.CompareLemmas.{take_front}
use Rattle.std.proofs.lemmas.List.{drop-drop, take_at, drop_at, length-take-le}
use Rattle.std.proofs.Math.Seq.{take-add}

-- one piece more was copied behind those before it
pub copy_front : (src now new part : List ℕ) (at count : ℕ) → at + count ≤ length now → length part ≡ count
    → part ≡ take count (drop at src) → new ≡ take at now ++ part ++ drop (at + count) now
    → take at now ≡ take at src → take (at + count) new ≡ take (at + count) src
copy_front src now new part at count room long is written before =
    ap (take (at + count)) written
    ∙ take_at (take at now ++ part) (drop (at + count) now) (at + count) (omega (arith, length-append (take at now) part, length-take-le at now (omega arith), long))
    ∙ ap (λ (xs : List ℕ). xs ++ part) before
    ∙ ap (λ (xs : List ℕ). take at src ++ xs) is
    ∙ sym (take-add at count src)

pub copy_rest : (now new part : List ℕ) (at count : ℕ) → at + count ≤ length now → length part ≡ count
    → new ≡ take at now ++ part ++ drop (at + count) now → drop (at + count) new ≡ drop (at + count) now
copy_rest now new part at count room long written =
    ap (drop (at + count)) written
    ∙ drop_at (take at now ++ part) (drop (at + count) now) (at + count) (omega (arith, length-append (take at now) part, length-take-le at now (omega arith), long))

-- a loop that copies: the first bytes are copied, and what is behind them is as it was
pub record Copied (src old now : List ℕ) (at len : ℕ) : Type 0 where
  pub order : at ≤ len
  pub front : take at now ≡ take at src
  pub rest : drop at now ≡ drop at old

pub copied_more : (seen old now new piece : List ℕ) (start at len count end : ℕ) → Copied (drop start seen) old now at len
    → piece ≡ take (length piece) (drop (start + at) seen) → count ≤ length piece → count ≤ len - at → len ≤ length now
    → end ≡ at + length (take count piece) → new ≡ take at now ++ take count piece ++ drop end now
    → Copied (drop start seen) old new end len
copied_more seen old now new piece start at len count end before is short low room place written =
    let long : length (take count piece) ≡ count = length-take-le count piece short in
    let behind : end ≡ at + count = omega (arith, place, long) in
    let here : drop (start + at) seen ≡ drop at (drop start seen) = (let e : start + at ≡ start + at = refl in sym (drop-drop at start seen)) in
    let part : take count piece ≡ take count (drop at (drop start seen)) =
    ap (take count) is ∙ take_front count (length piece) (drop (start + at) seen) short ∙ ap (take count) here in
    let same : new ≡ take at now ++ take count piece ++ drop (at + count) now =
    written ∙ ap (λ (n : ℕ). take at now ++ take count piece ++ drop n now) behind in
    let inside : at + count ≤ length now = omega (arith, before.order, low, room) in
    record {
      order = omega (arith, before.order, low, behind);
      front = ap (λ (n : ℕ). take n new) behind
          ∙ copy_front (drop start seen) now new (take count piece) at count inside long part same before.front
          ∙ ap (λ (n : ℕ). take n (drop start seen)) (sym behind);
      rest = ap (λ (n : ℕ). drop n new) behind
          ∙ copy_rest now new (take count piece) at count inside long same
          ∙ sym (drop-drop count at now) ∙ ap (drop count) before.rest ∙ drop-drop count at old
          ∙ ap (λ (n : ℕ). drop n old) (sym behind);
    }

-- ---- cuts

-- the byte at a place is the first of the piece from there on
head_at : (x piece : List ℕ) (len : ℕ) → piece ≡ take (length piece) (drop len x) → 0 < length piece → slice_index piece 0 ≡ slice_index x len
head_at x piece len is some = ap (λ (p : List ℕ). slice_index p 0) is ∙ first (length piece) (drop len x) some ∙ at len x
  where
    first : (n : ℕ) (xs : List ℕ) → 0 < n → slice_index (take n xs) 0 ≡ slice_index xs 0
    first zero xs some = absurd (omega arith)
    first (suc n) [] some = refl
    first (suc n) (y ∷ ys) some = refl

    at : (k : ℕ) (xs : List ℕ) → slice_index (drop k xs) 0 ≡ slice_index xs k
    at zero [] = refl
    at zero (y ∷ ys) = refl
    at (suc k) [] = refl
    at (suc k) (y ∷ ys) = at k ys

pub cut_stops : (x piece : List ℕ) (len : ℕ) → 0 < len → piece ≡ take (length piece) (drop len x) → 0 < length piece
    → goes_on (slice_index piece 0) ≡ false → len ≡ cut_place x len
cut_stops x piece zero low is some stops = absurd (omega arith)
cut_stops x piece (suc n) low is some stops =
    sym (ap (λ (b : Bool). cond b (cut_place x n) (suc n)) (ap goes_on (sym (head_at x piece (suc n) is some)) ∙ stops))

pub cut_goes : (x piece : List ℕ) (len : ℕ) → 0 < len → piece ≡ take (length piece) (drop len x) → 0 < length piece
    → goes_on (slice_index piece 0) ≡ true → cut_place x (len - 1) ≡ cut_place x len
cut_goes x piece zero low is some goes = absurd (omega arith)
cut_goes x piece (suc n) low is some goes =
    (let e : suc n - 1 ≡ n = omega arith in ap (cut_place x) e)
    ∙ sym (ap (λ (b : Bool). cond b (cut_place x n) (suc n)) (ap goes_on (sym (head_at x piece (suc n) is some)) ∙ goes))

-- a text has as many bytes as it says
pub text_len : (len : ℕ) (xs : List ℕ) → nat_le len (length xs) ≡ true → length (take len xs) ≡ len
text_len len xs inside = length-take-le len xs (leb-true len (length xs) inside)
