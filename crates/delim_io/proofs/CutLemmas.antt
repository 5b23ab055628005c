-- Cutting a text at the first byte of one kind.
use Rattle.std.proofs.Common.{◌≡◌, ℕ, ◌+◌, ◌-◌, ◌<◌, Bool, true, false, ◌==◌, List, [], ◌∷◌, ◌++◌, length, take, drop, get_or, Some, None, refl, sym, ap, ◌∙◌, arith, append_assoc}
use Rattle.std.proofs.lemmas.List.{drop_more, take-append-drop, get_or-take, length-take}
use Rattle.std.proofs.lemmas.List.Elements.{All-from_get_or}
use Rattle.std.proofs.lemmas.List.Splits.{slice_split_none, slice_split_at}
use Rattle.memchr.specs.Find.{IsFirstByte, is_byte}
use Rattle.flow_outside.proofs.Told.{range_to_end}
use Rattle.delim_io.specs.Input.{parts_at}

no_true : (b : Bool) → ¬ (b ≡ true) → b ≡ false
no_true true n = absurd (n refl)
no_true false n = refl

-- there is no such byte
pub cut_nowhere : (byte : ℕ) (text : List ℕ) → IsFirstByte (is_byte byte) text None → parts_at byte text ≡ text ∷ []
cut_nowhere byte text h =
    slice_split_none (λ b. b == byte) text (All-from_get_or (λ b. (b == byte) ≡ false) text 0 (λ k lt. no_true _ (h k (omega arith) lt)))

-- the first one stands at `at`
pub cut_here : (byte : ℕ) (text : List ℕ) (at : ℕ) → IsFirstByte (is_byte byte) text (Some at) → parts_at byte text ≡ take at text ∷ parts_at byte (take (length text - (at + 1)) (drop (at + 1) text))
cut_here byte text at h =
    let p : ℕ → Bool = λ b. b == byte in
    let before : (k : ℕ) → k < length (take at text) → p (get_or (take at text) k 0) ≡ false = λ k lt.
    let low : k < at = omega (arith, length-take at text) in
    rw (get_or-take at text k 0 low) (no_true _ (h.0.before k (omega arith) low)) in
    let around : text ≡ take at text ++ get_or text at 0 ∷ drop (at + 1) text =
    sym (take-append-drop at text) ∙ ap (λ l. take at text ++ l) (drop_more text at 0 h.0.high) in
    ap (parts_at byte) around
    ∙ slice_split_at p (take at text) (get_or text at 0) (drop (at + 1) text) (All-from_get_or (λ b. p b ≡ false) (take at text) 0 before) h.1
    ∙ ap (λ l. take at text ∷ parts_at byte l) (sym (range_to_end text (at + 1)))

-- the same where more bytes stand behind
pub record IsCutAt (byte : ℕ) (text left : List ℕ) (at : ℕ) : Type 0 where
  pub whole : text ++ left ≡ take at text ++ (get_or text at 0 ∷ (drop (at + 1) text ++ left))
  pub parts : parts_at byte (text ++ left) ≡ take at text ∷ parts_at byte (drop (at + 1) text ++ left)
  pub found : (get_or text at 0 == byte) ≡ true
  pub high : at < length text

pub cut_before : (byte : ℕ) (text left : List ℕ) (at : ℕ) → IsFirstByte (is_byte byte) text (Some at) → IsCutAt byte text left at
cut_before byte text left at h =
    let p : ℕ → Bool = λ b. b == byte in
    let before : (k : ℕ) → k < length (take at text) → p (get_or (take at text) k 0) ≡ false = λ k lt.
    let low : k < at = omega (arith, length-take at text) in
    rw (get_or-take at text k 0 low) (no_true _ (h.0.before k (omega arith) low)) in
    let around : text ≡ take at text ++ (get_or text at 0 ∷ drop (at + 1) text) =
    sym (take-append-drop at text) ∙ ap (λ l. take at text ++ l) (drop_more text at 0 h.0.high) in
    let whole : text ++ left ≡ take at text ++ (get_or text at 0 ∷ (drop (at + 1) text ++ left)) =
    ap (λ l. l ++ left) around ∙ append_assoc (take at text) (get_or text at 0 ∷ drop (at + 1) text) left in
    record {
      whole = whole;
      parts = ap (parts_at byte) whole
          ∙ slice_split_at p (take at text) (get_or text at 0) (drop (at + 1) text ++ left) (All-from_get_or (λ b. p b ≡ false) (take at text) 0 before) h.1;
      found = h.1;
      high = h.0.high;
    }
