-- Bytes that are turned round.
use Rattle.std.proofs.Common.{◌≡◌, ℕ, ◌≤◌, true, false, List, [], ◌∷◌, map, refl, ap, arith}
use Rattle.std.specs.Ordering.{ordering_reverse}
use Rattle.std.specs.declared.cmp.Ordering.{Ordering}
use Rattle.span_bytes.proofs.DecideLemmas.{Decides, IsLow}
use Rattle.normal_key.specs.NormalForms.{turned}

-- bytes that are turned round decide the other way
pub decides_turned : {a b : List ℕ} {o : Ordering} → IsLow a → IsLow b → Decides a b o
    → Decides (map (turned true) a) (map (turned true) b) (ordering_reverse o)
decides_turned left right Decides.ends = Decides.ends
decides_turned left right (Decides.same d) = Decides.same (decides_turned left.1 right.1 d)
decides_turned left right (Decides.less {x = x} {y = y} h) = let low : y ≤ 255 = right.0 in Decides.more (omega arith)
decides_turned left right (Decides.more {x = x} {y = y} h) = let low : x ≤ 255 = left.0 in Decides.less (omega arith)

pub plain_turned : (xs : List ℕ) → map (turned false) xs ≡ xs
plain_turned [] = refl
plain_turned (x ∷ xs) = ap (λ (ys : List ℕ). x ∷ ys) (plain_turned xs)
