-- What isn't greater, over a total order.
use Rattle.std.proofs.Common.{◌≡◌, Bool, true, false, refl, sym, ap, ◌∙◌, All, List, slice_index_or}
use Rattle.std.specs.Cmp.{IsTotalOrder}
use Rattle.std.specs.Ordering.{is_gt}
use Rattle.std.specs.declared.cmp.Ordering.{Ordering}
use Rattle.std.specs.declared.cmp.Ordering.TheVariants.{Less, Equal, Greater}
use Rattle.std.proofs.lemmas.Cmp.{alike_right}

module _ {X : Type 0} (cmp : X → X → Ordering) (o : IsTotalOrder cmp) where
  pub not_greater_on : (x y z : X) → is_gt (cmp x y) ≡ false → is_gt (cmp y z) ≡ false → is_gt (cmp x z) ≡ false
  not_greater_on x y z p q = first (cmp x y) refl p
    where
      second : (s : Ordering) → cmp x y ≡ Less → cmp y z ≡ s → is_gt s ≡ false → is_gt (cmp x z) ≡ false
      second Less less e h = ap is_gt (o.trans x y z less e)
      second Equal less e h = ap is_gt (sym (alike_right o y z x e) ∙ less)
      second Greater less e h = cc

      first : (r : Ordering) → cmp x y ≡ r → is_gt r ≡ false → is_gt (cmp x z) ≡ false
      first Less e h = second (cmp y z) e refl q
      first Equal e h = ap is_gt (o.congr x y z e) ∙ q
      first Greater e h = cc

  pub greater_on : (x y h : X) → is_gt (cmp x h) ≡ true → is_gt (cmp x y) ≡ false → is_gt (cmp y h) ≡ true
  greater_on x y h p q = go (is_gt (cmp y h)) refl
    where
      go : (b : Bool) → is_gt (cmp y h) ≡ b → is_gt (cmp y h) ≡ true
      go true e = e
      go false e = let not : is_gt (cmp x h) ≡ false = not_greater_on x y h q e in cc

  pub all_not_greater : (x y : X) (zs : List X) → is_gt (cmp x y) ≡ false → All (λ z. is_gt (cmp y z) ≡ false) zs → All (λ z. is_gt (cmp x z) ≡ false) zs
  all_not_greater x y zs p all = λ k d low. not_greater_on x y (slice_index_or zs k d) p (all k d low)

  pub all_greater : (x h : X) (zs : List X) → is_gt (cmp x h) ≡ true → All (λ z. is_gt (cmp x z) ≡ false) zs → All (λ z. is_gt (cmp z h) ≡ true) zs
  all_greater x h zs p all = λ k d low. greater_on x (slice_index_or zs k d) h p (all k d low)
