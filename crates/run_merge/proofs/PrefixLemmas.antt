-- Prefixes decide before records are compared.
use Rattle.std.proofs.Common.{◌≡◌, ℕ, ◌<◌, true, false, Bool, IsTrue, All, List, length, slice_index_or, Option, Some, None, is_some, option_map, refl, sym, ap, ◌∙◌, subst}
use Rattle.std.specs.Cmp.{IsTotalOrder}
use Rattle.std.specs.Cmp.Lexicographic.{slice_cmp}
use Rattle.std.specs.Ordering.{nat_cmp, is_lt, ordering_then, ordering_reverse}
use Rattle.std.specs.declared.cmp.Ordering.{Ordering}
use Rattle.std.specs.declared.cmp.Ordering.TheVariants.{Less, Equal, Greater}
use Rattle.std.proofs.lemmas.Cmp.{nat_list_cmp_total}
use Rattle.run_merge.specs.Merging.{IsLess, Row, ShowsFitting}
use Rattle.run_merge.specs.Prefixes.{KeepsPrefix, written}
use Rattle.run_merge.specs.declared.source.Source.{Source}
use Rattle.run_merge.specs.declared.prefix.Prefix.{Prefix}
use Rattle.run_merge.proofs.BestLemmas.{any_default}

-- what comes second isn't asked where the first decides
pub then_decided : (o p : Ordering) → (o ≡ Equal → ⊥) → o ≡ ordering_then o p
then_decided Less p not = refl
then_decided Equal p not = absurd (not refl)
then_decided Greater p not = refl

module _ (cmp : Row → Row → Ordering) (o : IsTotalOrder cmp) (fit : Row → Bool) (prefix_of : Row → List ℕ)
    (first : (a b : Row) → IsTrue (fit a) → IsTrue (fit b) → slice_cmp nat_cmp (prefix_of a) (prefix_of b) ≡ Less → cmp a b ≡ Less) where
  less_by : (p q : Prefix) (row its : Row) → IsTrue (fit row) → IsTrue (fit its) → written p ≡ prefix_of row → written q ≡ prefix_of its
      → slice_cmp nat_cmp (written p) (written q) ≡ Less → cmp row its ≡ Less
  less_by p q row its fits its_fits one other less =
      first row its fits its_fits
      (ap (λ (bs : List ℕ). slice_cmp nat_cmp bs (prefix_of its)) (sym one) ∙ ap (slice_cmp nat_cmp (written p)) (sym other) ∙ less)

  -- a lesser prefix
  pub lesser_prefix : (p q : Prefix) (kept other : Option Prefix) (shown its : Option Row) → kept ≡ Some p → other ≡ Some q
      → ShowsFitting fit shown → ShowsFitting fit its → KeepsPrefix prefix_of kept shown → KeepsPrefix prefix_of other its
      → slice_cmp nat_cmp (written p) (written q) ≡ Less → IsLess cmp true shown its
  lesser_prefix p q kept other None its is_p is_q fits its_fits keeps keeps_its less = tt
  lesser_prefix p q kept other (Some row) None is_p is_q fits its_fits keeps keeps_its less = tt
  lesser_prefix p q kept other (Some row) (Some its) is_p is_q fits its_fits keeps keeps_its less =
      let here : Some (written p) ≡ Some (prefix_of row) = ap (option_map written) (sym is_p) ∙ keeps in
      let there : Some (written q) ≡ Some (prefix_of its) = ap (option_map written) (sym is_q) ∙ keeps_its in
      let one : written p ≡ prefix_of row = cc in
      let second : written q ≡ prefix_of its = cc in
      sym (ap is_lt (less_by p q row its fits its_fits one second less))

  -- a greater one
  pub greater_prefix : (p q : Prefix) (kept other : Option Prefix) (shown its : Option Row) → kept ≡ Some p → other ≡ Some q
      → ShowsFitting fit shown → ShowsFitting fit its → KeepsPrefix prefix_of kept shown → KeepsPrefix prefix_of other its
      → slice_cmp nat_cmp (written p) (written q) ≡ Greater → IsLess cmp false shown its
  greater_prefix p q kept other None its is_p is_q fits its_fits keeps keeps_its more = tt
  greater_prefix p q kept other (Some row) None is_p is_q fits its_fits keeps keeps_its more = tt
  greater_prefix p q kept other (Some row) (Some its) is_p is_q fits its_fits keeps keeps_its more =
      let here : Some (written p) ≡ Some (prefix_of row) = ap (option_map written) (sym is_p) ∙ keeps in
      let there : Some (written q) ≡ Some (prefix_of its) = ap (option_map written) (sym is_q) ∙ keeps_its in
      let one : written p ≡ prefix_of row = cc in
      let second : written q ≡ prefix_of its = cc in
      let turned : slice_cmp nat_cmp (written q) (written p) ≡ Less = nat_list_cmp_total.antisymm (written q) (written p) ∙ ap ordering_reverse more in
      sym (ap is_lt (o.antisymm row its ∙ ap ordering_reverse (less_by q p its row its_fits fits second one turned)))

-- a prefix is kept exactly where a row is shown
kept_none : (prefix_of : Row → List ℕ) (kept : Option Prefix) (shown : Option Row) → kept ≡ None → KeepsPrefix prefix_of kept shown → shown ≡ None
kept_none prefix_of kept None none keeps = refl
kept_none prefix_of kept (Some row) none keeps =
    let wrong : None ≡ Some (prefix_of row) = ap (option_map written) (sym none) ∙ keeps in
    cc

kept_some : (prefix_of : Row → List ℕ) (kept : Option Prefix) (shown : Option Row) → is_some kept ≡ true → KeepsPrefix prefix_of kept shown → (row : Row) × (shown ≡ Some row)
kept_some prefix_of None shown some keeps = cc
kept_some prefix_of (Some p) None some keeps = cc
kept_some prefix_of (Some p) (Some row) some keeps = (row, refl)

module _ {R : Type 0} (prefix_of : Row → List ℕ) (shown : R → Option Row) (sources : List (Source R)) (at : ℕ) (e : Source R) (low : at < length sources)
    (kept : All (λ (s : Source R). KeepsPrefix prefix_of s.prefix (shown s.stream)) sources) where
  pub none_here : (slice_index_or sources at e).prefix ≡ None → (d : Source R) → shown (slice_index_or sources at d).stream ≡ None
  none_here none d =
      kept_none prefix_of (slice_index_or sources at d).prefix (shown (slice_index_or sources at d).stream)
      (ap (λ (s : Source R). s.prefix) (any_default sources at d e low) ∙ none) (kept at d low)

  pub some_here : is_some (slice_index_or sources at e).prefix ≡ true → (row : Row) × ((d : Source R) → shown (slice_index_or sources at d).stream ≡ Some row)
  some_here some =
      let found : (row : Row) × (shown (slice_index_or sources at e).stream ≡ Some row) =
      kept_some prefix_of (slice_index_or sources at e).prefix (shown (slice_index_or sources at e).stream) some (kept at e low) in
      (found.0, λ d. ap (λ (s : Source R). shown s.stream) (any_default sources at d e low) ∙ found.1)

-- where a row that is shown is known, the test's answer is about it
pub is_less_rows : (cmp : Row → Row → Ordering) (answer : Bool) (shown its : Option Row) (row other : Row) → shown ≡ Some row → its ≡ Some other → IsLess cmp answer shown its → answer ≡ is_lt (cmp row other)
is_less_rows cmp answer shown its row other one second less =
    subst (λ (s : Option Row). IsLess cmp answer s (Some other)) one (subst (IsLess cmp answer shown) second less)

pub lt_less : (o : Ordering) → true ≡ is_lt o → o ≡ Less
lt_less Less is = refl
lt_less Equal is = cc
lt_less Greater is = cc

pub not_less : (o : Ordering) → false ≡ is_lt o → o ≡ Less → ⊥
not_less o is less = let wrong : false ≡ true = is ∙ ap is_lt less in cc
