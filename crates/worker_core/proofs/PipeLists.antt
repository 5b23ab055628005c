-- Lists of pipes and lots that are filled and emptied one by one.
use Rattle.std.proofs.Common.{◌≡◌, inl, inr, ℕ, zero, suc, ◌+◌, ◌<◌, Bool, true, false, cond, ◌==◌, All, List, [], ◌∷◌, ◌++◌, length, Option, Some, None, refl, sym, ap, ◌∙◌, subst, arith, length-append}
use Rattle.std.specs.Prelude.{slice_get, slice_index_or}
use Rattle.std.proofs.lemmas.Bool.{cases_lt}
use Rattle.std.proofs.lemmas.Bool.Decides.{Decides-eqb}
use Rattle.std.proofs.lemmas.Option.{slice_get-get_or}
use Rattle.flow_types.proofs.ValueLemmas.{both_true}
use Rattle.flow_model.specs.declared.plan.Node.{Node}
use Rattle.flow_model.specs.Rules.{is_numbered, node_at}
use Rattle.lot_store.specs.Lots.{LotView, held}
use Rattle.row_pipe.specs.declared.row_pipe.RowPipe.{RowPipe}
use Rattle.worker_core.specs.Workers.{HasPipes, IsPipeFor}

-- an element of the front, and the last one
pub at_front : {A : Type 0} (xs ys : List A) (i : ℕ) (d : A) → i < length xs → slice_index_or (xs ++ ys) i d ≡ slice_index_or xs i d
at_front [] ys i d low = absurd (omega (arith, low))
at_front (x ∷ xs) ys zero d low = refl
at_front (x ∷ xs) ys (suc i) d low = at_front xs ys i d (omega (arith, low))

at_last : {A : Type 0} (xs : List A) (y d : A) → slice_index_or (xs ++ y ∷ []) (length xs) d ≡ y
at_last [] y d = refl
at_last (x ∷ xs) y d = at_last xs y d

-- ---- lots

pub held_front : (all front : List LotView) (lot : LotView) → all ≡ front ++ lot ∷ [] → All (λ (l : LotView). held l ≡ []) all → All (λ (l : LotView). held l ≡ []) front
held_front all front lot is h k d low =
    subst (λ (l : LotView). held l ≡ []) (ap (λ xs. slice_index_or xs k d) is ∙ at_front front (lot ∷ []) k d low)
    (h k d (omega (arith, low, ap length is, length-append front (lot ∷ []))))

pub held_last : (all front : List LotView) (lot : LotView) → all ≡ front ++ lot ∷ [] → All (λ (l : LotView). held l ≡ []) all → held lot ≡ []
held_last all front lot is h =
    subst (λ (l : LotView). held l ≡ []) (ap (λ xs. slice_index_or xs (length front) lot) is ∙ at_last front lot lot)
    (h (length front) lot (omega (arith, ap length is, length-append front (lot ∷ []))))

-- ---- pipes

pub pipes_turn : (nodes : List Node) (pipes : List (Option RowPipe)) (i : ℕ) (o : Option RowPipe) → length pipes ≡ i + 1 → ((d : Node) → IsPipeFor (slice_index_or nodes i d) o)
    → ((k : ℕ) (d : Node) → k < i → IsPipeFor (slice_index_or nodes k d) (slice_index_or pipes (k + 1) None))
    → (k : ℕ) (d : Node) → k < i + 1 → IsPipeFor (slice_index_or nodes k d) (slice_index_or (pipes ++ o ∷ []) (k + 1) None)
pipes_turn nodes pipes i o len here before k d low = elim (cases_lt k i) [
  | inl less ↦ subst (IsPipeFor (slice_index_or nodes k d)) (sym (at_front pipes (o ∷ []) (k + 1) None (omega (arith, less, len)))) (before k d less)
  | inr more ↦
      let same : k ≡ i = omega (arith, more, low) in
      let place : k + 1 ≡ length pipes = omega (arith, same, len) in
      subst (IsPipeFor (slice_index_or nodes k d)) (sym (ap (λ n. slice_index_or (pipes ++ o ∷ []) n None) place ∙ at_last pipes o None))
      (subst (λ n. IsPipeFor (slice_index_or nodes n d) o) (sym same) (here d))
]

-- A node stands at its number's place.
record StandsIn (first : ℕ) (nodes : List Node) (n : ℕ) (node : Node) : Type 0 where
  pub place : ℕ
  pub number : n ≡ first + place
  pub low : place < length nodes
  pub is : (d : Node) → slice_index_or nodes place d ≡ node

found_place : (first : ℕ) (nodes : List Node) (n : ℕ) (node : Node) → is_numbered first nodes ≡ true → node_at nodes n ≡ Some node → StandsIn first nodes n node
found_place first [] n node h e = cc
found_place first (x ∷ xs) n node h e =
    let both = both_true (x.number == first) (is_numbered (suc first) xs) h in
    let here : x.number ≡ first = (Decides-eqb x.number first).0 both.0 in
    go (x.number == n) refl e here (λ f. found_place (suc first) xs n node both.1 f)
  where
    go : (b : Bool) → (x.number == n) ≡ b → cond b (Some x) (node_at xs n) ≡ Some node → x.number ≡ first → (node_at xs n ≡ Some node → StandsIn (suc first) xs n node) → StandsIn first (x ∷ xs) n node
    go true t f here later =
        let at : x.number ≡ n = (Decides-eqb x.number n).0 t in
        let same : x ≡ node = cc in
        record { place = 0; number = omega (arith, at, here); low = omega arith; is = λ d. same }
    go false t f here later =
        let behind = later f in
        record { place = suc behind.place; number = omega (arith, behind.number); low = omega (arith, behind.low); is = behind.is }

pub pipes_end : (nodes : List Node) (pipes : List (Option RowPipe)) → is_numbered 1 nodes ≡ true → length pipes ≡ length nodes + 1
    → ((k : ℕ) (d : Node) → k < length nodes → IsPipeFor (slice_index_or nodes k d) (slice_index_or pipes (k + 1) None)) → HasPipes nodes pipes
pipes_end nodes pipes numbers len does node found some =
    let stands = found_place 1 nodes node.number node numbers found in
    let here : IsPipeFor node (slice_index_or pipes (stands.place + 1) None) = subst (λ (m : Node). IsPipeFor m (slice_index_or pipes (stands.place + 1) None)) (stands.is node) (does stands.place node stands.low) in
    let there = here some in
    record {
      pipe = there.0;
      there = ap (slice_get pipes) (stands.number ∙ swap stands.place) ∙ slice_get-get_or pipes (stands.place + 1) None (omega (arith, stands.low, len)) ∙ ap (λ o. Some o) there.1;
      does = there.2;
    }
  where
    swap : (k : ℕ) → 1 + k ≡ k + 1
    swap k = omega arith

-- An element that was read is there, whatever stands for a place past the end.
read_same : {A : Type 0} (xs : List A) (i : ℕ) (d e : A) → i < length xs → slice_index_or xs i d ≡ slice_index_or xs i e
read_same [] i d e low = absurd (omega (arith, low))
read_same (x ∷ xs) zero d e low = refl
read_same (x ∷ xs) (suc i) d e low = read_same xs i d e (omega (arith, low))

item_is : (nodes : List Node) (i : ℕ) (x : Node) → i < length nodes → x ≡ slice_index_or nodes i x → (d : Node) → slice_index_or nodes i d ≡ x
item_is nodes i x low is d = read_same nodes i d x low ∙ sym is

pub pipes_pushed : (nodes : List Node) (pipes more : List (Option RowPipe)) (i : ℕ) (o : Option RowPipe) → more ≡ pipes ++ o ∷ [] → length pipes ≡ i + 1 → ((d : Node) → IsPipeFor (slice_index_or nodes i d) o)
    → ((k : ℕ) (d : Node) → k < i → IsPipeFor (slice_index_or nodes k d) (slice_index_or pipes (k + 1) None))
    → (k : ℕ) (d : Node) → k < i + 1 → IsPipeFor (slice_index_or nodes k d) (slice_index_or more (k + 1) None)
pipes_pushed nodes pipes more i o is len here before k d low =
    subst (λ ps. IsPipeFor (slice_index_or nodes k d) (slice_index_or ps (k + 1) None)) (sym is) (pipes_turn nodes pipes i o len here before k d low)

-- The same of the slice of a list.
pub item_in : (slice nodes : List Node) → slice ≡ nodes → (i : ℕ) (x : Node) → i < length slice → x ≡ slice_index_or slice i x → (d : Node) → slice_index_or nodes i d ≡ x
item_in slice nodes e i x low is d = sym (ap (λ ns. slice_index_or ns i d) e) ∙ item_is slice i x low is d
