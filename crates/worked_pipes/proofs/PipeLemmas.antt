-- How many segments two lots and their purse have.
use Rattle.std.proofs.Common.{◌≡◌, ℕ, zero, suc, ◌+◌, ◌<◌, ◌≤◌, Bool, true, List, [], ◌∷◌, ◌++◌, length, All, IsTrue, Result, Ok, Err, OnOk, Option, Some, None, option_to_list, get_or, refl, sym, ap, ◌∙◌, subst, arith, length-append}
use Rattle.std.proofs.lemmas.List.Sums.{sum_by-cons}
use Rattle.flow_model.specs.declared.plan.Node.{Node}
use Rattle.flow_model.specs.declared.plan.Plan.{Plan}
use Rattle.flow_model.specs.Rules.{node_holds}
use Rattle.segment_core.specs.Segments.{PurseView, SegmentView, segment_sum}
use Rattle.segment_core.proofs.Weighing.{segment_sum-ones}
use Rattle.flow_outside.specs.Blocks.{Blocks}
use Rattle.flow_outside.specs.Told.{IfTold}
use Rattle.lot_store.specs.LotCalls.{Reads, Writes}
use Rattle.lot_store.specs.Lots.{LotView, empty, held}
use Rattle.lot_store.specs.Storage.{IsNoneOf, Preserves, alone, held_count, held_sum, lot_at, pair}
use Rattle.lot_store.proofs.StorageLaws.{counts_after, preserves_join, preserves_more, preserves_within}
use Rattle.row_pipe.specs.Pipes.{Passes, RestsAfter}
use Rattle.flow_outside.specs.declared.failure.StreamFault.{StreamFault}

-- What a call keeps of both lots, each of which it may have written.
abbrev pub Both : (t u : Option Blocks) (p q : PurseView) (a b x y : LotView) → Type 0
Both t u p q a b x y = Preserves (pair t p a x) (pair u q b y) (0 ∷ 1 ∷ []) (0 ∷ 1 ∷ []) true

both_none : (i : ℕ) → IsNoneOf i (0 ∷ 1 ∷ []) → IsNoneOf i (0 ∷ [])
both_none i none = (none.0, tt)

both_none_second : (i : ℕ) → IsNoneOf i (0 ∷ 1 ∷ []) → IsNoneOf i (1 ∷ [])
both_none_second i none = none.1

-- The first lot was written.
pub first_written : (t u : Option Blocks) (p q : PurseView) (a b x : LotView) → Writes t u p q a b → Both t u p q a b x x
first_written t u p q a b x writes =
    preserves_more (pair t p a x) (pair u q b x) (0 ∷ []) (0 ∷ []) (0 ∷ 1 ∷ []) (0 ∷ 1 ∷ []) true true both_none both_none (λ is. is)
    (preserves_within (0 ∷ []) (pair t p a x) (pair u q b x) a (tt, tt) (omega arith, tt) refl same (0 ∷ []) (0 ∷ []) true writes)
  where
    same : (i : ℕ) (e : LotView) → IsNoneOf i (0 ∷ []) → lot_at (b ∷ x ∷ []) i e ≡ lot_at (a ∷ x ∷ []) i e
    same zero e none = absurd (none.0 refl)
    same (suc i) e none = refl

-- The second was read.
pub second_read : (t u : Option Blocks) (p q : PurseView) (a x y : LotView) → Reads t u p q x y → Both t u p q a a x y
second_read t u p q a x y reads =
    preserves_more (pair t p a x) (pair u q a y) (1 ∷ []) [] (0 ∷ 1 ∷ []) (0 ∷ 1 ∷ []) true true both_none_second (λ i none. tt) (λ is. is)
    (preserves_within (1 ∷ []) (pair t p a x) (pair u q a y) x (tt, tt) (omega arith, tt) refl same (0 ∷ []) [] true reads)
  where
    same : (i : ℕ) (e : LotView) → IsNoneOf i (1 ∷ []) → lot_at (a ∷ y ∷ []) i e ≡ lot_at (a ∷ x ∷ []) i e
    same zero e none = refl
    same (suc zero) e none = absurd (none.0 refl)
    same (suc (suc i)) e none = refl

-- The rows of one went to the other.
pub both_passed : (t u : Option Blocks) (p q : PurseView) (a b x y : LotView) → Passes t u a b x y p q → Both t u p q a b x y
both_passed t u p q a b x y passes =
    preserves_more (pair t p a x) (pair u q b y) (0 ∷ 1 ∷ []) (1 ∷ []) (0 ∷ 1 ∷ []) (0 ∷ 1 ∷ []) true true (λ i none. none) both_none_second (λ is. is) passes

pub both_join : (t u v : Option Blocks) (p q r : PurseView) (a b c x y z : LotView) → Both t u p q a b x y → Both u v q r b c y z → Both t v p r a c x z
both_join t u v p q r a b c x y z f g =
    preserves_join (pair t p a x) (pair u q b y) (pair v r c z) (0 ∷ 1 ∷ []) (0 ∷ 1 ∷ []) true f g

-- The first was filled and brought to rest, and then its rows went to the other.
pub rested : (t u v : Option Blocks) (p q r : PurseView) (a b c x : LotView) → Writes t u p q a b → Writes u v q r b c → Both t v p r a c x x
rested t u v p q r a b c x f g =
    both_join t u v p q r a b c x x x (first_written t u p q a b x f) (first_written u v q r b c x g)

pub passed : (t u v w : Option Blocks) (p q r s : PurseView) (a b c d x y : LotView) → Writes t u p q a b → Writes u v q r b c → Passes v w c d x y r s → Both t w p s a d x y
passed t u v w p q r s a b c d x y f g h =
    both_join t v w p r s a c d x x y (rested t u v p q r a b c x f g) (both_passed v w r s c d x y h)

-- As many segments as before.
pub two_held : (a x : LotView) → held_count (a ∷ x ∷ []) ≡ length (held a) + length (held x)
two_held a x =
    omega (arith, sum_by-cons (λ (l : LotView). length (held l)) a (x ∷ []), sum_by-cons (λ (l : LotView). length (held l)) x [])

pub both_count : (t u : Option Blocks) (p q : PurseView) (a b x y : LotView) → Both t u p q a b x y → length q.pages + (length (held b) + length (held y)) ≡ length p.pages + (length (held a) + length (held x))
both_count t u p q a b x y both =
    omega (arith, counts_after (pair t p a x) (pair u q b y) (0 ∷ 1 ∷ []) (0 ∷ 1 ∷ []) true both, two_held a x, two_held b y)

pub none_held : (a : LotView) (room reach : ℕ) → a ≡ empty room reach → length (held a) ≡ 0
none_held a room reach is = ap (λ l. length (held l)) is

pub reach_of : (a : LotView) (room reach : ℕ) → a ≡ empty room reach → a.feed.reach ≡ reach
reach_of a room reach is = ap (λ (l : LotView). l.feed.reach) is

pub room_of : (a : LotView) (room reach : ℕ) → a ≡ empty room reach → a.stored.room ≡ room
room_of a room reach is = ap (λ (l : LotView). l.stored.room) is

-- A segment was taken and put back, and both lots, which were empty, were dropped: all segments are in the purse.
pub both_home : (t u v w k : Option Blocks) (o p q r s z : PurseView) (a b c x y d : LotView) (page : SegmentView) (first second : Bool)
    → ((h : ℕ → ℕ → ℕ) → segment_sum h p.pages + segment_sum h (page ∷ []) ≡ segment_sum h o.pages)
    → Both t u p q a b x y → ((h : ℕ → ℕ → ℕ) → segment_sum h r.pages ≡ segment_sum h q.pages + segment_sum h (page ∷ []))
    → Preserves (alone u r b) (alone v s c) (0 ∷ []) (0 ∷ []) first → Preserves (alone w s y) (alone k z d) (0 ∷ []) (0 ∷ []) second
    → held a ≡ [] → held x ≡ [] → held c ≡ [] → held d ≡ [] → (h : ℕ → ℕ → ℕ) → segment_sum h z.pages ≡ segment_sum h o.pages
both_home t u v w k o p q r s z a b c x y d page first second taken both put drop_first drop_second none none_too gone gone_too h =
    omega (
      arith,
      taken h,
      both.segments h,
      put h,
      drop_first.segments h,
      drop_second.segments h,
      one a (x ∷ []),
      one x [],
      one b (y ∷ []),
      one y [],
      one b [],
      one c [],
      one d [],
      ap (segment_sum h) none,
      ap (segment_sum h) none_too,
      ap (segment_sum h) gone,
      ap (segment_sum h) gone_too,
    )
  where
    one : (lot : LotView) (lots : List LotView) → held_sum h (lot ∷ lots) ≡ segment_sum h (held lot) + held_sum h lots
    one lot lots = sum_by-cons (λ (m : LotView). segment_sum h (held m)) lot lots

pub count_one : (t u : Option Blocks) (a b : LotView) (p q : PurseView) (tidy : Bool) → Preserves (alone t p a) (alone u q b) (0 ∷ []) (0 ∷ []) tidy → length q.pages + length (held b) ≡ length p.pages + length (held a)
count_one t u a b p q tidy keeps =
    omega (arith, counts_after (alone t p a) (alone u q b) (0 ∷ []) (0 ∷ []) tidy keeps, sum_by-cons (λ (l : LotView). length (held l)) a [], sum_by-cons (λ (l : LotView). length (held l)) b [])

-- After an answer that isn't a fault the lot that was read is at rest.
pub read_rests : (answer : Result Unit StreamFault) (input out : LotView) → RestsAfter input out answer → OnOk answer (length (held input) ≤ input.stored.room)
read_rests (Ok done) input out rests = rests.read
read_rests (Err fault) input out rests = tt

-- Over a disk that doesn't tell nothing is to be known.
pub if_untold : (t : Option Blocks) (P : Blocks → Type 0) → t ≡ None → IfTold t P
if_untold t P none = subst (λ o. IfTold o P) (sym none) tt

pub taken_count : (p q : List SegmentView) (o : Option SegmentView) (s : SegmentView) → o ≡ Some s → ((h : ℕ → ℕ → ℕ) → segment_sum h q + segment_sum h (option_to_list o) ≡ segment_sum h p) → length q + 1 ≡ length p
taken_count p q o s is segments =
    omega (arith, segments (λ _ _. 1), segment_sum-ones q, segment_sum-ones p, ap (λ x. segment_sum (λ _ _. 1) (option_to_list x)) is, segment_sum-ones (s ∷ []))

pub put_count : (p q : List SegmentView) (s : SegmentView) → q ≡ p ++ s ∷ [] → length q ≡ length p + 1
put_count p q s is = omega (arith, ap length is, length-append p (s ∷ []))

-- A node of a plan keeps the rules.
pub node_keeps : (plan : Plan) (nodes : List Node) (place : ℕ) (node : Node) → nodes ≡ plan.nodes → node ≡ get_or nodes place node → place < length nodes → All (λ n. IsTrue (node_holds plan.nodes n)) plan.nodes → IsTrue (node_holds plan.nodes node)
node_keeps plan nodes place node same is low all =
    subst (λ n. IsTrue (node_holds plan.nodes n)) (sym (is ∙ ap (λ ns. get_or ns place node) same)) (all place node (omega (arith, low, ap length same)))
