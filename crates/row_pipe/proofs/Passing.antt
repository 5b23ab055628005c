-- One lot is read and another is written: what stays, call by call.
use Rattle.std.proofs.Common.{◌≡◌, ◌≢◌, ℕ, zero, suc, ◌+◌, ◌<◌, ◌≤◌, true, List, [], ◌∷◌, length, Option, Some, None, refl, sym, ap, ◌∙◌, subst, arith}
use Rattle.segment_core.specs.Segments.{PurseView, SegmentView}
use Rattle.flow_outside.specs.Blocks.{Blocks, BothTold}
use Rattle.flow_outside.specs.Told.{IfTold}
use Rattle.flow_types.specs.Types.{Fields}
use Rattle.lot_store.specs.LotCalls.{Reads, Writes}
use Rattle.lot_store.specs.Lots.{LotView}
use Rattle.lot_store.specs.Storage.{AreBelow, Differ, IsNoneOf, IsReady, Preserves, Stand, StaysStanding, alone, lot_at, lots_at, pair}
use Rattle.lot_store.proofs.StorageLaws.{preserves_join, preserves_more, preserves_within, ready_after, ready_part, stand_part}
use Rattle.lot_store.proofs.Telling.{told_after}
use Rattle.row_pipe.specs.Pipes.{GivesWithin, HasPlaces, Passes}
use Rattle.row_pipe.specs.declared.work.Work.{Work}

others_of_first : (a b out : LotView) (i : ℕ) (e : LotView) → IsNoneOf i (0 ∷ []) → lot_at (b ∷ out ∷ []) i e ≡ lot_at (a ∷ out ∷ []) i e
others_of_first a b out zero e none = absurd (none.0 refl)
others_of_first a b out (suc i) e none = refl

-- The first lot alone was read, or came to rest with nothing written.
pub pair_read : (t u : Option Blocks) (a b out : LotView) (p q : PurseView) → Reads t u p q a b → Preserves (pair t p a out) (pair u q b out) (0 ∷ []) [] true
pair_read t u a b out p q reads =
    preserves_within (0 ∷ []) (pair t p a out) (pair u q b out) a (tt, tt) (omega arith, tt) refl (others_of_first a b out) (0 ∷ []) [] true reads

pub passes_read : (t u : Option Blocks) (a b out : LotView) (p q : PurseView) → Reads t u p q a b → Passes t u a b out out p q
passes_read t u a b out p q reads =
    preserves_more (pair t p a out) (pair u q b out) (0 ∷ []) [] (0 ∷ 1 ∷ []) (1 ∷ []) true true (λ i none. (none.0, tt)) (λ i none. tt) (λ is. is) (pair_read t u a b out p q reads)

others_of_second : (input a b : LotView) (i : ℕ) (e : LotView) → IsNoneOf i (1 ∷ []) → lot_at (input ∷ b ∷ []) i e ≡ lot_at (input ∷ a ∷ []) i e
others_of_second input a b zero e none = refl
others_of_second input a b (suc zero) e none = absurd (none.0 refl)
others_of_second input a b (suc (suc i)) e none = refl

-- The second lot alone was written.
pub pair_written : (t u : Option Blocks) (input a b : LotView) (p q : PurseView) → Writes t u p q a b → Preserves (pair t p input a) (pair u q input b) (1 ∷ []) (1 ∷ []) true
pair_written t u input a b p q writes =
    preserves_within (1 ∷ []) (pair t p input a) (pair u q input b) a (tt, tt) (omega arith, tt) refl (others_of_second input a b) (0 ∷ []) (0 ∷ []) true writes

pub passes_written : (t u : Option Blocks) (input a b : LotView) (p q : PurseView) → Writes t u p q a b → Passes t u input input a b p q
passes_written t u input a b p q writes =
    preserves_more (pair t p input a) (pair u q input b) (1 ∷ []) (1 ∷ []) (0 ∷ 1 ∷ []) (1 ∷ []) true true (λ i none. none.1) (λ i none. none) (λ is. is) (pair_written t u input a b p q writes)

-- two calls, one after the other
pub passes_join : (t u v : Option Blocks) (a b c x y z : LotView) (p q r : PurseView) → Passes t u a b x y p q → Passes u v b c y z q r → Passes t v a c x z p r
passes_join t u v a b c x y z p q r f g = preserves_join (pair t p a x) (pair u q b y) (pair v r c z) (0 ∷ 1 ∷ []) (1 ∷ []) true f g

-- Where there was a place for what is given of any row, there still is.
pub places_on : (t u : Option Blocks) (fields : Fields) (w : Work) (a b x y : LotView) (p q : PurseView) → Passes t u a b x y p q → IfTold t (HasPlaces fields w a x p.pages) → IfTold u (HasPlaces fields w b y q.pages)
places_on t u fields w a b x y p q passes places =
    told_after t u (HasPlaces fields w a x p.pages) (HasPlaces fields w b y q.pages) (StaysStanding (pair t p a x) (pair u q b y) (1 ∷ []) true)
    (λ m n here stays. record {
      size = here.size;
      stand = stays.stand here.size here.stand;
      within = subst (λ (reach : ℕ). GivesWithin fields w here.size reach) (sym (passes.reach 1 x)) here.within;
    })
    places passes.told

-- Of two lots that stand, each stands beside the purse.
stand_at : (places : List ℕ) (size : ℕ) (p : List SegmentView) (a out d : LotView) (m : Blocks) → Differ places → AreBelow 2 places → Stand size p (a ∷ out ∷ []) m → Stand size p (lots_at (a ∷ out ∷ []) places d) m
stand_at places size p a out d m differ lows s =
    stand_part places (pair None (record { room = 0; pages = p }) a out) (pair None (record { room = 0; pages = p }) a out) d differ lows refl (λ i e none. refl) size m s

pub second_stands : (size : ℕ) (p : List SegmentView) (a out : LotView) (m : Blocks) → Stand size p (a ∷ out ∷ []) m → Stand size p (out ∷ []) m
second_stands size p a out m s = stand_at (1 ∷ []) size p a out a m (tt, tt) (omega arith, tt) s

pub ready_first : (t : Option Blocks) (p : PurseView) (a out : LotView) → IsReady (pair t p a out) → IsReady (alone t p a)
ready_first t p a out ready = ready_part (0 ∷ []) (pair t p a out) a (tt, tt) (omega arith, tt) ready

pub ready_second : (t : Option Blocks) (p : PurseView) (a out : LotView) → IsReady (pair t p a out) → IsReady (alone t p out)
ready_second t p a out ready = ready_part (1 ∷ []) (pair t p a out) a (tt, tt) (omega arith, tt) ready

pub ready_on : (t u : Option Blocks) (a b x y : LotView) (p q : PurseView) → Passes t u a b x y p q → IsReady (pair t p a x) → IsReady (pair u q b y)
ready_on t u a b x y p q passes ready = ready_after (pair t p a x) (pair u q b y) (0 ∷ 1 ∷ []) (1 ∷ []) true passes ready
