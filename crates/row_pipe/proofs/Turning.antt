-- Row after row of a lot is passed on.
use Rattle.std.proofs.Common.{◌≡◌, ℕ, ◌≤◌, Bool, true, false, All, List, [], ◌∷◌, ◌++◌, map, Result, Option, Some, None, refl, sym, ap, ◌∙◌, subst, arith, append_assoc, append-nil}
use Rattle.std.proofs.lemmas.Grind.{flat_map-append}
use Rattle.std.proofs.lemmas.List.{map-append}
use Rattle.std.proofs.lemmas.List.Elements.{All-head, All-tail, filter-append}
use Rattle.segment_core.specs.Segments.{PurseView, SegmentView}
use Rattle.flow_outside.specs.Blocks.{Blocks, BothTold}
use Rattle.flow_outside.specs.Causes.{HasStreamCause, Rose}
use Rattle.flow_outside.specs.Told.{IfTold}
use Rattle.flow_outside.specs.declared.failure.StreamFault.{StreamFault}
use Rattle.flow_types.specs.Tuples.{Tuple}
use Rattle.flow_types.specs.Types.{Fields}
use Rattle.flow_types.specs.Records.{IsTupleOf, form}
use Rattle.flow_model.specs.Env.{Tuples}
use Rattle.flow_model.specs.Rows.{branch_rows, columns_of}
use Rattle.flow_types.specs.Values.{flag_of}
use Rattle.flow_types.specs.Expressions.{val}
use Rattle.paged_view.specs.Streams.{Advances, KnowsRows}
use Rattle.page_feed.specs.Feeds.{HasLeft}
use Rattle.lot_store.specs.LotCalls.{Writes}
use Rattle.lot_store.specs.LotKeeping.{KeepsRows}
use Rattle.lot_store.specs.Lots.{HoldsRows, IsLeft, LotView}
use Rattle.spool.specs.Spilling.{HasWriteCause}
use Rattle.lot_store.specs.Storage.{Preserves, Stand, StaysStanding, pair}
use Rattle.lot_store.proofs.StorageLaws.{left_stays}
use Rattle.lot_store.proofs.Telling.{told_same, untold_before}
use Rattle.row_pipe.specs.Pipes.{AddsRows, GivesAll, GivesRows, GivesShown, GoesThrough, HasPlaces, IsMidway, LeavesTuples, Passes, ShowsTuple}
use Rattle.row_pipe.specs.Works.{piped}
use Rattle.row_pipe.specs.declared.work.Work.{Work}
use Rattle.row_pipe.specs.declared.work.Work.TheVariants as work
use Rattle.row_pipe.proofs.Adding.{adds_join, adds_none}
use Rattle.row_pipe.proofs.Passing.{pair_written}

-- What is given of rows, one list after the other.
pub piped-append : (w : Work) (xs ys : Tuples) → piped w (xs ++ ys) ≡ piped w xs ++ piped w ys
piped-append work.Pass xs ys = refl
piped-append (work.Map columns) xs ys = map-append (columns_of columns) xs ys
piped-append (work.Filter test) xs ys = filter-append (λ t. flag_of (val t test)) xs ys
piped-append (work.FlatMap branches) xs ys = flat_map-append (branch_rows branches) xs ys

pub piped-none : (w : Work) → piped w [] ≡ []
piped-none work.Pass = refl
piped-none (work.Map columns) = refl
piped-none (work.Filter test) = refl
piped-none (work.FlatMap branches) = refl

given_more : (w : Work) (done : Tuples) (t : Tuple) → map form (piped w (done ++ t ∷ [])) ≡ map form (piped w done) ++ map form (piped w (t ∷ []))
given_more w done t = ap (map form) (piped-append w done (t ∷ [])) ∙ map-append form (piped w done) (piped w (t ∷ []))

module _ (fields : Fields) (w : Work) where
  -- Nothing was passed on yet.
  pub goes_none : (t : Option Blocks) (input out : LotView) (p : List SegmentView) → BothTold t t (GoesThrough fields w input input out out p)
  goes_none t input out p =
      told_same t (GoesThrough fields w input input out out p) (λ m size both rows left. record {
        done = [];
        left = rows;
        all = refl;
        behind = left;
        adds = subst (λ xs. AddsRows out out xs m m) (sym (ap (map form) (piped-none w))) (adds_none out m);
      })

  -- The disk is as it was.
  pub goes_at : (t u v : Option Blocks) (a b x y : LotView) (p : List SegmentView) → v ≡ u → BothTold t u (GoesThrough fields w a b x y p) → BothTold t v (GoesThrough fields w a b x y p)
  goes_at t u v a b x y p same goes = subst (λ o. BothTold t o (GoesThrough fields w a b x y p)) (sym same) goes

  -- What is left is known, where the disk tells.
  pub known_now : (t u : Option Blocks) (a b x y : LotView) (p : List SegmentView) → IfTold t (HasPlaces fields w a x p) → IfTold t (λ m. (rows : Tuples) × LeavesTuples fields m a rows)
      → BothTold t u (GoesThrough fields w a b x y p) → KnowsRows u (IsLeft b u)
  known_now None None a b x y p places left goes = tt
  known_now None (Some n) a b x y p places left goes = absurd goes
  known_now (Some m) None a b x y p places left goes = tt
  known_now (Some m) (Some n) a b x y p places (rows, left) goes =
      let mid : IsMidway fields w b x y rows m n = goes places.size places.stand rows left in
      (map form mid.left, mid.behind.records)

  -- The row that is shown is one of the schema.
  shown_of : (m : Blocks) (b : LotView) (shown : Option (List ℕ)) (left : Tuples) (L : List (List ℕ) → Type 0) → All (IsTupleOf fields) left → Advances (map form left) true shown L
      → (t : Tuple) × (IsTupleOf fields t × (shown ≡ Some (form t)))
  shown_of m b shown [] L fit adv = absurd adv
  shown_of m b shown (t ∷ rest) L fit adv = (t, (All-head (IsTupleOf fields) t rest fit, adv.0))

  pub shown_now : (t u : Option Blocks) (a b c x y : LotView) (p : List SegmentView) (L : List (List ℕ) → Type 0) → IfTold t (HasPlaces fields w a x p) → IfTold t (λ m. (rows : Tuples) × LeavesTuples fields m a rows)
      → BothTold t u (GoesThrough fields w a b x y p) → ((rows : List (List ℕ)) → IsLeft b u rows → Advances rows true c.feed.shown L) → IfTold u (λ m. ShowsTuple fields c)
  shown_now None None a b c x y p L places left goes adv = tt
  shown_now None (Some n) a b c x y p L places left goes adv = absurd goes
  shown_now (Some m) None a b c x y p L places left goes adv = tt
  shown_now (Some m) (Some n) a b c x y p L places (rows, left) goes adv =
      let mid : IsMidway fields w b x y rows m n = goes places.size places.stand rows left in
      shown_of n b c.feed.shown mid.left L mid.behind.fitting (adv (map form mid.left) mid.behind.records)

  -- One row more was passed on.
  midway_on : (u v : Option Blocks) (k m n : Blocks) (a b c x y z : LotView) (q r : PurseView) (rows : Tuples) (size : ℕ) (left : Tuples) → Stand size q.pages (c ∷ y ∷ []) m
      → Preserves (pair u q c y) (pair v r c z) (1 ∷ []) (1 ∷ []) true → StaysStanding (pair u q c y) (pair v r c z) (1 ∷ []) true m n
      → (done : Tuples) → rows ≡ done ++ left → All (IsTupleOf fields) left → AddsRows x y (map form (piped w done)) k m
      → Advances (map form left) true c.feed.shown (HasLeft m c.feed) → GivesShown fields w c y z m n → IsMidway fields w c x z rows k n
  midway_on u v k m n a b c x y z q r rows size [] both writes stays done all fit adds adv gives = absurd adv
  midway_on u v k m n a b c x y z q r rows size (t ∷ rest) both writes stays done all fit adds adv gives = record {
    done = done ++ t ∷ [];
    left = rest;
    all = all ∙ sym (append_assoc done (t ∷ []) rest);
    behind = record {
      records = left_stays (pair u q c y) (pair v r c z) (1 ∷ []) (1 ∷ []) true m n size 0 c (map form rest) writes stays both (omega arith) (λ is. omega (arith, is), tt) (λ is. omega (arith, is), tt) adv.1;
      fitting = All-tail (IsTupleOf fields) t rest fit;
    };
    adds = subst (λ xs. AddsRows x z xs k n) (sym (given_more w done t))
        (adds_join x y z (map form (piped w done)) (map form (piped w (t ∷ []))) k m n adds (gives t (All-head (IsTupleOf fields) t rest fit) adv.0));
  }

  pub goes_on : (t u v : Option Blocks) (a b c x y z : LotView) (p q r : PurseView) → BothTold t u (GoesThrough fields w a b x y p.pages)
      → Passes t u a c x y p q → ((rows : List (List ℕ)) → IsLeft b u rows → Advances rows true c.feed.shown (IsLeft c u))
      → Writes u v q r y z → BothTold u v (GivesShown fields w c y z) → BothTold t v (GoesThrough fields w a c x z p.pages)
  goes_on None None None a b c x y z p q r goes passes adv writes gives = tt
  goes_on None None (Some n) a b c x y z p q r goes passes adv writes gives = gives
  goes_on None (Some m) v a b c x y z p q r goes passes adv writes gives = absurd goes
  goes_on (Some k) None v a b c x y z p q r goes passes adv writes gives = absurd goes
  goes_on (Some k) (Some m) None a b c x y z p q r goes passes adv writes gives = gives
  goes_on (Some k) (Some m) (Some n) a b c x y z p q r goes passes adv writes gives = λ size both rows left.
      let mid : IsMidway fields w b x y rows k m = goes size both rows left in
      let pair_writes = pair_written (Some m) (Some n) c y z q r writes in
      midway_on (Some m) (Some n) k m n a b c x y z q r rows size mid.left (passes.told.stand size both) pair_writes pair_writes.told mid.done mid.all mid.behind.fitting mid.adds (adv (map form mid.left) mid.behind.records) gives

  -- No row is left.
  all_done : (k m : Blocks) (x y : LotView) (rows done left : Tuples) (shown : Option (List ℕ)) (L : List (List ℕ) → Type 0) → rows ≡ done ++ left → AddsRows x y (map form (piped w done)) k m
      → Advances (map form left) false shown L → AddsRows x y (map form (piped w rows)) k m
  all_done k m x y rows done [] shown L all adds adv = subst (λ ts. AddsRows x y (map form (piped w ts)) k m) (sym (all ∙ append-nil done)) adds
  all_done k m x y rows done (t ∷ rest) shown L all adds adv = absurd adv

  pub gives_end : (t u : Option Blocks) (a b x y : LotView) (p : List SegmentView) (shown : Option (List ℕ)) (L : List (List ℕ) → Type 0) → BothTold t u (GoesThrough fields w a b x y p)
      → ((rows : List (List ℕ)) → IsLeft b u rows → Advances rows false shown L) → BothTold t u (GivesAll fields w a x y p)
  gives_end None None a b x y p shown L goes adv = tt
  gives_end None (Some n) a b x y p shown L goes adv = goes
  gives_end (Some m) None a b x y p shown L goes adv = goes
  gives_end (Some m) (Some n) a b x y p shown L goes adv = λ size both rows left.
      let mid : IsMidway fields w b x y rows m n = goes size both rows left in
      all_done m n x y rows mid.done mid.left shown L mid.all mid.adds (adv (map form mid.left) mid.behind.records)

  -- From a lot at rest to both lots at rest.
  pub gives_rows : (t u v : Option Blocks) (a b x y z : LotView) (p q : PurseView) → IfTold t (HasPlaces fields w a x p.pages)
      → IfTold t (λ m. (rows : List (List ℕ)) → HoldsRows m a rows → HasLeft m b.feed rows)
      → Passes t t a b x x p q → BothTold t u (GivesAll fields w b x y q.pages) → BothTold u v (KeepsRows y z)
      → BothTold t v (GivesRows fields w a x z)
  gives_rows None None None a b x y z p q places begun passes gives keeps = tt
  gives_rows None None (Some n) a b x y z p q places begun passes gives keeps = keeps
  gives_rows None (Some m) v a b x y z p q places begun passes gives keeps = absurd gives
  gives_rows (Some k) None v a b x y z p q places begun passes gives keeps = absurd gives
  gives_rows (Some k) (Some m) None a b x y z p q places begun passes gives keeps = keeps
  gives_rows (Some k) (Some m) (Some n) a b x y z p q places begun passes gives keeps = λ rows others holds had.
      keeps (others ++ map form (piped w rows))
      (gives places.size (passes.told.stand places.size places.stand) rows (record { records = begun (map form rows) holds.records; fitting = holds.fitting }) others had)

-- what an advance says, of a disk that is as it was
pub advances_at : (t u : Option Blocks) (a b : LotView) (more is : Bool) → u ≡ t → more ≡ is → ((rows : List (List ℕ)) → IsLeft a t rows → Advances rows more b.feed.shown (IsLeft b u))
    → (rows : List (List ℕ)) → IsLeft a u rows → Advances rows is b.feed.shown (IsLeft b u)
advances_at t u a b more is same test adv rows left =
    subst (λ (answer : Bool). Advances rows answer b.feed.shown (IsLeft b u)) test (adv rows (subst (λ o. IsLeft a o rows) same left))

-- a call that writes has a cause as one that reads
pub cause_of : {T : Type 0} (before now : ℕ) (t : Option Blocks) (answer : Result T StreamFault) → HasWriteCause before now answer → HasStreamCause before now t answer
cause_of before now t answer cause = record {
  later = cause.later;
  spill = cause.spill;
  damaged = λ block is. absurd (cause.damaged block is);
}

rose_before : (a b c : ℕ) → a ≤ b → Rose b c → Rose a c
rose_before a b c less rose = omega (arith, less, rose)

-- the cause of a later call
pub cause_later : {T : Type 0} (a b c : ℕ) (t u : Option Blocks) (answer : Result T StreamFault) (P : Blocks → Blocks → Type 0) → a ≤ b → BothTold t u P → HasStreamCause b c u answer → HasStreamCause a c t answer
cause_later a b c t u answer P less told cause = record {
  later = omega (arith, less, cause.later);
  spill = λ is. rose_before a b c less (cause.spill is);
  damaged = λ block is. untold_before t u P told (cause.damaged block is);
}
