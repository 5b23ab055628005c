-- Records that are counted one by one.
use Rattle.std.proofs.Common.{◌≡◌, ℕ, ◌+◌, ◌-◌, ◌^◌, ◌≤◌, true, false, List, [], ◌∷◌, length, min, Result, Ok, Err, IfOk, Option, Some, None, sym, ap, subst, arith, length-append}
use Rattle.segment_core.specs.Segments.{PurseView}
use Rattle.flow_outside.specs.Blocks.{Blocks}
use Rattle.flow_outside.specs.Told.{IfTold}
use Rattle.page_feed.specs.Feeds.{HasLeft, lent}
use Rattle.paged_view.specs.Streams.{Advances, KnowsRows}
use Rattle.lot_store.specs.LotCalls.{Reads}
use Rattle.lot_store.specs.Lots.{HoldsRows, IsLeft, LotView, held, pages_of}
use Rattle.lot_store.specs.Rows.{IsWhole, rows_in}
use Rattle.lot_store.specs.Storage.{alone}
use Rattle.lot_store.specs.Stores.{held as held_stored}
use Rattle.lot_store.proofs.StorageLaws.{preserves_join, preserves_more, preserves_none}
use Rattle.worker_storage.specs.Storages.{row_count}

-- Of the records that were left, so many were counted, and the others are left.
pub record IsCounted (count : ℕ) (rows : List (List ℕ)) (left : List (List ℕ) → Type 0) : Type 0 where
  pub others : List (List ℕ)
  pub behind : left others
  pub done : ℕ
  pub all : length rows ≡ done + length others
  pub counted : count ≡ min done (2 ^ 64 - 1)

pub counted_none : (rows : List (List ℕ)) (left : List (List ℕ) → Type 0) → left rows → IsCounted 0 rows left
counted_none rows left behind = record {
  others = rows;
  behind = behind;
  done = 0;
  all = omega arith;
  counted = omega arith;
}

pub counted_one : (count now : ℕ) (rows : List (List ℕ)) (left left_now : List (List ℕ) → Type 0) (shown : Option (List ℕ)) → now ≡ min (count + 1) (2 ^ 64 - 1)
    → ((others : List (List ℕ)) → left others → Advances others true shown left_now) → IsCounted count rows left → IsCounted now rows left_now
counted_one count now rows left left_now shown more advances was = go was.others was.behind was.all
  where
    go : (others : List (List ℕ)) → left others → length rows ≡ was.done + length others → IsCounted now rows left_now
    go [] behind all = absurd (advances [] behind)
    go (row ∷ others) behind all = record {
      others = others;
      behind = (advances (row ∷ others) behind).1;
      done = was.done + 1;
      all = omega (arith, all);
      counted = omega (arith, more, was.counted);
    }

pub counted_all : (count : ℕ) (rows : List (List ℕ)) (left left_now : List (List ℕ) → Type 0) (shown : Option (List ℕ))
    → ((others : List (List ℕ)) → left others → Advances others false shown left_now) → IsCounted count rows left → count ≡ row_count rows
counted_all count rows left left_now shown advances was = go was.others was.behind was.all
  where
    go : (others : List (List ℕ)) → left others → length rows ≡ was.done + length others → count ≡ row_count rows
    go [] behind all = omega (arith, all, was.counted)
    go (row ∷ others) behind all = absurd (advances (row ∷ others) behind)

-- What is left is known, one record further.
pub known_one : (t u : Option Blocks) (a b : LotView) (shown : Option (List ℕ)) → u ≡ t → KnowsRows t (IsLeft a t)
    → ((rows : List (List ℕ)) → IsLeft a t rows → Advances rows true shown (IsLeft b u)) → KnowsRows u (IsLeft b u)
known_one t u a b shown same known advances =
    subst (λ o. KnowsRows o (IsLeft b o)) (sym same) (at_one t known (subst (λ o. (rows : List (List ℕ)) → IsLeft a t rows → Advances rows true shown (IsLeft b o)) same advances))
  where
    here : (m : Blocks) (rows : List (List ℕ)) → IsLeft a (Some m) rows → ((others : List (List ℕ)) → IsLeft a (Some m) others → Advances others true shown (IsLeft b (Some m))) → KnowsRows (Some m) (IsLeft b (Some m))
    here m [] left steps = absurd (steps [] left)
    here m (row ∷ rows) left steps = (rows, (steps (row ∷ rows) left).1)

    at_one : (o : Option Blocks) → KnowsRows o (IsLeft a o) → ((rows : List (List ℕ)) → IsLeft a o rows → Advances rows true shown (IsLeft b o)) → KnowsRows o (IsLeft b o)
    at_one None k steps = tt
    at_one (Some m) (rows, left) steps = here m rows left steps

-- What is left where a whole lot begins to be read.
pub known_first : (t u : Option Blocks) (a b : LotView) → u ≡ t → IfTold t (λ m. (rows : List (List ℕ)) → HoldsRows m a rows → HasLeft m b.feed rows)
    → IfTold t (λ m. IsWhole m a) → KnowsRows u (IsLeft b u)
known_first t u a b same begun whole = subst (λ o. KnowsRows o (IsLeft b o)) (sym same) (at_one t begun whole)
  where
    at_one : (o : Option Blocks) → IfTold o (λ m. (rows : List (List ℕ)) → HoldsRows m a rows → HasLeft m b.feed rows) → IfTold o (λ m. IsWhole m a) → KnowsRows o (IsLeft b o)
    at_one None f w = tt
    at_one (Some m) f w = (rows_in m a, f (rows_in m a) w)

-- So many are left as it has.
pub count_whole : {E : Type 0} (answer : Result ℕ E) (t u : Option Blocks) (a b : LotView) → u ≡ t → IfTold t (λ m. (rows : List (List ℕ)) → HoldsRows m a rows → HasLeft m b.feed rows)
    → IfTold t (λ m. IsWhole m a) → IfOk answer (λ count. (rows : List (List ℕ)) → IsLeft b u rows → count ≡ row_count rows)
    → IfOk answer (λ count. IfTold t (λ m. count ≡ row_count (rows_in m a)))
count_whole (Err wrong) t u a b same begun whole counted = tt
count_whole (Ok count) t u a b same begun whole counted =
    at_one t begun whole (subst (λ o. (rows : List (List ℕ)) → IsLeft b o rows → count ≡ row_count rows) same counted)
  where
    at_one : (o : Option Blocks) → IfTold o (λ m. (rows : List (List ℕ)) → HoldsRows m a rows → HasLeft m b.feed rows) → IfTold o (λ m. IsWhole m a) → ((rows : List (List ℕ)) → IsLeft b o rows → count ≡ row_count rows) → IfTold o (λ m. count ≡ row_count (rows_in m a))
    at_one None f w c = tt
    at_one (Some m) f w c = c (rows_in m a) (f (rows_in m a) w)

-- A lot is read in several calls, one after the other.
pub reads_nothing : (t : Option Blocks) (p : PurseView) (a : LotView) → Reads t t p p a a
reads_nothing t p a =
    preserves_more (alone t p a) (alone t p a) [] [] (0 ∷ []) [] true true (λ i none. tt) (λ i none. none) (λ is. is) (preserves_none (alone t p a))

pub reads_on : (t u v : Option Blocks) (p q r : PurseView) (a b c : LotView) → Reads t u p q a b → Reads u v q r b c → Reads t v p r a c
reads_on t u v p q r a b c first next = preserves_join (alone t p a) (alone u q b) (alone v r c) (0 ∷ []) [] true first next

-- A lot that rested and was read holds no more than its room beside the segments for reading.
pub fits_read : (t u : Option Blocks) (p q : PurseView) (a b : LotView) → Reads t u p q a b → length (held a) ≤ a.stored.room → length (held b) ≤ b.stored.room + length (lent b.feed)
fits_read t u p q a b reads rests =
    omega (arith, rests, reads.rooms 0 a, same, length-append (held_stored (pages_of a)) (lent a.feed), length-append (held_stored (pages_of b)) (lent b.feed))
  where
    same : length (held_stored (pages_of b)) ≡ length (held_stored (pages_of a))
    same = ap (λ s. length (held_stored s)) (reads.pages 0 a tt)
