-- How often a block is one of a run's.
use Rattle.std.proofs.Common.{◌≡◌, ◌≢◌, ◌⊎◌, inl, inr, ◌==◌, ℕ, zero, suc, ◌+◌, ◌<◌, ◌≤◌, cond, All, List, [], ◌∷◌, length, Option, Some, None, refl, sym, ap, ◌∙◌, subst, arith, count_by, map, ◌-◌, ◌++◌}
use Rattle.std.proofs.lemmas.Bool.{cases_eq}
use Rattle.std.proofs.lemmas.Bool.Decides.{nat_tests}
use Rattle.std.proofs.lemmas.List.Sums.{sum_by-cons}
use Rattle.paged_view.specs.Pages.{used_bytes, all_used_bytes}
use Rattle.flow_outside.specs.Blocks.{Blocks, IsLive}
use Rattle.spool.specs.Changes.{IsKept}
use Rattle.spool.specs.Headers.{as_page, next_of}
use Rattle.spool.specs.Reading.{number_at}
use Rattle.spool.specs.Runs.{HasBlock, Stands, bytes_of, joined, next_in}
use Rattle.spool.specs.declared.place.RunReader.{RunReader}
use Rattle.spool.specs.declared.writer.RunWriter.{RunWriter}
use Rattle.spool.proofs.ChainLemmas.{SameChain, chain_lives, same_chain, stands_kept}
use Rattle.spool.proofs.PushLemmas.{writer_stays}
use Rattle.page_feed.specs.Feeds.{FeedView, HasBlockLeft, HasLeft, IsLeftReadable, pages_left}
use Rattle.page_feed.specs.Reach.{IsWithinReach, behind, sizes_of}
use Rattle.spool.specs.Spilling.{IsSpilled, OwnsBlock, spilled}
use Rattle.lot_store.specs.Lots.{LotView, pages_of, text}
use Rattle.lot_store.specs.LotKeeping.{KeepsRows}
use Rattle.lot_store.specs.Storage.{StandsAt, blocks_at, lot_at, owners, run_blocks, times_in}
use Rattle.lot_store.proofs.StorageSums.{some_above}

-- how often a block is one of a run's
abbrev pub times_of : Blocks → (block : ℕ) → Option RunWriter → ℕ
times_of m block run = count_by (λ b. b == block) (run_blocks m run)

abbrev one_if : ℕ → ℕ → ℕ
one_if a b = cond (a == b) 1 0

if_same : (a b : ℕ) → a ≡ b → one_if a b ≡ 1
if_same a b is = grind (arith, nat_tests)

if_other : (a b : ℕ) → a ≢ b → one_if a b ≡ 0
if_other a b far = grind (arith, nat_tests)

times_more : (m : Blocks) (at count block : ℕ) → count_by (λ b. b == block) (blocks_at m at (suc count)) ≡ one_if at block + count_by (λ b. b == block) (blocks_at m (next_in m at) count)
times_more m at count block = sum_by-cons (λ (b : ℕ). cond (b == block) 1 0) at (blocks_at m (next_in m at) count)

times_end : (m : Blocks) (at block : ℕ) → count_by (λ b. b == block) (blocks_at m at zero) ≡ one_if at block + 0
times_end m at block = sum_by-cons (λ (b : ℕ). cond (b == block) 1 0) at []

chain_counts : (m : Blocks) (at count block : ℕ) → HasBlock m at count block → 0 < count_by (λ b. b == block) (blocks_at m at count)
chain_counts m at zero block is = omega (arith, times_end m at block, if_same at block (sym is))
chain_counts m at (suc count) block (inl is) = omega (arith, times_more m at count block, if_same at block (sym is))
chain_counts m at (suc count) block (inr behind) = omega (arith, times_more m at count block, chain_counts m (next_in m at) count block behind)

counts_chain : (m : Blocks) (at count block : ℕ) → 0 < count_by (λ b. b == block) (blocks_at m at count) → HasBlock m at count block
counts_chain m at zero block above = elim (cases_eq at block) [
  | inl is ↦ sym is
  | inr far ↦ absurd (omega (arith, above, times_end m at block, if_other at block far))
]
counts_chain m at (suc count) block above = elim (cases_eq at block) [
  | inl is ↦ inl (sym is)
  | inr far ↦ inr (counts_chain m (next_in m at) count block (omega (arith, above, times_more m at count block, if_other at block far)))
]

-- A chain that stands has each of its blocks once.
chain_once : (m : Blocks) (size number at count block : ℕ) → Stands m size number at count → count_by (λ b. b == block) (blocks_at m at count) ≤ 1
chain_once m size number at zero block stands = elim (cases_eq at block) [
  | inl is ↦ omega (arith, times_end m at block, if_same at block is)
  | inr far ↦ omega (arith, times_end m at block, if_other at block far)
]
chain_once m size number at (suc count) block (first, rest) = elim (cases_eq at block) [
  | inl is ↦ elim (cases_none (count_by (λ b. b == block) (blocks_at m (next_in m at) count))) [
    | inl none ↦ omega (arith, times_more m at count block, if_same at block is, none)
    | inr more ↦ absurd (first.apart (subst (HasBlock m (next_in m at) count) (sym is) (counts_chain m (next_in m at) count block more)))
  ]
  | inr far ↦ omega (arith, times_more m at count block, if_other at block far, chain_once m size (number + 1) (next_in m at) count block rest)
]
  where
    cases_none : (n : ℕ) → (n ≡ 0) ⊎ (0 < n)
    cases_none zero = inl refl
    cases_none (suc n) = inr (omega arith)

same_blocks : (m n : Blocks) (at count : ℕ) → ((k : ℕ) → HasBlock m at count k → n k ≡ m k) → blocks_at n at count ≡ blocks_at m at count
same_blocks m n at zero same = refl
same_blocks m n at (suc count) same =
    let next : next_in n at ≡ next_in m at = ap (λ b. next_of (bytes_of b)) (same at (inl refl)) in
    ap (λ bs. at ∷ bs) (ap (λ b. blocks_at n b count) next ∙ same_blocks m n (next_in m at) count (λ k h. same k (inr h)))

-- The same of a run.
pub counts_own : (m : Blocks) (block : ℕ) (run : Option RunWriter) → OwnsBlock m run block → 0 < times_of m block run
counts_own m block None own = absurd own
counts_own m block (Some run) own = chain_counts m run.first run.pages block own

pub owns_counted : (m : Blocks) (block : ℕ) (run : Option RunWriter) → 0 < times_of m block run → OwnsBlock m run block
owns_counted m block None above = absurd (omega (arith, above))
owns_counted m block (Some run) above = counts_chain m run.first run.pages block above

pub counts_once : (m : Blocks) (size block : ℕ) (run : Option RunWriter) → IsSpilled m size run → times_of m block run ≤ 1
counts_once m size block None stands = omega arith
counts_once m size block (Some run) stands = chain_once m size 0 run.first run.pages block stands.stands

pub same_times : (m n : Blocks) (block : ℕ) (run : Option RunWriter) → ((k : ℕ) → 0 < times_of m k run → n k ≡ m k) → times_of n block run ≡ times_of m block run
same_times m n block None same = refl
same_times m n block (Some run) same =
    ap (count_by (λ b. b == block)) (same_blocks m n run.first run.pages (λ k h. same k (chain_counts m run.first run.pages k h)))

pub own_lives : (m : Blocks) (size block : ℕ) (run : Option RunWriter) → IsSpilled m size run → OwnsBlock m run block → IsLive m block
own_lives m size block None stands own = absurd own
own_lives m size block (Some run) stands own = chain_lives m size 0 run.first run.pages stands.stands block own

-- A block of some lot of a list that stands is live.
pub owned_lives : (m : Blocks) (size block : ℕ) (lots : List LotView) (d : LotView) → All (StandsAt size m) lots → 0 < owners m block lots → IsLive m block
owned_lives m size block lots d each above =
    let some = some_above (times_in m block) lots d above in
    own_lives m size block (lot_at lots some.0 d).stored.run (each some.0 d some.1).spilled (owns_counted m block (lot_at lots some.0 d).stored.run some.2)

-- A run whose blocks are as they were stands as it did.
record IsKeptRun (size : ℕ) (run : Option RunWriter) (old new : Blocks) : Type 0 where
  pub stands : IsSpilled new size run
  pub same : spilled new run ≡ spilled old run
  pub owns : (block : ℕ) → OwnsBlock old run block → OwnsBlock new run block

kept_run : (m n : Blocks) (size : ℕ) (run : Option RunWriter) → IsSpilled m size run → ((k : ℕ) → OwnsBlock m run k → n k ≡ m k) → IsKeptRun size run m n
kept_run m n size None stands same = record { stands = tt; same = refl; owns = λ k own. own }
kept_run m n size (Some writer) stands same =
    let kept : IsKept size writer m n = writer_stays m n size writer same stands in
    record { stands = kept.written; same = kept.pages; owns = λ k own. (kept.blocks k).1 own }

-- What is left of a run whose blocks are as they were is left as it was.
record IsKeptLeft (run : Option RunReader) (old new : Blocks) : Type 0 where
  pub pages : pages_left new run ≡ pages_left old run
  pub readable : (size : ℕ) → IsLeftReadable old size run → IsLeftReadable new size run
  pub had : (block : ℕ) → HasBlockLeft new run block → HasBlockLeft old run block

kept_left : (m n : Blocks) (run : Option RunReader) → ((block : ℕ) → HasBlockLeft m run block → n block ≡ m block) → IsKeptLeft run m n
kept_left m n None same = record { pages = refl; readable = λ size h. h; had = λ block h. h }
kept_left m n (Some reader) same =
    let chain : SameChain m n reader.at reader.left = same_chain m n reader.at reader.left same in
    record {
      pages = chain.pages;
      readable = λ size h. stands_kept m n size (number_at reader) reader.at reader.left same h;
      had = chain.had;
    }

left_kept : (m n : Blocks) (f : FeedView) (rows : List (List ℕ)) → IsKeptLeft f.run m n → HasLeft m f rows → HasLeft n f rows
left_kept m n f rows kept left = record {
  size = left.size;
  sized = left.sized;
  run = kept.readable left.size left.run;
  text = ap (λ ps. f.reader.text ++ (all_used_bytes f.ahead ++ (joined ps ++ all_used_bytes f.open_page))) kept.pages ∙ left.text;
  lengths = left.lengths;
  reach = subst (λ ps. IsWithinReach f.reach (behind (length (all_used_bytes f.reader.pages) - length f.reader.text) (sizes_of f.reader.pages ++ (sizes_of f.ahead ++ (map (λ page. length (used_bytes (as_page page))) ps ++ sizes_of f.open_page)))) rows) (sym kept.pages) left.reach;
}

-- A lot whose blocks are as they were stands as it did, for the same bytes and records, and has the same records left to be
-- read.
pub record IsKeptLot (size : ℕ) (lot : LotView) (old new : Blocks) : Type 0 where
  pub stands : StandsAt size new lot
  pub same : text new lot ≡ text old lot
  pub holds : KeepsRows lot lot old new
  pub left : (rows : List (List ℕ)) → HasLeft old lot.feed rows → HasLeft new lot.feed rows

pub kept_lot : (m n : Blocks) (size : ℕ) (lot : LotView) → StandsAt size m lot → ((block : ℕ) → 0 < times_in m block lot → n block ≡ m block) → IsKeptLot size lot m n
kept_lot m n size lot s counted =
    let own = λ (k : ℕ) (h : OwnsBlock m lot.stored.run k). counted k (counts_own m k lot.stored.run h) in
    let run : IsKeptRun size lot.stored.run m n = kept_run m n size lot.stored.run s.spilled own in
    let left : IsKeptLeft lot.feed.run m n = kept_left m n lot.feed.run (λ block h. own block (s.reads block h)) in
    let same : text n lot ≡ text m lot = ap (λ pages. all_used_bytes (pages_of lot).kept ++ (joined pages ++ all_used_bytes (pages_of lot).open_page)) run.same in
    record {
      stands = record {
        spilled = run.stands;
        reads = λ block h. run.owns block (s.reads block (left.had block h));
      };
      same = same;
      holds = λ rows holds. record {
        bytes = same ∙ holds.bytes;
        lengths = holds.lengths;
        reach = subst (λ pages. IsWithinReach lot.feed.reach ((sizes_of (pages_of lot).kept ++ map (λ page. length (used_bytes (as_page page))) pages) ++ sizes_of (pages_of lot).open_page) rows) (sym run.same) holds.reach;
      };
      left = λ rows h. left_kept m n lot.feed rows left h;
    }
