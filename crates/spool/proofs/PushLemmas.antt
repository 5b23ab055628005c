-- What a push makes of a writer's run.
use Rattle.std.proofs.Common.{◌≡◌, ◌≢◌, inl, inr, ℕ, suc, Result, Ok, Err, OnErr, ◌+◌, List, length, Option, Some, None, sym, ap, ◌∙◌, subst, add-one, zero-add}
use Rattle.flow_outside.specs.Blocks.{Blocks, BothTold, IsLive}
use Rattle.flow_outside.specs.Told.{IfTold}
use Rattle.spool.specs.Headers.{next_of, IsSound}
use Rattle.spool.specs.Runs.{pages_at, end_at, HasBlock, Stands, IsRun, IsWritten}
use Rattle.spool.specs.Changes.{IsAppended, IsKept, IsPushed, LeavesOpen}
use Rattle.spool.specs.declared.run.Run.{Run}
use Rattle.spool.specs.declared.writer.RunWriter.{RunWriter}
use Rattle.spool.proofs.ChainLemmas.{Longer, SameChain, chain_more, chain_open, chain_lives, end_is_block, same_chain, stands_kept}

-- The page that was put behind a writer's run is one of it.
pub pushed : (m n : Blocks) (size : ℕ) (before after : RunWriter) (page : List ℕ)
    → after.first ≡ before.first
    → after.pages ≡ before.pages + 1
    → length page ≡ size
    → IsSound before.pages page
    → next_of page ≡ after.end
    → IsAppended before.end after.end page m n
    → IsWritten m size before
    → IsPushed size before after page m n
pushed m n size before after page first pages sized sound names change written =
    let longer : Longer m n size 0 before.first before.pages page after.end =
    chain_more m n size 0 before.first before.pages before.end after.end before.pages page written.stands written.behind change sized (sym (zero-add before.pages)) sound names in
    let more : suc before.pages ≡ after.pages = sym (add-one before.pages) ∙ sym pages in
    let one : before.first ≡ after.first = sym first in
    record {
      written = record {
        stands = subst (λ k. Stands n size 0 after.first k) more (subst (λ b. Stands n size 0 b (suc before.pages)) one longer.stands);
        behind = ap (λ b. end_at n b after.pages) first ∙ ap (end_at n before.first) (sym more) ∙ longer.behind;
      };
      pages = ap (λ b. pages_at n b after.pages) first ∙ ap (pages_at n before.first) (sym more) ∙ longer.pages;
      blocks = λ k h. longer.blocks k (subst (λ c. HasBlock n before.first c k) (sym more) (subst (λ b. HasBlock n b after.pages k) first h));
    }

-- The same of a disk that may tell.
pub pushed_told : (t u : Option Blocks) (size : ℕ) (before after : RunWriter) (page : List ℕ)
    → after.first ≡ before.first
    → after.pages ≡ before.pages + 1
    → length page ≡ size
    → IsSound before.pages page
    → next_of page ≡ after.end
    → BothTold t u (IsAppended before.end after.end page)
    → BothTold t u (λ old new. IsWritten old size before → IsPushed size before after page old new)
pushed_told None None size before after page first pages sized sound names change = tt
pushed_told None (Some n) size before after page first pages sized sound names change = change
pushed_told (Some m) None size before after page first pages sized sound names change = change
pushed_told (Some m) (Some n) size before after page first pages sized sound names change =
    pushed m n size before after page first pages sized sound names change

-- After a push that failed a writer's run stands as it did.
pub kept : (m n : Blocks) (size : ℕ) (writer : RunWriter) → LeavesOpen writer.end m n → IsWritten m size writer → IsKept size writer m n
kept m n size writer change written =
    let all = chain_open m n size 0 writer.first writer.pages writer.end written.stands written.behind change in
    let chain : SameChain m n writer.first writer.pages = all.1 in
    record {
      written = record { stands = all.0; behind = chain.behind ∙ written.behind };
      pages = chain.pages;
      blocks = λ k. (chain.had k, chain.has k);
    }

-- The same of a disk that may tell.
pub kept_told : (t u : Option Blocks) (writer : RunWriter)
    → BothTold t u (LeavesOpen writer.end)
    → BothTold t u (λ old new. (size : ℕ) → IsWritten old size writer → IsKept size writer old new)
kept_told None None writer change = tt
kept_told None (Some n) writer change = change
kept_told (Some m) None writer change = change
kept_told (Some m) (Some n) writer change = λ size written. kept m n size writer change written

-- Whoever else's block was live before a push is as it was, and isn't the run's afterwards either.
pub push_leaves : (m n : Blocks) (size : ℕ) (before after : RunWriter) (page : List ℕ)
    → IsWritten m size before
    → IsAppended before.end after.end page m n
    → IsPushed size before after page m n
    → (k : ℕ) → IsLive m k → (HasBlock m before.first before.pages k → ⊥)
    → (n k ≡ m k) × (HasBlock n after.first after.pages k → ⊥)
push_leaves m n size before after page written change more k live others =
    let not_next : k ≢ after.end = λ is. live (ap m is ∙ change.fresh) in
    let not_end : k ≢ before.end =
    λ is. others (subst (HasBlock m before.first before.pages) (written.behind ∙ sym is) (end_is_block m before.first before.pages)) in (
      change.others k not_end not_next,
      (λ h. elim (more.blocks k h) [ inl had ↦ others had | inr is ↦ not_next is ]),
    )

-- The same of a push that failed.
pub open_leaves : (m n : Blocks) (size : ℕ) (writer : RunWriter)
    → IsWritten m size writer
    → LeavesOpen writer.end m n
    → (k : ℕ) → (HasBlock m writer.first writer.pages k → ⊥)
    → (n k ≡ m k) × (HasBlock n writer.first writer.pages k → ⊥)
open_leaves m n size writer written change k others =
    let all = kept m n size writer change written in (
      change.others k (λ is. others (subst (HasBlock m writer.first writer.pages) (written.behind ∙ sym is) (end_is_block m writer.first writer.pages))),
      (λ h. others ((all.blocks k).0 h)),
    )

-- A run whose blocks all stand goes on standing, with the same pages in the same blocks.
pub run_stays : (m n : Blocks) (size : ℕ) (run : Run) → ((k : ℕ) → HasBlock m run.first run.pages k → n k ≡ m k) → IsRun m size run
    → IsRun n size run × SameChain m n run.first run.pages
run_stays m n size run same stands =
    (stands_kept m n size 0 run.first run.pages same stands, same_chain m n run.first run.pages same)

-- So does a writer's run.
pub writer_stays : (m n : Blocks) (size : ℕ) (writer : RunWriter) → ((k : ℕ) → HasBlock m writer.first writer.pages k → n k ≡ m k) → IsWritten m size writer → IsKept size writer m n
writer_stays m n size writer same written =
    let chain : SameChain m n writer.first writer.pages = same_chain m n writer.first writer.pages same in
    record {
      written = record {
        stands = stands_kept m n size 0 writer.first writer.pages same written.stands;
        behind = chain.behind ∙ written.behind;
      };
      pages = chain.pages;
      blocks = λ k. (chain.had k, chain.has k);
    }

-- What follows an error, of an answer that is one.
pub on_err : {T F : Type 0} (answer : Result T F) (P : Type 0) → P → OnErr answer P
on_err (Ok value) P p = tt
on_err (Err fault) P p = p

-- The block behind a writer's run is live, so the next page may be put there.
pub end_lives : (m : Blocks) (size : ℕ) (writer : RunWriter) → IsWritten m size writer → IsLive m writer.end
end_lives m size writer written =
    subst (IsLive m) written.behind
    (chain_lives m size 0 writer.first writer.pages written.stands (end_at m writer.first writer.pages) (end_is_block m writer.first writer.pages))

pub end_lives_told : (t : Option Blocks) (size : ℕ) (writer : RunWriter) → IfTold t (λ m. IsWritten m size writer) → IfTold t (λ m. IsLive m writer.end)
end_lives_told None size writer written = tt
end_lives_told (Some m) size writer written = end_lives m size writer written

-- After a push a writer's run stands.
pub written_told : (t u : Option Blocks) (size : ℕ) (before after : RunWriter) (page : List ℕ)
    → IfTold t (λ m. IsWritten m size before)
    → BothTold t u (λ old new. IsWritten old size before → IsPushed size before after page old new)
    → IfTold u (λ m. IsWritten m size after)
written_told None None size before after page written more = tt
written_told None (Some n) size before after page written more = absurd more
written_told (Some m) None size before after page written more = tt
written_told (Some m) (Some n) size before after page written more = (more written).written

-- The run that a writer is closed as stands.
pub closed_told : (t : Option Blocks) (size : ℕ) (writer : RunWriter) → IfTold t (λ m. IsWritten m size writer) → IfTold t (λ m. IsRun m size (record { first = writer.first; pages = writer.pages }))
closed_told None size writer written = tt
closed_told (Some m) size writer written = written.stands
