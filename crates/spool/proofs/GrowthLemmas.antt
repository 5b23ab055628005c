-- A run keeps its blocks while it grows, and gets those that became live.
use Rattle.std.proofs.Common.{◌≡◌, ◌≢◌, inl, inr, ℕ, zero, suc, ◌+◌, List, Some, None, sym, ap, ◌∙◌, subst, add-one}
use Rattle.std.proofs.lemmas.Bool.{cases_eq}
use Rattle.flow_outside.specs.Blocks.{Blocks, Becomes, IsGiven}
use Rattle.spool.specs.Headers.{next_of}
use Rattle.spool.specs.Runs.{bytes_of, next_in, end_at, HasBlock, IsWritten, Stands}
use Rattle.spool.specs.Changes.{IsAppended, IsKept, IsPushed, LeavesOpen}
use Rattle.spool.specs.declared.writer.RunWriter.{RunWriter}
use Rattle.spool.proofs.ChainLemmas.{end_is_block, first_not_end, holder_lives}
use Rattle.spool.proofs.PushLemmas.{end_lives}
use Rattle.spool.specs.Spilling.{NoOrphanBlocks}

-- A chain that got a page more has the blocks that it had.
chain_has : (m n : Blocks) (size number at count end next : ℕ) (page : List ℕ)
    → Stands m size number at count → end_at m at count ≡ end → IsAppended end next page m n
    → (k : ℕ) → HasBlock m at count k → HasBlock n at (suc count) k
chain_has m n size number at zero end next page live behind change k had = inl had
chain_has m n size number at (suc count) end next page (first, rest) behind change k had =
    let not_next : at ≢ next = λ is. holder_lives m size at first.holds (ap m is ∙ change.fresh) in
    let same : n at ≡ m at = change.others at (first_not_end m size number at count end first behind) not_next in
    let goes : next_in n at ≡ next_in m at = ap next_of (ap bytes_of same) in
    elim had [
      | inl is ↦ inl is
      | inr r ↦ inr (subst (λ b. HasBlock n b (suc count) k) (sym goes) (chain_has m n size (number + 1) (next_in m at) count end next page rest behind change k r))
    ]

-- So has a writer's run.
run_has : (m n : Blocks) (size : ℕ) (before after : RunWriter) (page : List ℕ) → IsWritten m size before
    → after.first ≡ before.first → after.pages ≡ before.pages + 1 → IsAppended before.end after.end page m n
    → (k : ℕ) → HasBlock m before.first before.pages k → HasBlock n after.first after.pages k
run_has m n size before after page written first pages change k had =
    let more : suc before.pages ≡ after.pages = sym (add-one before.pages) ∙ sym pages in
    let has : HasBlock n before.first (suc before.pages) k = chain_has m n size 0 before.first before.pages before.end after.end page written.stands written.behind change k had in
    subst (λ b. HasBlock n b after.pages k) (sym first) (subst (λ c. HasBlock n before.first c k) more has)

-- What became live in a push is the run's.
pub push_owns : (m n : Blocks) (size : ℕ) (before after : RunWriter) (page : List ℕ) → IsWritten m size before
    → after.first ≡ before.first → after.pages ≡ before.pages + 1 → IsAppended before.end after.end page m n → IsPushed size before after page m n
    → NoOrphanBlocks (Some before) (Some after) m n
push_owns m n size before after page written first pages change more k state = elim state [
  | inl none ↦ elim (cases_eq k after.end) [
    | inl is ↦ inr (subst (HasBlock n after.first after.pages) (more.written.behind ∙ sym is) (end_is_block n after.first after.pages))
    | inr apart ↦ inl (change.others k (λ is. end_lives m size before written (ap m (sym is) ∙ none)) apart ∙ none)
  ]
  | inr had ↦ inr (run_has m n size before after page written first pages change k had)
]

-- In a push that failed nothing became live.
pub open_owns : (m n : Blocks) (size : ℕ) (writer : RunWriter) → IsWritten m size writer → LeavesOpen writer.end m n → IsKept size writer m n
    → NoOrphanBlocks (Some writer) (Some writer) m n
open_owns m n size writer written change kept k state = elim state [
  | inl none ↦ inl (change.others k (λ is. end_lives m size writer written (ap m (sym is) ∙ none)) ∙ none)
  | inr had ↦ inr ((kept.blocks k).1 had)
]

-- What became live where a run was begun is the run's.
pub begun_owns : (k m n : Blocks) (size : ℕ) (writer after : RunWriter) (page : List ℕ) → writer.pages ≡ 0
    → IsGiven writer.first k m → NoOrphanBlocks (Some writer) (Some after) m n → NoOrphanBlocks None (Some after) k n
begun_owns k m n size writer after page none given owns b state = elim state [
  | inl free ↦ elim (cases_eq b writer.first) [
    | inl is ↦ owns b (inr (subst (λ c. HasBlock m writer.first c b) (sym none) is))
    | inr apart ↦ owns b (inl (given.becomes.others b apart ∙ free))
  ]
  | inr had ↦ absurd had
]

-- A run was begun and its only block freed again: nothing became live.
pub withdrawn_owns : (k m n o : Blocks) (first end : ℕ) → end ≡ first → IsGiven first k m → LeavesOpen end m n → Becomes first None n o → NoOrphanBlocks None None k o
withdrawn_owns k m n o first end same given change freed b state = elim state [
  | inl free ↦ elim (cases_eq b first) [
    | inl is ↦ inl (ap o is ∙ freed.is)
    | inr apart ↦ inl (freed.others b apart ∙ change.others b (λ is. apart (is ∙ same)) ∙ given.becomes.others b apart ∙ free)
  ]
  | inr had ↦ absurd had
]
