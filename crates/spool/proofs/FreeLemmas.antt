-- A run is freed block by block.
use Rattle.std.proofs.Common.{◌≡◌, inl, inr, ℕ, suc, ◌+◌, List, Option, Some, None, sym, ap, ◌∙◌, subst, add-one}
use Rattle.std.proofs.lemmas.Bool.{cases_eq}
use Rattle.flow_outside.specs.Blocks.{Blocks, Becomes, BothTold}
use Rattle.flow_outside.specs.Told.{IfTold}
use Rattle.spool.specs.Headers.{next_of}
use Rattle.spool.specs.Runs.{bytes_of, next_in, HasBlock, StandsFirst}
use Rattle.spool.specs.Changes.{IsBeingFreed}
use Rattle.spool.specs.declared.run.Run.{Run}
use Rattle.spool.proofs.ChainLemmas.{SameChain, same_chain, stands_kept}

-- The first block of what is left is freed, where the chain goes on.
frees : (run : Run) (size number at rest : ℕ) (m n after : Blocks)
    → IsBeingFreed run size number at (suc rest) m n
    → Becomes at None n after
    → IsBeingFreed run size (number + 1) (next_in n at) rest m after
frees run size number at rest m n after f change =
    let first : StandsFirst n size number at rest = f.stands.0 in
    let same : (k : ℕ) → HasBlock n (next_in n at) rest k → after k ≡ n k =
    λ k h. change.others k (λ is. first.apart (subst (HasBlock n (next_in n at) rest) is h)) in
    let chain : SameChain n after (next_in n at) rest = same_chain n after (next_in n at) rest same in
    let gone : (k : ℕ) → n k ≡ None → after k ≡ None =
    λ k none. elim (cases_eq k at) [ inl is ↦ ap after is ∙ change.is | inr apart ↦ change.others k apart ∙ none ] in
    record {
      stands = stands_kept n after size (number + 1) (next_in n at) rest same f.stands.1;
      among = λ k h. f.among k (inr (chain.had k h));
      freed = λ k h. elim (f.freed k h) [
        | inl none ↦ inl (gone k none)
        | inr left ↦ elim left [ inl is ↦ inl (ap after is ∙ change.is) | inr behind ↦ inr (chain.has k behind) ]
      ];
      kept = λ k h. same k (chain.had k h) ∙ f.kept k (inr (chain.had k h));
      others = λ k h. change.others k (λ is. h (f.among k (inl is))) ∙ f.others k h;
    }

-- The same, by what was read of the first block.
pub frees_first : (run : Run) (size number second at next left rest : ℕ) (page : List ℕ) (m n after : Blocks)
    → IsBeingFreed run size number at left m n
    → left ≡ suc rest
    → second ≡ number + 1
    → n at ≡ Some (Some page)
    → next ≡ next_of page
    → Becomes at None n after
    → IsBeingFreed run size second next rest m after
frees_first run size number second at next left rest page m n after f is numbered read names change =
    let goes : next_in n at ≡ next = ap (λ o. next_of (bytes_of o)) read ∙ sym names in
    let g : IsBeingFreed run size (number + 1) (next_in n at) rest m after =
    frees run size number at rest m n after (subst (λ c. IsBeingFreed run size number at c m n) is f) change in
    subst (λ k. IsBeingFreed run size k next rest m after) (sym numbered) (subst (λ b. IsBeingFreed run size (number + 1) b rest m after) goes g)

-- The same of a disk that may tell.
pub frees_told : (t u v : Option Blocks) (run : Run) (size number second at next left rest : ℕ) (page : List ℕ)
    → BothTold t u (IsBeingFreed run size number at left)
    → left ≡ rest + 1
    → second ≡ number + 1
    → IfTold u (λ m. m at ≡ Some (Some page))
    → next ≡ next_of page
    → BothTold u v (Becomes at None)
    → BothTold t v (IsBeingFreed run size second next rest)
frees_told None None None run size number second at next left rest page f is numbered read names change = tt
frees_told None None (Some w) run size number second at next left rest page f is numbered read names change = change
frees_told None (Some n) v run size number second at next left rest page f is numbered read names change = absurd f
frees_told (Some m) None v run size number second at next left rest page f is numbered read names change = absurd f
frees_told (Some m) (Some n) None run size number second at next left rest page f is numbered read names change = change
frees_told (Some m) (Some n) (Some w) run size number second at next left rest page f is numbered read names change =
    frees_first run size number second at next left rest page m n w f (is ∙ add-one rest) numbered read names change
