-- Chains of pages on a disk: what keeps them, and what a page more makes of them.
use Rattle.std.proofs.Common.{◌≡◌, ◌≢◌, ◌⊎◌, inl, inr, ℕ, zero, suc, ◌+◌, List, [], ◌∷◌, ◌++◌, length, Some, refl, sym, ap, ◌∙◌, subst, arith, add-zero}
use Rattle.flow_outside.specs.Blocks.{Blocks, IsLive, HoldsPage}
use Rattle.spool.specs.Headers.{next_of, IsSound}
use Rattle.spool.specs.Runs.{bytes_of, page_in, next_in, pages_at, end_at, HasBlock, StandsFirst, Stands}
use Rattle.spool.specs.Changes.{IsAppended, LeavesOpen}

-- A chain that stands as it did: the same pages, the same end and the same blocks.
pub record SameChain (m n : Blocks) (at count : ℕ) : Type 0 where
  pub pages : pages_at n at count ≡ pages_at m at count
  pub behind : end_at n at count ≡ end_at m at count
  pub had : (k : ℕ) → HasBlock n at count k → HasBlock m at count k
  pub has : (k : ℕ) → HasBlock m at count k → HasBlock n at count k

-- A page before a chain that stands as it did.
pub first_kept : (m n : Blocks) (at count : ℕ) → page_in n at ≡ page_in m at → next_in n at ≡ next_in m at → SameChain m n (next_in m at) count → SameChain m n at (suc count)
first_kept m n at count page next rest = record {
  pages = ap (λ p. p ∷ pages_at n (next_in n at) count) page
      ∙ ap (λ b. page_in m at ∷ pages_at n b count) next
      ∙ ap (λ ps. page_in m at ∷ ps) rest.pages;
  behind = ap (λ b. end_at n b count) next ∙ rest.behind;
  had = λ k h. elim h [ inl e ↦ inl e | inr r ↦ inr (rest.had k (subst (λ b. HasBlock n b count k) next r)) ];
  has = λ k h. elim h [ inl e ↦ inl e | inr r ↦ inr (subst (λ b. HasBlock n b count k) (sym next) (rest.has k r)) ];
}

-- A chain whose blocks all stand is the same chain.
pub same_chain : (m n : Blocks) (at count : ℕ) → ((k : ℕ) → HasBlock m at count k → n k ≡ m k) → SameChain m n at count
same_chain m n at zero same =
    record { pages = refl; behind = refl; had = λ k h. h; has = λ k h. h }
same_chain m n at (suc count) same =
    let page : page_in n at ≡ page_in m at = ap bytes_of (same at (inl refl)) in
    first_kept m n at count page (ap next_of page) (same_chain m n (next_in m at) count (λ k h. same k (inr h)))

-- A block that stands holds the page that it held.
pub page_kept : (m n : Blocks) (size at : ℕ) → n at ≡ m at → HoldsPage m at size → HoldsPage n at size
page_kept m n size at same held =
    record { page = held.page; held = same ∙ held.held; sized = held.sized }

-- A chain whose blocks all stand goes on standing.
pub stands_kept : (m n : Blocks) (size number at count : ℕ) → ((k : ℕ) → HasBlock m at count k → n k ≡ m k) → Stands m size number at count → Stands n size number at count
stands_kept m n size number at zero same live =
    λ none. live (sym (same at refl) ∙ none)
stands_kept m n size number at (suc count) same (first, rest) =
    let page : page_in n at ≡ page_in m at = ap bytes_of (same at (inl refl)) in
    let next : next_in n at ≡ next_in m at = ap next_of page in
    let chain : SameChain m n (next_in m at) count = same_chain m n (next_in m at) count (λ k h. same k (inr h)) in (
      record {
        holds = page_kept m n size at (same at (inl refl)) first.holds;
        sound = subst (IsSound number) (sym page) first.sound;
        apart = λ h. first.apart (chain.had at (subst (λ b. HasBlock n b count at) next h));
      },
      subst (λ b. Stands n size (number + 1) b count) (sym next) (stands_kept m n size (number + 1) (next_in m at) count (λ k h. same k (inr h)) rest),
    )

-- The block behind a chain is one of its blocks.
pub end_is_block : (m : Blocks) (at count : ℕ) → HasBlock m at count (end_at m at count)
end_is_block m at zero = refl
end_is_block m at (suc count) = inr (end_is_block m (next_in m at) count)

-- So is its first block.
pub first_is_block : (m : Blocks) (at count : ℕ) → HasBlock m at count at
first_is_block m at zero = refl
first_is_block m at (suc count) = inl refl

-- A block that holds a page is live.
pub holder_lives : (m : Blocks) (size at : ℕ) → HoldsPage m at size → IsLive m at
holder_lives m size at held = λ none. let is = held.held in cc

-- The blocks of a chain that stands are live.
pub chain_lives : (m : Blocks) (size number at count : ℕ) → Stands m size number at count → (k : ℕ) → HasBlock m at count k → IsLive m k
chain_lives m size number at zero live k same = subst (IsLive m) (sym same) live
chain_lives m size number at (suc count) (first, rest) k (inl same) =
    subst (IsLive m) (sym same) (holder_lives m size at first.holds)
chain_lives m size number at (suc count) (first, rest) k (inr behind) =
    chain_lives m size (number + 1) (next_in m at) count rest k behind

-- A chain with a page more: what stands, and which blocks it has.
pub record Longer (m n : Blocks) (size number at count : ℕ) (page : List ℕ) (next : ℕ) : Type 0 where
  pub stands : Stands n size number at (suc count)
  pub pages : pages_at n at (suc count) ≡ pages_at m at count ++ page ∷ []
  pub behind : end_at n at (suc count) ≡ next
  pub blocks : (k : ℕ) → HasBlock n at (suc count) k → HasBlock m at count k ⊎ (k ≡ next)

-- The block of a chain's first page isn't the one behind the chain.
pub first_not_end : (m : Blocks) (size number at count end : ℕ) → StandsFirst m size number at count → end_at m (next_in m at) count ≡ end → at ≢ end
first_not_end m size number at count end first behind =
    λ is. first.apart (subst (HasBlock m (next_in m at) count) (behind ∙ sym is) (end_is_block m (next_in m at) count))

-- A page that was put behind a chain makes the chain longer.
pub chain_more : (m n : Blocks) (size number at count end next last : ℕ) (page : List ℕ)
    → Stands m size number at count
    → end_at m at count ≡ end
    → IsAppended end next page m n
    → length page ≡ size
    → last ≡ number + count
    → IsSound last page
    → next_of page ≡ next
    → Longer m n size number at count page next
chain_more m n size number at zero end next last page live behind change sized numbered sound names =
    let put : n at ≡ Some (Some page) = ap n behind ∙ change.put in
    let held : page_in n at ≡ page = ap bytes_of put in
    let goes : next_in n at ≡ next = ap next_of held ∙ names in
    let same : last ≡ number = numbered ∙ add-zero number in
    record {
      stands = (
        record {
          holds = record { page = page; held = put; sized = sized };
          sound = subst (λ p. IsSound number p) (sym held) (subst (λ k. IsSound k page) same sound);
          apart = λ is. live (ap m (is ∙ goes) ∙ change.fresh);
        },
        (λ none. let is = ap n goes ∙ change.opened in cc),
      );
      pages = ap (λ p. p ∷ []) held;
      behind = goes;
      blocks = λ k h. elim h [ inl is ↦ inl is | inr is ↦ inr (is ∙ goes) ];
    }
chain_more m n size number at (suc count) end next last page (first, rest) behind change sized numbered sound names =
    let live : IsLive m at = holder_lives m size at first.holds in
    let not_next : at ≢ next = λ is. live (ap m is ∙ change.fresh) in
    let same : n at ≡ m at = change.others at (first_not_end m size number at count end first behind) not_next in
    let kept : page_in n at ≡ page_in m at = ap bytes_of same in
    let goes : next_in n at ≡ next_in m at = ap next_of kept in
    let more : Longer m n size (number + 1) (next_in m at) count page next =
    chain_more m n size (number + 1) (next_in m at) count end next last page rest behind change sized (omega (arith, numbered)) sound names in
    record {
      stands = (
        record {
          holds = page_kept m n size at same first.holds;
          sound = subst (IsSound number) (sym kept) first.sound;
          apart = λ h. elim (more.blocks at (subst (λ b. HasBlock n b (suc count) at) goes h)) [ inl had ↦ first.apart had | inr is ↦ not_next is ];
        },
        subst (λ b. Stands n size (number + 1) b (suc count)) (sym goes) more.stands,
      );
      pages = ap (λ p. p ∷ pages_at n (next_in n at) (suc count)) kept
          ∙ ap (λ b. page_in m at ∷ pages_at n b (suc count)) goes
          ∙ ap (λ ps. page_in m at ∷ ps) more.pages;
      behind = ap (λ b. end_at n b (suc count)) goes ∙ more.behind;
      blocks = λ k h. elim h [
        | inl is ↦ inl (inl is)
        | inr r ↦ elim (more.blocks k (subst (λ b. HasBlock n b (suc count) k) goes r)) [ inl had ↦ inl (inr had) | inr is ↦ inr is ]
      ];
    }

-- A chain whose end alone may have changed, and is live, stands as the same chain.
pub chain_open : (m n : Blocks) (size number at count end : ℕ)
    → Stands m size number at count
    → end_at m at count ≡ end
    → LeavesOpen end m n
    → Stands n size number at count × SameChain m n at count
chain_open m n size number at zero end live behind change = (
  subst (IsLive n) (sym behind) change.live,
  record { pages = refl; behind = refl; had = λ k h. h; has = λ k h. h },
)
chain_open m n size number at (suc count) end (first, rest) behind change =
    let same : n at ≡ m at = change.others at (first_not_end m size number at count end first behind) in
    let page : page_in n at ≡ page_in m at = ap bytes_of same in
    let next : next_in n at ≡ next_in m at = ap next_of page in
    let open_rest = chain_open m n size (number + 1) (next_in m at) count end rest behind change in
    let chain : SameChain m n (next_in m at) count = open_rest.1 in (
      (
        record {
          holds = page_kept m n size at same first.holds;
          sound = subst (IsSound number) (sym page) first.sound;
          apart = λ h. first.apart (chain.had at (subst (λ b. HasBlock n b count at) next h));
        },
        subst (λ b. Stands n size (number + 1) b count) (sym next) open_rest.0,
      ),
      first_kept m n at count page next chain,
    )
