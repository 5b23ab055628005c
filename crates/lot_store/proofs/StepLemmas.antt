-- Steps of a lot, one after the other.
use Rattle.std.proofs.Common.{◌≡◌, inl, ℕ, ◌+◌, ◌-◌, ◌<◌, ◌≤◌, take, drop, Result, Ok, Err, IfOk, OnOk, List, [], ◌∷◌, ◌++◌, length, Option, Some, None, refl, sym, ap, ◌∙◌, subst, arith, append_assoc, append-nil}
use Rattle.segment_core.specs.Segments.{SegmentView, segment_sum}
use Rattle.segment_core.proofs.Weighing.{fits_first, fits_rest, segment_sum-append, segment_sum-cons, segment_sum-one, segment_sum-ones, segment_sum-push}
use Rattle.flow_outside.specs.Blocks.{Blocks, BothTold}
use Rattle.flow_outside.specs.Told.{IfTold}
use Rattle.flow_outside.specs.Causes.{Rose}
use Rattle.flow_outside.specs.declared.failure.StreamFault.{StreamFault}
use Rattle.paged_view.specs.Pages.{used_bytes, all_used_bytes, IsSameSegment}
use Rattle.spool.specs.Runs.{HasBlock, IsRun, IsWritten, joined}
use Rattle.spool.specs.Changes.{ForeignBlocksUnchanged as LeavesBut}
use Rattle.spool.specs.declared.run.Run.{Run}
use Rattle.spool.specs.declared.writer.RunWriter.{RunWriter}
use Rattle.spool.proofs.ChainLemmas.{chain_lives}
use Rattle.spool.specs.Spilling.{HasWriteCause, IsSpilled, OwnsBlock, StandsAlone, spilled}
use Rattle.lot_store.specs.Stores.{IsSound, PagesView, held, text}
use Rattle.lot_store.specs.Keeping.{Keeps, KeepsOthers, MovesSegments, AddsText, Trades}
use Rattle.spool.proofs.SpillLemmas.{told_join, told_with}
use Rattle.lot_store.proofs.LotLemmas.{keeps_same_told, misfits_more, moved_fit, nothing, on_ok_map}
use Rattle.paged_view.proofs.WritingLemmas.{text_piece, text_span}

-- What is kept by one step and by the next is kept by both.
keeps_join : (a b c : PagesView) (p q r : List SegmentView) (k m n : Blocks) → Keeps a b p q k m → Keeps b c q r m n → Keeps a c p r k n
keeps_join a b c p q r k m n first next = record {
  stands = λ size s. next.stands size (first.stands size s);
  others = λ block live other.
      let one = first.others block live other in
      let two = next.others block (λ gone. live (sym one.0 ∙ gone)) one.1 in
      (two.0 ∙ one.0, two.1);
  owns = λ block state. next.owns block (first.owns block state);
}

pub keeps_told : (t u v : Option Blocks) (a b c : PagesView) (p q r : List SegmentView) → BothTold t u (Keeps a b p q) → BothTold u v (Keeps b c q r) → BothTold t v (Keeps a c p r)
keeps_told t u v a b c p q r first next =
    told_join t u v (Keeps a b p q) (Keeps b c q r) (Keeps a c p r) (keeps_join a b c p q r) first next

-- The same lot keeps what it has where segments move in the purse alone.
pub keeps_again : (t u : Option Blocks) (a b : PagesView) (p q r : List SegmentView) → BothTold t u (Keeps a b p q) → ((h : ℕ → ℕ → ℕ) → segment_sum h r ≡ segment_sum h q) → BothTold t u (Keeps a b p r)
keeps_again t u a b p q r first same =
    keeps_told t u u a b b p q r first (keeps_same_told u b b q r (λ h. ap (λ w. w + segment_sum h (held b)) (same h)) refl)

pub keeps_nothing : (t : Option Blocks) (a : PagesView) (p : List SegmentView) → BothTold t t (Keeps a a p p)
keeps_nothing t a p = keeps_same_told t a a p p (λ h. refl) refl

-- Nothing was added yet.
pub trades_nothing : (t : Option Blocks) (a : PagesView) (bytes : List ℕ) → BothTold t t (Trades a a bytes bytes)
trades_nothing None a bytes = tt
trades_nothing (Some m) a bytes = refl

-- A page was added, and the one in the hand is blank.
pub trades_added : (t u : Option Blocks) (a b : PagesView) (bytes none : List ℕ) → none ≡ [] → BothTold t u (AddsText a b bytes) → BothTold t u (Trades a b bytes none)
trades_added None None a b bytes none is added = tt
trades_added None (Some n) a b bytes none is added = added
trades_added (Some m) None a b bytes none is added = added
trades_added (Some m) (Some n) a b bytes none is added =
    ap (λ xs. text n b ++ xs) is ∙ append-nil (text n b) ∙ added

-- the spilled bytes of a lot
abbrev joined_of : Blocks → PagesView → List ℕ
joined_of m a = joined (spilled m a.run)

-- The lot without the open page.
pub text_taken : (m : Blocks) (a b : PagesView) (page : SegmentView) → a.open_page ≡ page ∷ [] → b.open_page ≡ [] → b.kept ≡ a.kept → b.run ≡ a.run → text m a ≡ text m b ++ used_bytes page
text_taken m a b page was none kept run =
    let e : text m b ≡ all_used_bytes a.kept ++ (joined_of m a ++ []) = ap (λ ps. all_used_bytes ps ++ (joined_of m b ++ all_used_bytes b.open_page)) kept ∙ ap (λ r. all_used_bytes a.kept ++ (joined (spilled m r) ++ all_used_bytes b.open_page)) run ∙ ap (λ ps. all_used_bytes a.kept ++ (joined_of m a ++ all_used_bytes ps)) none in
    ap (λ ps. all_used_bytes a.kept ++ (joined_of m a ++ all_used_bytes ps)) was
    ∙ ap (λ xs. all_used_bytes a.kept ++ (joined_of m a ++ xs)) (append-nil (used_bytes page))
    ∙ sym (append_assoc (all_used_bytes a.kept) (joined_of m a) (used_bytes page))
    ∙ ap (λ xs. xs ++ used_bytes page) (sym (e ∙ ap (λ xs. all_used_bytes a.kept ++ xs) (append-nil (joined_of m a))))

-- The lot with other bytes in the open page.
pub text_refilled : (m : Blocks) (a b : PagesView) (bytes : List ℕ) → a.open_page ≡ [] → all_used_bytes b.open_page ≡ bytes → b.kept ≡ a.kept → b.run ≡ a.run → text m b ≡ text m a ++ bytes
text_refilled m a b bytes none is kept run =
    let e : text m b ≡ all_used_bytes a.kept ++ (joined_of m a ++ bytes) = ap (λ ps. all_used_bytes ps ++ (joined_of m b ++ all_used_bytes b.open_page)) kept ∙ ap (λ r. all_used_bytes a.kept ++ (joined (spilled m r) ++ all_used_bytes b.open_page)) run ∙ ap (λ xs. all_used_bytes a.kept ++ (joined_of m a ++ xs)) is in
    let f : text m a ≡ all_used_bytes a.kept ++ joined_of m a = ap (λ ps. all_used_bytes a.kept ++ (joined_of m a ++ all_used_bytes ps)) none ∙ ap (λ xs. all_used_bytes a.kept ++ xs) (append-nil (joined_of m a)) in
    e ∙ sym (append_assoc (all_used_bytes a.kept) (joined_of m a) bytes) ∙ ap (λ xs. xs ++ bytes) (sym f)

-- A call that goes on after another that wrote.
pub cause_on : {T : Type 0} (a b c : ℕ) (answer : Result T StreamFault) → a ≤ b → HasWriteCause b c answer → HasWriteCause a c answer
cause_on a b c answer later cause = record {
  later = omega (arith, later, cause.later);
  spill = λ is. let rose : Rose b c = cause.spill is in omega (arith, later, rose);
  damaged = cause.damaged;
}

-- Segments that moved twice moved.
pub moves_join : (a b c : PagesView) (p q r : List SegmentView) → MovesSegments a b p q → MovesSegments b c q r → MovesSegments a c p r
moves_join a b c p q r first next h = next h ∙ first h

-- As many segments fit into a purse as before.
pub fits_on : (a b : PagesView) (p q : List SegmentView) (room : ℕ) → MovesSegments a b p q → length p + length (held a) ≤ room → length q + length (held b) ≤ room
fits_on a b p q room moves fits =
    omega (arith, moves (λ _ _. 1), segment_sum-ones p, segment_sum-ones q, segment_sum-ones (held a), segment_sum-ones (held b))

-- Bytes that were added one after the other.
pub adds_join : (t u v : Option Blocks) (a b c : PagesView) (xs ys : List ℕ) → BothTold t u (AddsText a b xs) → BothTold u v (AddsText b c ys) → BothTold t v (AddsText a c (xs ++ ys))
adds_join t u v a b c xs ys first next =
    told_join t u v (AddsText a b xs) (AddsText b c ys) (AddsText a c (xs ++ ys))
    (λ k m n one two. two ∙ ap (λ zs. zs ++ ys) one ∙ append_assoc (text k a) xs ys)
    first next

pub adds_nothing : (t : Option Blocks) (a : PagesView) → BothTold t t (AddsText a a [])
adds_nothing None a = tt
adds_nothing (Some m) a = sym (append-nil (text m a))

-- The open page goes to the hand.
pub moves_taken : (a b : PagesView) (page : SegmentView) (purse : List SegmentView) → a.open_page ≡ page ∷ [] → b.open_page ≡ [] → b.kept ≡ a.kept → MovesSegments a b purse (page ∷ purse)
moves_taken a b page purse was none kept h =
    omega (
      arith,
      segment_sum-cons h page purse,
      ap (λ ps. segment_sum h (a.kept ++ ps)) was,
      segment_sum-append h a.kept (page ∷ []),
      segment_sum-one h page,
      ap (λ ps. segment_sum h (ps ++ b.open_page)) kept,
      ap (λ ps. segment_sum h (a.kept ++ ps)) none,
      ap (segment_sum h) (append-nil a.kept),
    )

-- There is no open page.
pub moves_none : (a b : PagesView) (purse : List SegmentView) → a.open_page ≡ [] → b.open_page ≡ [] → b.kept ≡ a.kept → MovesSegments a b purse purse
moves_none a b purse was none kept h =
    let e : segment_sum h (held b) ≡ segment_sum h (held a) = ap (λ ps. segment_sum h (ps ++ b.open_page)) kept ∙ ap (λ ps. segment_sum h (a.kept ++ ps)) (none ∙ sym was) in
    omega (arith, e)

-- What was traded behind the open page was traded behind the lot without it.
trades_taken_at : (m n : Blocks) (a b c : PagesView) (page : SegmentView) (left : List ℕ) → a.open_page ≡ page ∷ [] → b.open_page ≡ [] → b.kept ≡ a.kept → b.run ≡ a.run → Trades b c (used_bytes page) left m n → Trades a c [] left m n
trades_taken_at m n a b c page left was none kept run trades =
    trades ∙ sym (text_taken m a b page was none kept run) ∙ sym (append-nil (text m a))

trades_taken_told : (t u : Option Blocks) (a b c : PagesView) (page : SegmentView) (left : List ℕ) → a.open_page ≡ page ∷ [] → b.open_page ≡ [] → b.kept ≡ a.kept → b.run ≡ a.run → BothTold t u (Trades b c (used_bytes page) left) → BothTold t u (Trades a c [] left)
trades_taken_told None None a b c page left was none kept run trades = tt
trades_taken_told None (Some n) a b c page left was none kept run trades = trades
trades_taken_told (Some m) None a b c page left was none kept run trades = trades
trades_taken_told (Some m) (Some n) a b c page left was none kept run trades =
    trades_taken_at m n a b c page left was none kept run trades

pub trades_taken : {E : Type 0} (answer : Result SegmentView E) (t u : Option Blocks) (a b c : PagesView) (page : SegmentView) → a.open_page ≡ page ∷ [] → b.open_page ≡ [] → b.kept ≡ a.kept → b.run ≡ a.run
    → IfOk answer (λ next. BothTold t u (Trades b c (used_bytes page) (used_bytes next))) → IfOk answer (λ next. BothTold t u (Trades a c [] (used_bytes next)))
trades_taken (Ok next) t u a b c page was none kept run trades =
    trades_taken_told t u a b c page (used_bytes next) was none kept run trades
trades_taken (Err fault) t u a b c page was none kept run trades = tt

-- Bytes that were written behind a page in the hand, which is then the open page, are added.
adds_filled_at : (m n : Blocks) (a b c : PagesView) (page bytes : List ℕ) → b.open_page ≡ [] → all_used_bytes c.open_page ≡ page ++ bytes → c.kept ≡ b.kept → c.run ≡ b.run → Trades a b [] page m n → AddsText a c bytes m n
adds_filled_at m n a b c page bytes none is kept run trades =
    text_refilled n b c (page ++ bytes) none is kept run
    ∙ sym (append_assoc (text n b) page bytes)
    ∙ ap (λ xs. xs ++ bytes) (trades ∙ append-nil (text m a))

pub adds_filled : (t u : Option Blocks) (a b c : PagesView) (page bytes : List ℕ) → b.open_page ≡ [] → all_used_bytes c.open_page ≡ page ++ bytes → c.kept ≡ b.kept → c.run ≡ b.run → BothTold t u (Trades a b [] page) → BothTold t u (AddsText a c bytes)
adds_filled None None a b c page bytes none is kept run trades = tt
adds_filled None (Some n) a b c page bytes none is kept run trades = trades
adds_filled (Some m) None a b c page bytes none is kept run trades = trades
adds_filled (Some m) (Some n) a b c page bytes none is kept run trades =
    adds_filled_at m n a b c page bytes none is kept run trades

-- The page in the hand went into the lot.
pub moves_filled : (a b : PagesView) (page : SegmentView) (purse : List SegmentView) → ((h : ℕ → ℕ → ℕ) → segment_sum h (held b) ≡ segment_sum h (held a) + segment_sum h (page ∷ [])) → MovesSegments a b (page ∷ purse) purse
moves_filled a b page purse more h =
    omega (arith, more h, segment_sum-one h page, segment_sum-cons h page purse)

pub keeps_filled : (t u : Option Blocks) (a b c : PagesView) (page : SegmentView) (p purse : List SegmentView) → ((h : ℕ → ℕ → ℕ) → segment_sum h (held c) ≡ segment_sum h (held b) + segment_sum h (page ∷ [])) → c.run ≡ b.run → BothTold t u (Keeps a b p (page ∷ purse)) → BothTold t u (Keeps a c p purse)
keeps_filled t u a b c page p purse more run keeps =
    keeps_told t u u a b c p (page ∷ purse) purse keeps (keeps_same_told u b c (page ∷ purse) purse (moves_filled b c page purse more) run)

-- One piece more of a slice was added.
pub adds_piece : (t u v : Option Blocks) (a b c : PagesView) (bytes : List ℕ) (at n : ℕ) → BothTold t u (AddsText a b (take at bytes)) → BothTold u v (AddsText b c (take n (take (length bytes - at) (drop at bytes)))) → BothTold t v (AddsText a c (take (at + n) bytes))
adds_piece t u v a b c bytes at n first next =
    told_join t u v (AddsText a b (take at bytes)) (AddsText b c (take n (take (length bytes - at) (drop at bytes)))) (AddsText a c (take (at + n) bytes))
    (λ k l m one two. text_piece (text k a) (text l b) (text m c) bytes at n one two)
    first next

-- One piece more of a record was added.
pub adds_span : (t u v : Option Blocks) (a b c : PagesView) (bytes piece : List ℕ) (at : ℕ) → BothTold t u (AddsText a b (take at bytes)) → piece ≡ take (length piece) (drop at bytes) → BothTold u v (AddsText b c piece) → BothTold t v (AddsText a c (take (at + length piece) bytes))
adds_span t u v a b c bytes piece at first is next =
    told_join t u v (AddsText a b (take at bytes)) (AddsText b c piece) (AddsText a c (take (at + length piece) bytes))
    (λ k l m one two. text_span (text k a) (text l b) (text m c) bytes piece at one is two)
    first next

-- What a second call adds stands behind what the first one did.
pub adds_then : {E : Type 0} (answer : Result Unit E) (t u v : Option Blocks) (a b c : PagesView) (xs ys : List ℕ) → BothTold t u (AddsText a b xs) → OnOk answer (BothTold u v (AddsText b c ys)) → OnOk answer (BothTold t v (AddsText a c (xs ++ ys)))
adds_then answer t u v a b c xs ys first next =
    on_ok_map answer _ _ (λ two. adds_join t u v a b c xs ys first two) next

-- A page goes on top of a purse.
pub moves_put : (a : PagesView) (page : SegmentView) (purse rest : List SegmentView) → rest ≡ purse ++ page ∷ [] → MovesSegments a a (page ∷ purse) rest
moves_put a page purse rest put h =
    omega (arith, ap (segment_sum h) put, segment_sum-push h purse page, segment_sum-cons h page purse)

-- A page becomes the one under way.
pub moves_last : (a b : PagesView) (page : SegmentView) (purse : List SegmentView) → a.open_page ≡ [] → b.open_page ≡ page ∷ [] → b.kept ≡ a.kept → MovesSegments a b (page ∷ purse) purse
moves_last a b page purse was now kept h =
    omega (
      arith,
      segment_sum-cons h page purse,
      ap (λ ps. segment_sum h (a.kept ++ ps)) was,
      ap (segment_sum h) (append-nil a.kept),
      segment_sum-append h a.kept (page ∷ []),
      segment_sum-one h page,
      ap (λ ps. segment_sum h (ps ++ b.open_page)) kept,
      ap (λ ps. segment_sum h (a.kept ++ ps)) now,
    )

-- Another page stands beside the purse all the time.
keeps_beside_at : (a b : PagesView) (page : SegmentView) (p q : List SegmentView) (m n : Blocks) → Keeps a b p q m n → Keeps a b (page ∷ p) (page ∷ q) m n
keeps_beside_at a b page p q m n keeps = record {
  stands = λ size s.
      let t = keeps.stands size (record { own = s.own; others = fits_rest size page p s.others; spilled = s.spilled }) in
      record {
        own = t.own;
        others = misfits_more size page q (fits_first size page p s.others) t.others;
        spilled = t.spilled;
      };
  others = keeps.others;
  owns = keeps.owns;
}

pub keeps_beside : (t u : Option Blocks) (a b : PagesView) (page : SegmentView) (p q : List SegmentView) → BothTold t u (Keeps a b p q) → BothTold t u (Keeps a b (page ∷ p) (page ∷ q))
keeps_beside None None a b page p q keeps = tt
keeps_beside None (Some n) a b page p q keeps = keeps
keeps_beside (Some m) None a b page p q keeps = keeps
keeps_beside (Some m) (Some n) a b page p q keeps =
    keeps_beside_at a b page p q m n keeps

pub moves_beside : (a b : PagesView) (page : SegmentView) (p q : List SegmentView) → MovesSegments a b p q → MovesSegments a b (page ∷ p) (page ∷ q)
moves_beside a b page p q moves h =
    omega (arith, moves h, segment_sum-cons h page p, segment_sum-cons h page q)

-- A lot that is sound beside a page and a purse is sound beside the purse.
pub sound_rest : (t : Option Blocks) (a : PagesView) (page : SegmentView) (p : List SegmentView) → IsSound t a (page ∷ p) → IsSound t a p
sound_rest None a page p sound = tt
sound_rest (Some m) a page p (size, s) =
    (size, record { own = s.own; others = fits_rest size page p s.others; spilled = s.spilled })

-- A page that is the same segment weighs the same.
weigh_same : (h : ℕ → ℕ → ℕ) (p q : SegmentView) (ps : List SegmentView) → IsSameSegment p q → segment_sum h (q ∷ ps) ≡ segment_sum h (p ∷ ps)
weigh_same h p q ps same =
    let one : h q.id (length q.bytes) ≡ h p.id (length p.bytes) = ap (λ i. h i (length q.bytes)) same.id ∙ ap (h p.id) same.len in
    omega (arith, one, segment_sum-cons h p ps, segment_sum-cons h q ps)

pub moves_same : (a : PagesView) (p q : SegmentView) (ps : List SegmentView) → IsSameSegment p q → MovesSegments a a (p ∷ ps) (q ∷ ps)
moves_same a p q ps same h =
    ap (λ w. w + segment_sum h (held a)) (weigh_same h p q ps same)

-- What was added behind the lot without its open page, that page first, was added behind the lot.
adds_taken_at : (m n : Blocks) (a b c : PagesView) (page : SegmentView) (more : List ℕ) → a.open_page ≡ page ∷ [] → b.open_page ≡ [] → b.kept ≡ a.kept → b.run ≡ a.run → AddsText b c (used_bytes page ++ more) m n → AddsText a c more m n
adds_taken_at m n a b c page more was none kept run added =
    added ∙ sym (append_assoc (text m b) (used_bytes page) more) ∙ ap (λ xs. xs ++ more) (sym (text_taken m a b page was none kept run))

adds_taken_told : (t u : Option Blocks) (a b c : PagesView) (page : SegmentView) (more : List ℕ) → a.open_page ≡ page ∷ [] → b.open_page ≡ [] → b.kept ≡ a.kept → b.run ≡ a.run → BothTold t u (AddsText b c (used_bytes page ++ more)) → BothTold t u (AddsText a c more)
adds_taken_told None None a b c page more was none kept run added = tt
adds_taken_told None (Some n) a b c page more was none kept run added = added
adds_taken_told (Some m) None a b c page more was none kept run added = added
adds_taken_told (Some m) (Some n) a b c page more was none kept run added =
    adds_taken_at m n a b c page more was none kept run added

pub adds_taken : {E : Type 0} (answer : Result Unit E) (t u : Option Blocks) (a b c : PagesView) (page : SegmentView) (more : List ℕ) → a.open_page ≡ page ∷ [] → b.open_page ≡ [] → b.kept ≡ a.kept → b.run ≡ a.run → OnOk answer (BothTold t u (AddsText b c (used_bytes page ++ more))) → OnOk answer (BothTold t u (AddsText a c more))
adds_taken answer t u a b c page more was none kept run added =
    on_ok_map answer _ _ (adds_taken_told t u a b c page more was none kept run) added

pub adds_rested : {E : Type 0} (answer : Result Unit E) (t u : Option Blocks) (a b c : PagesView) (page : SegmentView) → a.open_page ≡ page ∷ [] → b.open_page ≡ [] → b.kept ≡ a.kept → b.run ≡ a.run → OnOk answer (BothTold t u (AddsText b c (used_bytes page))) → OnOk answer (BothTold t u (AddsText a c []))
adds_rested answer t u a b c page was none kept run added =
    adds_taken answer t u a b c page [] was none kept run
    (subst (λ xs. OnOk answer (BothTold t u (AddsText b c xs))) (sym (append-nil (used_bytes page))) added)

-- A page became the one under way.
pub adds_last : (t : Option Blocks) (a b : PagesView) (page : SegmentView) → a.open_page ≡ [] → b.open_page ≡ page ∷ [] → b.kept ≡ a.kept → b.run ≡ a.run → BothTold t t (AddsText a b (used_bytes page))
adds_last None a b page none now kept run = tt
adds_last (Some m) a b page none now kept run =
    text_refilled m a b (used_bytes page) none (ap all_used_bytes now ∙ append-nil (used_bytes page)) kept run

-- The purse has room for one page more.
pub put_on : (a b : PagesView) (open_page : SegmentView) (p q : List SegmentView) (room now : ℕ) → MovesSegments a b (open_page ∷ p) q → length p + (length (held a) + 2) ≤ room → now ≡ room → length q < now
put_on a b open_page p q room now moves fits same =
    omega (arith, moves (λ _ _. 1), segment_sum-cons (λ _ _. 1) open_page p, segment_sum-ones p, segment_sum-ones q, segment_sum-ones (held a), segment_sum-ones (held b), fits, same)

-- The purse has a segment where it or the lot had one, and the lot has none now.
pub supply_on : (a b : PagesView) (p q : List SegmentView) → MovesSegments a b p q → held b ≡ [] → 0 < length p + length (held a) → 0 < length q
supply_on a b p q moves none some =
    omega (arith, moves (λ _ _. 1), segment_sum-ones p, segment_sum-ones q, segment_sum-ones (held a), segment_sum-ones (held b), ap length none, some)

-- The run of a lot that is sound stands alone.
pub stands_alone : (t : Option Blocks) (a b : PagesView) (p q : List SegmentView) (writer : RunWriter) (run : Run) → IsSound t a p → MovesSegments a b p q → a.run ≡ Some writer → run ≡ record { first = writer.first; pages = writer.pages } → IfTold t (StandsAlone run q)
stands_alone None a b p q writer run sound moves was is = tt
stands_alone (Some m) a b p q writer run (size, s) moves was is =
    let w : IsWritten m size writer = subst (IsSpilled m size) was s.spilled in
    (size, (moved_fit size a b p q moves s.own s.others).1, subst (IsRun m size) (sym is) w.stands)

-- A lot whose run ended keeps what it has, and leaves what others have.
keeps_ended_at : (m n : Blocks) (a b : PagesView) (p q : List SegmentView) (writer : RunWriter) (run : Run) → MovesSegments a b p q → a.run ≡ Some writer → b.run ≡ None → run ≡ record { first = writer.first; pages = writer.pages } → StandsAlone run q m → LeavesBut run m n → KeepsOthers a b p q m n
keeps_ended_at m n a b p q writer run moves was none is alone others = record {
  stands = λ size s. let fit = moved_fit size a b p q moves s.own s.others in record {
    own = fit.0;
    others = fit.1;
    spilled = subst (IsSpilled n size) (sym none) tt;
  };
  others = λ k live other. (
    others k (λ h. other (subst (λ r. OwnsBlock m r k) (sym was) (subst (λ r. HasBlock m r.first r.pages k) is h))),
    (λ h. subst (λ r. OwnsBlock n r k) none h),
  );
  fresh = λ k free. inl (others k (λ h. chain_lives m alone.0 0 run.first run.pages alone.2 k h free) ∙ free);
}

pub keeps_ended : (t u : Option Blocks) (a b : PagesView) (p q : List SegmentView) (writer : RunWriter) (run : Run) → MovesSegments a b p q → a.run ≡ Some writer → b.run ≡ None → run ≡ record { first = writer.first; pages = writer.pages } → IfTold t (StandsAlone run q) → BothTold t u (LeavesBut run) → BothTold t u (KeepsOthers a b p q)
keeps_ended t u a b p q writer run moves was none is alone others =
    told_with t u (StandsAlone run q) (LeavesBut run) (KeepsOthers a b p q)
    (λ m n s o. keeps_ended_at m n a b p q writer run moves was none is s o)
    alone others

-- What keeps a lot and what is its own leaves what others have.
pub keeps_others : (t u : Option Blocks) (a b : PagesView) (p q : List SegmentView) → BothTold t u (Keeps a b p q) → BothTold t u (KeepsOthers a b p q)
keeps_others t u a b p q keeps =
    told_with t u (λ m. Unit {0}) (Keeps a b p q) (KeepsOthers a b p q)
    (λ m n _ k. record { stands = k.stands; others = k.others; fresh = λ block free. k.owns block (inl free) })
    (nothing t) keeps

-- A lot that left what others have is sound.
pub sound_ended : (t u : Option Blocks) (a b : PagesView) (p q : List SegmentView) → IsSound t a p → BothTold t u (KeepsOthers a b p q) → IsSound u b q
sound_ended None None a b p q sound keeps = tt
sound_ended None (Some n) a b p q sound keeps = absurd keeps
sound_ended (Some m) None a b p q sound keeps = tt
sound_ended (Some m) (Some n) a b p q (size, s) keeps = (size, keeps.stands size s)

-- The same segments, in another purse of the same weight.
pub moves_ended : (a b c : PagesView) (p q r : List SegmentView) → MovesSegments a b p q → c.kept ≡ b.kept → c.open_page ≡ b.open_page → ((h : ℕ → ℕ → ℕ) → segment_sum h r ≡ segment_sum h q) → MovesSegments a c p r
moves_ended a b c p q r moves kept open_page same h =
    let e : segment_sum h (held c) ≡ segment_sum h (held b) = ap (λ ps. segment_sum h (ps ++ c.open_page)) kept ∙ ap (λ ps. segment_sum h (b.kept ++ ps)) open_page in
    omega (arith, moves h, same h, e)
