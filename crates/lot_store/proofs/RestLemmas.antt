-- A lot that stopped reading: what its pages keep and add is what the lot does.
use Rattle.std.proofs.Common.{◌≡◌, ℕ, ◌+◌, ◌-◌, ◌<◌, ◌≤◌, ◌==◌, cond, not, List, [], ◌∷◌, ◌++◌, length, replicate, Result, OnOk, IsSome, Option, Some, None, refl, sym, ap, ◌∙◌, subst, arith, append-nil}
use Rattle.segment_core.specs.Segments.{SegmentView, segment_sum}
use Rattle.segment_core.proofs.Weighing.{segment_sum-append, segment_sum-cons, segment_sum-ones}
use Rattle.flow_outside.specs.Blocks.{Blocks, BothTold}
use Rattle.page_feed.specs.Feeds.{FeedView, HasBlockLeft, held as held_fed, kept_in, open_page_in, lent, stopped}
use Rattle.spool.specs.declared.writer.RunWriter.{RunWriter}
use Rattle.spool.specs.Spilling.{IsSpilled}
use Rattle.lot_store.specs.Stores.{PagesView, StandsWith as StoredStands, IsSound as IsStoredSound, held as held_stored, text as text_stored}
use Rattle.lot_store.specs.Keeping.{AddsPages, AddsFullPages as StoredAddsFull, AddsText as StoredAdds, Keeps as StoredKeeps, KeepsOthers as StoredKeepsOthers, MovesSegments as StoredMoves, PutsPage as PutsInto}
use Rattle.lot_store.specs.Lots.{IsSound, LotView, StandsWith, held, pages_of}
use Rattle.lot_store.specs.LotKeeping.{AddsFullPages, AddsText, Keeps, KeepsOthers, MovesSegments, PutsPage}
use Rattle.spool.proofs.SpillLemmas.{told_with}
use Rattle.lot_store.proofs.LotLemmas.{nothing, on_ok_map}

-- pages as a record of their parts
abbrev pub stored_as : ℕ → List SegmentView → Option RunWriter → List SegmentView → PagesView
stored_as room kept run open_page = record { room = room; kept = kept; run = run; open_page = open_page }

pub stored_same : (r q : ℕ) (k j : List SegmentView) (u v : Option RunWriter) (l o : List SegmentView) → r ≡ q → k ≡ j → u ≡ v → l ≡ o → stored_as r k u l ≡ stored_as q j v o
stored_same r q k j u v l o rooms kepts runs lasts =
    ap (λ x. stored_as x k u l) rooms ∙ ap (λ x. stored_as q x u l) kepts ∙ ap (λ x. stored_as q j x l) runs ∙ ap (λ x. stored_as q j v x) lasts

-- A lot whose feed holds nothing has its pages where it writes them.
pub pages_at_rest : (b : LotView) (r h : ℕ) → b.feed ≡ stopped r h → pages_of b ≡ b.stored
pages_at_rest b r h rest =
    stored_same b.stored.room b.stored.room (b.stored.kept ++ kept_in b.feed) b.stored.kept b.stored.run b.stored.run (b.stored.open_page ++ open_page_in b.feed) b.stored.open_page
    refl (ap (λ f. b.stored.kept ++ kept_in f) rest ∙ append-nil b.stored.kept) refl (ap (λ f. b.stored.open_page ++ open_page_in f) rest ∙ append-nil b.stored.open_page)

-- What segments of another size weigh.
abbrev misfit : ℕ → ℕ → ℕ → ℕ
misfit size = λ _ n. cond (not (n == size)) 1 0

weigh_rest : (h : ℕ → ℕ → ℕ) (b : LotView) (r k : ℕ) → b.feed ≡ stopped r k → segment_sum h (held b) ≡ segment_sum h (held_stored b.stored)
weigh_rest h b r k rest =
    let none : segment_sum h (lent b.feed) ≡ 0 = ap (λ f. segment_sum h (lent f)) rest in
    let same : segment_sum h (held_stored (pages_of b)) ≡ segment_sum h (held_stored b.stored) = ap (λ u. segment_sum h (held_stored u)) (pages_at_rest b r k rest) in
    omega (arith, segment_sum-append h (held_stored (pages_of b)) (lent b.feed), none, same)

weigh_pages : (h : ℕ → ℕ → ℕ) (a : LotView) (s : PagesView) → s ≡ pages_of a → segment_sum h (held a) ≡ segment_sum h (held_stored s) + segment_sum h (lent a.feed)
weigh_pages h a s is =
    let same : segment_sum h (held_stored s) ≡ segment_sum h (held_stored (pages_of a)) = ap (λ u. segment_sum h (held_stored u)) is in
    omega (arith, segment_sum-append h (held_stored (pages_of a)) (lent a.feed), same)

-- The segments that a feed was lent are in the purse.
abbrev pub GaveBack : LotView → (p q : List SegmentView) → Type 0
GaveBack a p q = (h : ℕ → ℕ → ℕ) → segment_sum h q ≡ segment_sum h p + segment_sum h (lent a.feed)

pub lot_moves : (a b : LotView) (s : PagesView) (p q t : List SegmentView) (r k : ℕ) → s ≡ pages_of a → b.feed ≡ stopped r k → GaveBack a p q → StoredMoves s b.stored q t → MovesSegments a b p t
lot_moves a b s p q t r k is rest back moves h =
    omega (arith, moves h, back h, weigh_pages h a s is, weigh_rest h b r k rest)

pub stands_in : (size : ℕ) (a : LotView) (s : PagesView) (p q : List SegmentView) (m : Blocks) → s ≡ pages_of a → GaveBack a p q → StandsWith size a p m → StoredStands size s q m
stands_in size a s p q m is back st =
    let own : segment_sum (misfit size) (held a) ≡ 0 = st.own in
    let others : segment_sum (misfit size) p ≡ 0 = st.others in
    record {
      own = omega (arith, own, weigh_pages (misfit size) a s is);
      others = omega (arith, own, others, back (misfit size), weigh_pages (misfit size) a s is);
      spilled = subst (λ u. IsSpilled m size u.run) (sym is) st.spilled;
    }

pub stands_out : (size : ℕ) (b : LotView) (t : List SegmentView) (r k : ℕ) (n : Blocks) → b.feed ≡ stopped r k → StoredStands size b.stored t n → StandsWith size b t n
stands_out size b t r k n rest st =
    let own : segment_sum (misfit size) (held_stored b.stored) ≡ 0 = st.own in
    record {
      own = omega (arith, own, weigh_rest (misfit size) b r k rest);
      others = st.others;
      spilled = st.spilled;
      reads = λ block left. absurd (subst (λ (f : FeedView). HasBlockLeft n f.run block) rest left);
    }

pub sound_in : (told : Option Blocks) (a : LotView) (s : PagesView) (p q : List SegmentView) → s ≡ pages_of a → GaveBack a p q → IsSound told a p → IsStoredSound told s q
sound_in None a s p q is back sound = tt
sound_in (Some m) a s p q is back (size, st) = (size, stands_in size a s p q m is back st)

keeps_at : (m n : Blocks) (a b : LotView) (s : PagesView) (p q t : List SegmentView) (r k : ℕ) → s ≡ pages_of a → b.feed ≡ stopped r k → GaveBack a p q → StoredKeeps s b.stored q t m n → Keeps a b p t m n
keeps_at m n a b s p q t r k is rest back keeps =
    let own : StoredKeeps (pages_of a) b.stored q t m n = subst (λ u. StoredKeeps u b.stored q t m n) is keeps in
    record {
      stands = λ size st. stands_out size b t r k n rest (keeps.stands size (stands_in size a s p q m is back st));
      others = own.others;
      owns = own.owns;
    }

pub lot_keeps : (told now : Option Blocks) (a b : LotView) (s : PagesView) (p q t : List SegmentView) (r k : ℕ) → s ≡ pages_of a → b.feed ≡ stopped r k → GaveBack a p q → BothTold told now (StoredKeeps s b.stored q t) → BothTold told now (Keeps a b p t)
lot_keeps told now a b s p q t r k is rest back keeps =
    told_with told now (λ m. Unit {0}) (StoredKeeps s b.stored q t) (Keeps a b p t)
    (λ m n _ h. keeps_at m n a b s p q t r k is rest back h) (nothing told) keeps

others_at : (m n : Blocks) (a b : LotView) (s : PagesView) (p q t : List SegmentView) (r k : ℕ) → s ≡ pages_of a → b.feed ≡ stopped r k → GaveBack a p q → StoredKeepsOthers s b.stored q t m n → KeepsOthers a b p t m n
others_at m n a b s p q t r k is rest back keeps =
    let own : StoredKeepsOthers (pages_of a) b.stored q t m n = subst (λ u. StoredKeepsOthers u b.stored q t m n) is keeps in
    record {
      stands = λ size st. stands_out size b t r k n rest (keeps.stands size (stands_in size a s p q m is back st));
      others = own.others;
      fresh = own.fresh;
    }

pub lot_keeps_others : (told now : Option Blocks) (a b : LotView) (s : PagesView) (p q t : List SegmentView) (r k : ℕ) → s ≡ pages_of a → b.feed ≡ stopped r k → GaveBack a p q → BothTold told now (StoredKeepsOthers s b.stored q t) → BothTold told now (KeepsOthers a b p t)
lot_keeps_others told now a b s p q t r k is rest back keeps =
    told_with told now (λ m. Unit {0}) (StoredKeepsOthers s b.stored q t) (KeepsOthers a b p t)
    (λ m n _ h. others_at m n a b s p q t r k is rest back h) (nothing told) keeps

-- A lot whose pages are sound at rest is sound.
pub sound_out : (told : Option Blocks) (b : LotView) (t : List SegmentView) (r k : ℕ) → b.feed ≡ stopped r k → IsStoredSound told b.stored t → IsSound told b t
sound_out None b t r k rest sound = tt
sound_out (Some n) b t r k rest (size, st) = (size, stands_out size b t r k n rest st)

-- As many segments fit into a purse as before.
pub lot_fits : (a b : LotView) (p t : List SegmentView) (room : ℕ) → MovesSegments a b p t → length p + length (held a) ≤ room → length t + length (held b) ≤ room
lot_fits a b p t room moves fits =
    omega (arith, moves (λ _ _. 1), segment_sum-ones p, segment_sum-ones t, segment_sum-ones (held a), segment_sum-ones (held b), fits)

-- The purse that got the lent segments has room for those of the pages.
pub back_fits : (a : LotView) (s : PagesView) (p q : List SegmentView) (room now : ℕ) → s ≡ pages_of a → GaveBack a p q → now ≡ room → length p + length (held a) ≤ room → length q + length (held_stored s) ≤ now
back_fits a s p q room now is back same fits =
    omega (arith, back (λ _ _. 1), weigh_pages (λ _ _. 1) a s is, segment_sum-ones p, segment_sum-ones q, segment_sum-ones (held a), segment_sum-ones (held_stored s), segment_sum-ones (lent a.feed), fits, same)

-- It has as many more as were lent.
pub back_count : (a : LotView) (p q : List SegmentView) → GaveBack a p q → length q ≡ length p + length (lent a.feed)
back_count a p q back =
    omega (arith, back (λ _ _. 1), segment_sum-ones p, segment_sum-ones q, segment_sum-ones (lent a.feed))

-- There is room for the lent segments.
pub lent_fits : (a : LotView) (p : List SegmentView) (room : ℕ) → length p + length (held a) ≤ room → length p + length (lent a.feed) ≤ room
lent_fits a p room fits =
    omega (arith, fits, weigh_pages (λ _ _. 1) a (pages_of a) refl, segment_sum-ones (held a), segment_sum-ones (held_stored (pages_of a)), segment_sum-ones (lent a.feed))

adds_at : (m n : Blocks) (a b : LotView) (s : PagesView) (bytes : List ℕ) (r k : ℕ) → s ≡ pages_of a → b.feed ≡ stopped r k → StoredAdds s b.stored bytes m n → AddsText a b bytes m n
adds_at m n a b s bytes r k is rest added =
    ap (text_stored n) (pages_at_rest b r k rest) ∙ added ∙ ap (λ u. text_stored m u ++ bytes) is

pub lot_adds : {E : Type 0} (answer : Result Unit E) (told now : Option Blocks) (a b : LotView) (s : PagesView) (bytes : List ℕ) (r k : ℕ) → s ≡ pages_of a → b.feed ≡ stopped r k → OnOk answer (BothTold told now (StoredAdds s b.stored bytes)) → OnOk answer (BothTold told now (AddsText a b bytes))
lot_adds answer told now a b s bytes r k is rest added =
    on_ok_map answer _ _ (told_with told now (λ m. Unit {0}) (StoredAdds s b.stored bytes) (AddsText a b bytes)
    (λ m n _ h. adds_at m n a b s bytes r k is rest h) (nothing told)) added

full_at : (m n : Blocks) (a b : LotView) (s : PagesView) (p q : List SegmentView) (r k : ℕ) → s ≡ pages_of a → b.feed ≡ stopped r k → GaveBack a p q → StoredAddsFull s b.stored q m n → AddsFullPages a b p m n
full_at m n a b s p q r k is rest back added size st =
    let one = added size (stands_in size a s p q m is back st) in
    (one.0, subst (λ u. AddsPages u (pages_of b) (replicate one.0 (size - 16)) m n) is (subst (λ u. AddsPages s u (replicate one.0 (size - 16)) m n) (sym (pages_at_rest b r k rest)) one.1))

pub lot_full : {E : Type 0} (answer : Result Unit E) (told now : Option Blocks) (a b : LotView) (s : PagesView) (p q : List SegmentView) (r k : ℕ) → s ≡ pages_of a → b.feed ≡ stopped r k → GaveBack a p q → OnOk answer (BothTold told now (StoredAddsFull s b.stored q)) → OnOk answer (BothTold told now (AddsFullPages a b p))
lot_full answer told now a b s p q r k is rest back added =
    on_ok_map answer _ _ (told_with told now (λ m. Unit {0}) (StoredAddsFull s b.stored q) (AddsFullPages a b p)
    (λ m n _ h. full_at m n a b s p q r k is rest back h) (nothing told)) added

puts_at : (m n : Blocks) (page : SegmentView) (a b : LotView) (s : PagesView) (r k : ℕ) → s ≡ pages_of a → b.feed ≡ stopped r k → PutsInto page s b.stored m n → PutsPage page a b m n
puts_at m n page a b s r k is rest puts =
    subst (λ u. PutsInto page u (pages_of b) m n) is (subst (λ u. PutsInto page s u m n) (sym (pages_at_rest b r k rest)) puts)

pub lot_puts : {E : Type 0} (answer : Result Unit E) (told now : Option Blocks) (page : SegmentView) (a b : LotView) (s : PagesView) (r k : ℕ) → s ≡ pages_of a → b.feed ≡ stopped r k → OnOk answer (BothTold told now (PutsInto page s b.stored)) → OnOk answer (BothTold told now (PutsPage page a b))
lot_puts answer told now page a b s r k is rest puts =
    on_ok_map answer _ _ (told_with told now (λ m. Unit {0}) (PutsInto page s b.stored) (PutsPage page a b)
    (λ m n _ h. puts_at m n page a b s r k is rest h) (nothing told)) puts

-- the lot of these pages, this feed and this block
abbrev pub lot_of : PagesView → FeedView → (read_last : ℕ) → LotView
lot_of stored feed read_last = record { stored = stored; feed = feed; read_last = read_last }

-- A page stands beside the purse.
pub back_beside : (a : LotView) (page : SegmentView) (p q : List SegmentView) → GaveBack a p q → GaveBack a (page ∷ p) (page ∷ q)
back_beside a page p q back h = omega (arith, back h, segment_sum-cons h page p, segment_sum-cons h page q)

pub back_fits_page : (a : LotView) (s : PagesView) (p q : List SegmentView) (room now : ℕ) → s ≡ pages_of a → GaveBack a p q → now ≡ room → length p + (length (held a) + 1) ≤ room → length q + (length (held_stored s) + 1) ≤ now
back_fits_page a s p q room now is back same fits =
    omega (arith, back (λ _ _. 1), weigh_pages (λ _ _. 1) a s is, segment_sum-ones p, segment_sum-ones q, segment_sum-ones (held a), segment_sum-ones (held_stored s), segment_sum-ones (lent a.feed), fits, same)

-- A segment is in the purse, or the open page has room, where this was so before.
pub supply_in : (a : LotView) (s : PagesView) (p q : List SegmentView) → s ≡ pages_of a → GaveBack a p q → 0 < length p + (length (lent a.feed) + length (pages_of a).open_page) → 0 < length q + length s.open_page
supply_in a s p q is back some =
    let open_page : length s.open_page ≡ length (pages_of a).open_page = ap (λ (u : PagesView). length u.open_page) is in
    omega (arith, back_count a p q back, open_page, some)

-- A segment is there to read spilled pages into.
pub supply_end : (a : LotView) (s : PagesView) (p q : List SegmentView) → s ≡ pages_of a → GaveBack a p q → (IsSome a.stored.run → 0 < length p + length (held a)) → IsSome s.run → 0 < length q + length (held_stored s)
supply_end a s p q is back supply some =
    omega (arith, supply (subst (λ (u : PagesView). IsSome u.run) is some), back (λ _ _. 1), weigh_pages (λ _ _. 1) a s is, segment_sum-ones p, segment_sum-ones q, segment_sum-ones (held a), segment_sum-ones (held_stored s), segment_sum-ones (lent a.feed))

-- Lists that are nothing together are nothing.
none_left : (ps qs : List SegmentView) → ps ++ qs ≡ [] → ps ≡ []
none_left [] qs none = refl
none_left (p ∷ ps) qs none = absurd (omega (arith, ap length none))

none_right : (ps qs : List SegmentView) → ps ++ qs ≡ [] → qs ≡ []
none_right [] qs none = none
none_right (p ∷ ps) qs none = absurd (omega (arith, ap length none))

none_both : (ps qs : List SegmentView) → ps ≡ [] → qs ≡ [] → ps ++ qs ≡ []
none_both ps qs first next = ap (λ xs. xs ++ qs) first ∙ next

-- A lot that holds no segment holds none in its pages and none in its feed.
pub stored_none : (a : LotView) → held a ≡ [] → held_stored a.stored ≡ []
stored_none a none =
    let all : held_stored (pages_of a) ≡ [] = none_left (held_stored (pages_of a)) (lent a.feed) none in
    let kept : (pages_of a).kept ≡ [] = none_left (pages_of a).kept (pages_of a).open_page all in
    let open_page : (pages_of a).open_page ≡ [] = none_right (pages_of a).kept (pages_of a).open_page all in
    none_both a.stored.kept a.stored.open_page (none_left a.stored.kept (kept_in a.feed) kept) (none_left a.stored.open_page (open_page_in a.feed) open_page)

pub feed_none : (a : LotView) → held a ≡ [] → held_fed a.feed ≡ []
feed_none a none =
    let all : held_stored (pages_of a) ≡ [] = none_left (held_stored (pages_of a)) (lent a.feed) none in
    let kept : (pages_of a).kept ≡ [] = none_left (pages_of a).kept (pages_of a).open_page all in
    let open_page : (pages_of a).open_page ≡ [] = none_right (pages_of a).kept (pages_of a).open_page all in
    none_both (kept_in a.feed) (open_page_in a.feed ++ lent a.feed) (none_right a.stored.kept (kept_in a.feed) kept)
    (none_both (open_page_in a.feed) (lent a.feed) (none_right a.stored.open_page (open_page_in a.feed) open_page) (none_right (held_stored (pages_of a)) (lent a.feed) none))
