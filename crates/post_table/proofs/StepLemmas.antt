-- A step at one seat keeps the rule: one word, one slot and one view may change, and the lists of one pair may grow.
use Rattle.std.proofs.Common.{◌≡◌, ◌≢◌, ℕ, suc, zero, ◌/◌, ◌<◌, ◌⊎◌, inl, inr, Bool, true, false, cond, ◌==◌, List, [], ◌∷◌, ◌++◌, ◌∙◌, ap, sym, subst, length, get_or, set, All, Option, Some, None, refl, arith, append-nil, length-set, get_or-set_same, get_or-set_other, true≢false, eq-eqb, ne_eqb}
use Rattle.std.proofs.lemmas.List.Elements.{All-weaker}
use mathlib.Core.Logic.{dite}
use mathlib.Core.Option.{none, some, some-injective, some-ne-none}
use mathlib.Core.Option as maybe
use native.Mathlib.Decide.{ℕ_discrete}
use lib.ListN.{get_elem?}
use lib.Seq.{set-get_or}
use Rattle.atomic_table.specs.Table.{State}
use Rattle.atomic_table.proofs.Lists.{at_set, set_here, set_else}
use Rattle.segment_core.specs.Segments.{SegmentView}
use Rattle.exchange_core.specs.Lane.{Bytes}
use Rattle.post_table.specs.Pairs.{pair_count, poster_of, receiver_of, turn}
use Rattle.post_table.specs.Views.{Log, of_pair, pages_of, is_here}
use Rattle.post_table.specs.Rule.{Slot, IsHome, IsOut, IsMailbox, BeginsWith, IsKnown, IsHolder, IsSeated, HasSeat, IsPostTable}
use Rattle.post_table.specs.declared.view.Moved.{Moved}
use Rattle.post_table.specs.declared.view.Meeting.{Meeting}
use Rattle.post_table.specs.declared.view.View.{View}
use Rattle.post_table.proofs.LogLemmas.{begins_all, begins_on}

abbrev pub St : Type 0
St = State SegmentView View

pub none_some : (o : Option ℕ) (k : ℕ) → o ≡ None → o ≡ Some k → ⊥
none_some o k a b = cc

pub one_some : (o : Option ℕ) (k j : ℕ) → o ≡ Some k → o ≡ Some j → j ≡ k
one_some o k j a b = cc

pub same_view : (vs : List View) (i : ℕ) (v u : View) → get_elem? vs i ≡ some v → get_elem? vs i ≡ some u → v ≡ u
same_view vs i v u a b = some-injective v u (sym a ∙ b)

pub within : {A : Type 0} (l : List A) (i : ℕ) (a : A) → get_elem? l i ≡ some a → i < length l
within [] i a e = absurd (some-ne-none a (sym e))
within (x ∷ l) zero a e = omega arith
within (x ∷ l) (suc i) a e = let h : i < length l = within l i a e in omega arith

-- another view of a list that has grown where the view has nothing of it
pub lists_on : (b : Bool) (A B X : Log) → (b ≡ true → A ≡ B) → X ≡ cond b A [] → X ≡ cond b B []
lists_on true A B X s e = e ∙ s refl
lists_on false A B X s e = e

pub lists_more : (b : Bool) (A X : Log) (m : Moved) → b ≡ true → X ≡ cond b A [] → X ++ m ∷ [] ≡ cond b (A ++ m ∷ []) []
lists_more true A X m t e = ap (λ (l : Log). l ++ m ∷ []) e
lists_more false A X m t e = absurd (true≢false (sym t))

-- one's own list is the pair's
pub own_list : (b : Bool) (A X : Log) → b ≡ true → X ≡ cond b A [] → X ≡ A
own_list true A X t e = e
own_list false A X t e = absurd (true≢false (sym t))

-- what a view has of a list is a prefix of it
pub begins_part : (b : Bool) (A X : Log) → X ≡ cond b A [] → BeginsWith X A
begins_part true A X e = record { rest = []; is = sym e ∙ sym (append-nil X) }
begins_part false A X e = record { rest = A; is = ap (λ (l : Log). l ++ A) (sym e) }

-- the lists of which that of one pair has one entry more
abbrev pub grown : (ℕ → Log) → ℕ → Moved → ℕ → Log
grown lists k m j = cond (j == k) (lists j ++ m ∷ []) (lists j)

pub grown_here : (lists : ℕ → Log) (k : ℕ) (m : Moved) → grown lists k m k ≡ lists k ++ m ∷ []
grown_here lists k m = ap (λ (b : Bool). cond b (lists k ++ m ∷ []) (lists k)) (eq-eqb k k refl)

pub grown_else : (lists : ℕ → Log) (k : ℕ) (m : Moved) (j : ℕ) → j ≢ k → grown lists k m j ≡ lists j
grown_else lists k m j other = ap (λ (b : Bool). cond b (lists j ++ m ∷ []) (lists j)) (ne_eqb j k other)

-- a slot that another seat has out, or the same, stays out with it
pub out_on : (vs : List View) (id seat seat' j : ℕ) (v v' : View) (slot slot' : Slot) → get_elem? vs id ≡ some v → (v.holding ≡ Some j → ⊥) → seat' ≡ seat → slot' ≡ slot
    → IsOut vs seat j slot → IsOut (set vs id v') seat' j slot'
out_on vs id seat seat' j v v' slot slot' at free same_seat same_slot o =
    let other : seat ≢ id = λ e. free (ap (λ (u : View). u.holding) (same_view vs id v o.view at (subst (λ (z : ℕ). get_elem? vs z ≡ some o.view) e o.there)) ∙ o.holds) in
    record {
      away = same_slot ∙ o.away;
      view = o.view;
      there = subst (λ (z : ℕ). get_elem? (set vs id v') z ≡ some o.view) (sym same_seat) (set_else vs id seat v' other ∙ o.there);
      holds = o.holds;
    }

pub home_on : (size id : ℕ) (waiting : Option Bytes) (slot slot' : Slot) → slot' ≡ slot → IsHome size id waiting slot → IsHome size id waiting slot'
home_on size id waiting slot slot' same h = record { segment = h.segment; there = same ∙ h.there; same = h.same; sized = h.sized; page = h.page }

-- a mailbox that a step doesn't touch
pub mailbox_on : (size spare word word' : ℕ) (P T : Log) (vs vs' : List View) (seat seat' k : ℕ) (slot slot' : Slot) → word' ≡ word → slot' ≡ slot
    → (IsOut vs seat k slot → IsOut vs' seat' k slot') → IsMailbox size spare word P T vs seat k slot → IsMailbox size spare word' P T vs' seat' k slot'
mailbox_on size spare word word' P T vs vs' seat seat' k slot slot' same_word same_slot outs m = record {
  id = m.id;
  waiting = m.waiting;
  shows = same_word ∙ m.shows;
  keeps_up = m.keeps_up;
  in_last = m.in_last;
  lies = elim m.lies [ inl h ↦ inl (home_on size m.id m.waiting slot slot' same_slot h) | inr o ↦ inr (outs o) ];
  weighs = m.weighs;
}

module _ (w size : ℕ) (opened : List ℕ) where
  abbrev pub Rule : St → Type 0
  Rule s = IsPostTable w size opened s

  abbrev pub Box : List ℕ → List (maybe.Option SegmentView) → List View → (ℕ → Log) → (ℕ → Log) → (ℕ → ℕ) → ℕ → Type 0
  Box words homes views posted took owner k =
      IsMailbox size (get_or opened k 0 / 2) (get_or words k 0) (posted k) (took k) views (owner (turn w (get_or words k 0) k)) k (get_elem? homes k)

  -- Where the word of a pair or its lists change, the seat that steps is that of the worker whose turn it is.
  pub record IsMove (s : St) (r : Rule s) (k id x : ℕ) (v v' : View) (homes' : List (maybe.Option SegmentView)) (posted' took' : ℕ → Log) : Type 0 where
    pub near : k < pair_count w
    pub at : get_elem? s.views id ≡ some v
    pub here : (i : ℕ) → is_here v' i ≡ is_here v i
    pub free : (j : ℕ) → v.holding ≡ Some j → j ≡ k
    pub whose : ((x ≡ get_or s.words k 0) × (posted' k ≡ r.posted k) × (took' k ≡ r.took k)) ⊎ (r.owner (turn w (get_or s.words k 0) k) ≡ id)
    pub long : length homes' ≡ pair_count w
    pub homes_else : (j : ℕ) → j ≢ k → get_elem? homes' j ≡ get_elem? s.homes j
    pub posted_else : (j : ℕ) → j ≢ k → posted' j ≡ r.posted j
    pub took_else : (j : ℕ) → j ≢ k → took' j ≡ r.took j
    pub posted_grows : BeginsWith (r.posted k) (posted' k)
    pub took_grows : BeginsWith (r.took k) (took' k)
    pub posted_by : (posted' k ≡ r.posted k) ⊎ (r.owner (poster_of w k) ≡ id)
    pub took_by : (took' k ≡ r.took k) ⊎ (r.owner (receiver_of w k) ≡ id)

  module _ (s : St) (r : Rule s) (k id x : ℕ) (v v' : View) (homes' : List (maybe.Option SegmentView)) (posted' took' : ℕ → Log) (m : IsMove s r k id x v v' homes' posted' took') where
    abbrev words' : List ℕ
    words' = set s.words k x

    abbrev views' : List View
    views' = set s.views id v'

    near_word : k < length s.words
    near_word = let wide : length s.words ≡ pair_count w = r.wide in let near : k < pair_count w = m.near in omega arith

    word_here : get_or words' k 0 ≡ x
    word_here = get_or-set_same s.words k x 0 near_word

    word_else : (j : ℕ) → j ≢ k → get_or words' j 0 ≡ get_or s.words j 0
    word_else j other = get_or-set_other s.words k j x 0 other

    pub posted_begins : (i : ℕ) → BeginsWith (r.posted i) (posted' i)
    posted_begins i = dite (ℕ_discrete i k)
        (λ e. subst (λ (y : ℕ). BeginsWith (r.posted y) (posted' y)) (sym e) m.posted_grows)
        (λ ne. subst (λ (l : Log). BeginsWith (r.posted i) l) (sym (m.posted_else i ne)) (begins_all (r.posted i)))

    pub took_begins : (i : ℕ) → BeginsWith (r.took i) (took' i)
    took_begins i = dite (ℕ_discrete i k)
        (λ e. subst (λ (y : ℕ). BeginsWith (r.took y) (took' y)) (sym e) m.took_grows)
        (λ ne. subst (λ (l : Log). BeginsWith (r.took i) l) (sym (m.took_else i ne)) (begins_all (r.took i)))

    pub known_on : (meeting : Meeting) → IsKnown (pair_count w) r.posted r.took meeting → IsKnown (pair_count w) posted' took' meeting
    known_on meeting h = record {
      of_posted = λ i near. begins_on _ _ _ (h.of_posted i near) (posted_begins i);
      of_took = λ i near. begins_on _ _ _ (h.of_took i near) (took_begins i);
    }

    pub known_all : (known : List Meeting) → All (IsKnown (pair_count w) r.posted r.took) known → All (IsKnown (pair_count w) posted' took') known
    known_all known all = All-weaker (IsKnown (pair_count w) r.posted r.took) (IsKnown (pair_count w) posted' took') known_on known all

    -- another pair's mailbox
    box_else : (j : ℕ) → j < pair_count w → j ≢ k → Box words' homes' views' posted' took' r.owner j
    box_else j near other =
        let e : get_or words' j 0 ≡ get_or s.words j 0 = word_else j other in
        let old : Box s.words s.homes s.views r.posted r.took r.owner j = r.each_pair j near in
        let seat : ℕ = r.owner (turn w (get_or s.words j 0) j) in
        let seat' : ℕ = r.owner (turn w (get_or words' j 0) j) in
        let slot : Slot = get_elem? s.homes j in
        let slot' : Slot = get_elem? homes' j in
        let same : seat' ≡ seat = ap (λ (z : ℕ). r.owner (turn w z j)) e in
        subst (λ (l : Log). IsMailbox size (get_or opened j 0 / 2) (get_or words' j 0) l (took' j) views' seat' j slot') (sym (m.posted_else j other))
        (subst (λ (l : Log). IsMailbox size (get_or opened j 0 / 2) (get_or words' j 0) (r.posted j) l views' seat' j slot') (sym (m.took_else j other))
        (mailbox_on size (get_or opened j 0 / 2) (get_or s.words j 0) (get_or words' j 0) (r.posted j) (r.took j) s.views views' seat seat' j slot slot' e (m.homes_else j other)
        (out_on s.views id seat seat' j v v' slot slot' m.at (λ h. other (m.free j h)) same (m.homes_else j other)) old))

    box_here : IsMailbox size (get_or opened k 0 / 2) x (posted' k) (took' k) views' (r.owner (turn w x k)) k (get_elem? homes' k) → Box words' homes' views' posted' took' r.owner k
    box_here h = subst (λ (z : ℕ). IsMailbox size (get_or opened k 0 / 2) z (posted' k) (took' k) views' (r.owner (turn w z k)) k (get_elem? homes' k)) (sym word_here) h

    -- what another seat holds, and the lists that it has
    module _ (j : ℕ) (u : View) (other : j ≢ id) (there : get_elem? s.views j ≡ some u) where
      abbrev old : IsSeated w size s.words r.posted r.took r.owner j u
      old = r.each_seat j u there

      same_posted : (i : ℕ) → is_here u (poster_of w i) ≡ true → r.posted i ≡ posted' i
      same_posted i t = dite (ℕ_discrete i k)
          (λ e. subst (λ (y : ℕ). r.posted y ≡ posted' y) (sym e) (elim m.posted_by [
            | inl same ↦ sym same
            | inr mine ↦ absurd (other (sym (old.owns (poster_of w k) (subst (λ (y : ℕ). is_here u (poster_of w y) ≡ true) e t)).1 ∙ mine))
          ]))
          (λ ne. sym (m.posted_else i ne))

      same_took : (i : ℕ) → is_here u (receiver_of w i) ≡ true → r.took i ≡ took' i
      same_took i t = dite (ℕ_discrete i k)
          (λ e. subst (λ (y : ℕ). r.took y ≡ took' y) (sym e) (elim m.took_by [
            | inl same ↦ sym same
            | inr mine ↦ absurd (other (sym (old.owns (receiver_of w k) (subst (λ (y : ℕ). is_here u (receiver_of w y) ≡ true) e t)).1 ∙ mine))
          ]))
          (λ ne. sym (m.took_else i ne))

      holder_here : u.holding ≡ Some k → IsHolder w words' posted' took' r.owner j u k
      holder_here h =
          let hd : IsHolder w s.words r.posted r.took r.owner j u k = old.holder k h in
          elim m.whose [
            | inl same ↦ record {
              near = hd.near;
              saw = word_here ∙ same.0 ∙ hd.saw;
              whose = hd.whose;
              page = λ odd. ap pages_of same.1 ∙ hd.page odd ∙ ap (λ (l : Log). pages_of l ++ u.in_hand ∷ []) (sym same.2);
            }
            | inr mine ↦ absurd (other (sym hd.whose ∙ ap (λ (z : ℕ). r.owner (turn w z k)) (sym hd.saw) ∙ mine))
          ]

      holder_else : (i : ℕ) → i ≢ k → u.holding ≡ Some i → IsHolder w words' posted' took' r.owner j u i
      holder_else i ne h =
          let hd : IsHolder w s.words r.posted r.took r.owner j u i = old.holder i h in
          record {
            near = hd.near;
            saw = word_else i ne ∙ hd.saw;
            whose = hd.whose;
            page = λ odd. ap pages_of (m.posted_else i ne) ∙ hd.page odd ∙ ap (λ (l : Log). pages_of l ++ u.in_hand ∷ []) (sym (m.took_else i ne));
          }

      seat_else : IsSeated w size words' posted' took' r.owner j u
      seat_else = record {
        owns = old.owns;
        posts = λ i near. lists_on (is_here u (poster_of w i)) (r.posted i) (posted' i) (of_pair i u.posted) (same_posted i) (old.posts i near);
        takes = λ i near. lists_on (is_here u (receiver_of w i)) (r.took i) (took' i) (of_pair i u.took) (same_took i) (old.takes i near);
        posts_pairs = old.posts_pairs;
        takes_pairs = old.takes_pairs;
        knows = known_all u.known old.knows;
        alike = old.alike;
        holder = λ i h. dite (ℕ_discrete i k)
            (λ e. subst (λ (y : ℕ). u.holding ≡ Some y → IsHolder w words' posted' took' r.owner j u y) (sym e) holder_here h)
            (λ ne. holder_else i ne h);
      }

    worker_on : (i : ℕ) → i < w → HasSeat views' r.owner i
    worker_on i near =
        let h : HasSeat s.views r.owner i = r.each_worker i near in
        dite (ℕ_discrete (r.owner i) id)
        (λ e. record {
          view = v';
          there = subst (λ (z : ℕ). get_elem? views' z ≡ some v') (sym e) (set_here s.views id v' (within s.views id v m.at));
          here = m.here i ∙ ap (λ (u : View). is_here u i) (same_view s.views id v h.view m.at (subst (λ (z : ℕ). get_elem? s.views z ≡ some h.view) e h.there)) ∙ h.here;
        })
        (λ ne. record { view = h.view; there = set_else s.views id (r.owner i) v' ne ∙ h.there; here = h.here })

    pub moved : IsMailbox size (get_or opened k 0 / 2) x (posted' k) (took' k) views' (r.owner (turn w x k)) k (get_elem? homes' k)
        → IsSeated w size words' posted' took' r.owner id v' → Rule record { words = words'; homes = homes'; views = views' }
    moved box mine = record {
      posted = posted';
      took = took';
      owner = r.owner;
      wide = length-set s.words k x ∙ r.wide;
      long = m.long;
      each_pair = λ j near. dite (ℕ_discrete j k)
          (λ e. subst (λ (y : ℕ). Box words' homes' views' posted' took' r.owner y) (sym e) (box_here box))
          (λ ne. box_else j near ne);
      each_seat = λ j u e. elim (at_set s.views id j v' u e) [
        | inl t ↦ subst (λ (y : ℕ × View). IsSeated w size words' posted' took' r.owner y.0 y.1) (λ i. (sym t.0 i, t.1 i)) mine
        | inr t ↦ seat_else j u t.0 t.1
      ];
      each_worker = worker_on;
    }

  -- a step that changes the view alone, and not what stands in it of the lists
  pub stays : (s : St) (r : Rule s) (k id : ℕ) (v v' : View) → k < pair_count w → get_elem? s.views id ≡ some v → v.holding ≡ None → ((i : ℕ) → is_here v' i ≡ is_here v i)
      → IsSeated w size s.words r.posted r.took r.owner id v' → Rule record { words = set s.words k (get_or s.words k 0); homes = s.homes; views = set s.views id v' }
  stays s r k id v v' near at free here mine =
      let x : ℕ = get_or s.words k 0 in
      let seat : ℕ = r.owner (turn w x k) in
      let slot : Slot = get_elem? s.homes k in
      let move : IsMove s r k id x v v' s.homes r.posted r.took = record {
        near = near;
        at = at;
        here = here;
        free = λ j h. absurd (none_some v.holding j free h);
        whose = inl (refl, refl, refl);
        long = r.long;
        homes_else = λ j _. refl;
        posted_else = λ j _. refl;
        took_else = λ j _. refl;
        posted_grows = begins_all (r.posted k);
        took_grows = begins_all (r.took k);
        posted_by = inl refl;
        took_by = inl refl;
      } in
      moved s r k id x v v' s.homes r.posted r.took move
      (mailbox_on size (get_or opened k 0 / 2) x x (r.posted k) (r.took k) s.views (set s.views id v') seat seat k slot slot refl refl
      (out_on s.views id seat seat k v v' slot slot at (none_some v.holding k free) refl refl) (r.each_pair k near))
      (subst (λ (ws : List ℕ). IsSeated w size ws r.posted r.took r.owner id v') (sym (set-get_or s.words k 0)) mine)
