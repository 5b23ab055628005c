-- How seats part and meet, and what a view shows.
use Rattle.std.proofs.Common.{◌≡◌, ◌≢◌, ℕ, suc, zero, ◌/◌, ◌<◌, ◌⊎◌, inl, inr, Bool, true, false, cond, not, ◌==◌, ◌||◌, ◌&&◌, List, [], ◌∷◌, ◌++◌, ◌∙◌, ap, ap₂, sym, subst, length, get_or, set, None, refl, append-nil, length-set, true≢false, eq-eqb, ne_eqb, eqb-true}
use Rattle.std.proofs.lemmas.List.Elements.{All-nil, All-cons, All-append, All-filter}
use mathlib.Core.Logic.{dite}
use mathlib.Core.Option.{some, some-injective, some-ne-none}
use native.Mathlib.Decide.{ℕ_discrete}
use lib.ListN.{get_elem?}
use Rattle.atomic_table.specs.Table.{Splits, Joins}
use Rattle.atomic_table.proofs.Lists.{at_set, at_last, at_longer, set_here, set_else}
use Rattle.exchange_core.specs.Laws.{KeepsUp}
use Rattle.post_table.specs.Pairs.{pair_count, poster_of, receiver_of, turn}
use Rattle.post_table.specs.Views.{Log, of_pair, is_among, is_here, lane_of_logs, looked, chosen, learned, parted, without, both_of, spent_view, ShowsLane, ShowsExchange}
use Rattle.post_table.specs.Rule.{Slot, IsOut, IsMailbox, IsKnown, IsHolder, IsSeated, HasSeat, IsPostTable}
use Rattle.post_table.specs.declared.view.Moved.{Moved}
use Rattle.post_table.specs.declared.view.View.{View}
use Rattle.post_table.proofs.LogLemmas.{of_pair-filter, of_pair-append, among-append, among-without, among-one, among_one-is, among_one-here}
use Rattle.post_table.proofs.StepLemmas.{St, none_some, same_view, within, own_list, begins_part, mailbox_on}

-- an element of a list with one more stands in the list, or is that one
pub at_end : {A : Type 0} (l : List A) (a b : A) (j : ℕ) → get_elem? (l ++ a ∷ []) j ≡ some b → (get_elem? l j ≡ some b) ⊎ ((j ≡ length l) × (a ≡ b))
at_end [] a b zero e = inr (refl, some-injective a b e)
at_end [] a b (suc j) e = absurd (some-ne-none b (sym e))
at_end (x ∷ l) a b zero e = inl e
at_end (x ∷ l) a b (suc j) e = elim (at_end l a b j e) [ inl h ↦ inl h | inr h ↦ inr (ap suc h.0, h.1) ]

and_left : (a b : Bool) → (a && b) ≡ true → a ≡ true
and_left true b e = refl
and_left false b e = e

and_right : (a b : Bool) → (a && not b) ≡ true → b ≡ false
and_right true true e = sym e
and_right true false e = refl
and_right false b e = absurd (true≢false (sym e))

and_both : (a b : Bool) → a ≡ true → b ≡ false → (a && not b) ≡ true
and_both true true p q = absurd (true≢false q)
and_both true false p q = refl
and_both false b p q = p

or_either : (a b : Bool) → (a || b) ≡ true → (a ≡ true) ⊎ (b ≡ true)
or_either true b e = inl refl
or_either false b e = inr e

or_first : (a b : Bool) → a ≡ true → (a || b) ≡ true
or_first true b e = refl
or_first false b e = absurd (true≢false (sym e))

or_second : (a b : Bool) → b ≡ true → (a || b) ≡ true
or_second true b e = refl
or_second false b e = e

-- of a log that leaves with a worker, and of what stays
both_cut : (a f : Bool) (A X : Log) → X ≡ cond a A [] → cond (not f) X [] ≡ cond (a && not f) A []
both_cut true true A X e = refl
both_cut true false A X e = e
both_cut false true A X e = refl
both_cut false false A X e = e

one_cut : (a f : Bool) (A X : Log) → (f ≡ true → a ≡ true) → X ≡ cond a A [] → cond f X [] ≡ cond f A []
one_cut a true A X s e = own_list a A X (s refl) e
one_cut a false A X s e = refl

two_lists : (a b : Bool) (A X Y : Log) → (a ≡ true → b ≡ true → ⊥) → X ≡ cond a A [] → Y ≡ cond b A [] → X ++ Y ≡ cond (a || b) A []
two_lists true true A X Y s e f = absurd (s refl refl)
two_lists true false A X Y s e f = ap₂ (λ (x y : Log). x ++ y) e f ∙ append-nil A
two_lists false true A X Y s e f = ap₂ (λ (x y : Log). x ++ y) e f
two_lists false false A X Y s e f = ap₂ (λ (x y : Log). x ++ y) e f

module _ (w size : ℕ) (opened : List ℕ) where
  abbrev R : St → Type 0
  R s = IsPostTable w size opened s

  -- only views change, and workers go from seat to seat
  reviewed : (s : St) (r : R s) (vs : List View) (owner : ℕ → ℕ) → ((j : ℕ) (u : View) → get_elem? vs j ≡ some u → IsSeated w size s.words r.posted r.took owner j u)
      → ((i : ℕ) → i < w → HasSeat vs owner i)
      → ((i k : ℕ) (slot : Slot) → IsOut s.views (r.owner i) k slot → IsOut vs (owner i) k slot)
      → R (record { words = s.words; homes = s.homes; views = vs })
  reviewed s r vs owner seats workers outs = record {
    posted = r.posted;
    took = r.took;
    owner = owner;
    wide = r.wide;
    long = r.long;
    each_pair = λ k near.
        let i : ℕ = turn w (get_or s.words k 0) k in
        mailbox_on size (get_or opened k 0 / 2) (get_or s.words k 0) (get_or s.words k 0) (r.posted k) (r.took k) s.views vs (r.owner i) (owner i) k (get_elem? s.homes k) (get_elem? s.homes k) refl refl
        (outs i k (get_elem? s.homes k)) (r.each_pair k near);
    each_seat = seats;
    each_worker = workers;
  }

  module _ (s : St) (r : R s) (id : ℕ) (v : View) (at : get_elem? s.views id ≡ some v) (live : v.is_spent ≡ false) (free : v.holding ≡ None) where
    abbrev seated : IsSeated w size s.words r.posted r.took r.owner id v
    seated = r.each_seat id v at

    count_is : v.count ≡ w
    count_is = (seated.alike live).1

    pub looked_seat : (found : ℕ) → IsSeated w size s.words r.posted r.took r.owner id (looked found v)
    looked_seat found = record {
      owns = seated.owns;
      posts = seated.posts;
      takes = seated.takes;
      posts_pairs = seated.posts_pairs;
      takes_pairs = seated.takes_pairs;
      knows = seated.knows;
      alike = seated.alike;
      holder = λ k h. absurd (none_some v.holding k free h);
    }

    pub chosen_seat : (n found : ℕ) → IsSeated w size s.words r.posted r.took r.owner id (chosen n found v)
    chosen_seat n found = record {
      owns = seated.owns;
      posts = seated.posts;
      takes = seated.takes;
      posts_pairs = seated.posts_pairs;
      takes_pairs = seated.takes_pairs;
      knows = seated.knows;
      alike = seated.alike;
      holder = λ k h. absurd (none_some v.holding k free h);
    }

    meeting_known : IsKnown (pair_count w) r.posted r.took (record { posted = v.posted; took = v.took })
    meeting_known = record {
      of_posted = λ k near. begins_part (is_here v (poster_of w k)) (r.posted k) (of_pair k v.posted) (seated.posts k near);
      of_took = λ k near. begins_part (is_here v (receiver_of w k)) (r.took k) (of_pair k v.took) (seated.takes k near);
    }

    pub learned_seat : (found : ℕ) → IsSeated w size s.words r.posted r.took r.owner id (learned (looked found v))
    learned_seat found = record {
      owns = seated.owns;
      posts = seated.posts;
      takes = seated.takes;
      posts_pairs = seated.posts_pairs;
      takes_pairs = seated.takes_pairs;
      knows = All-cons (IsKnown (pair_count w) r.posted r.took) (record { posted = v.posted; took = v.took }) v.known meeting_known seated.knows;
      alike = seated.alike;
      holder = λ k h. absurd (none_some v.holding k free h);
    }

    shows_at : (k : ℕ) → k < pair_count w → is_here v (poster_of w k) ≡ true → is_here v (receiver_of w k) ≡ true → ShowsLane (of_pair k v.posted) (of_pair k v.took)
    shows_at k near p c =
        let i : ℕ = turn w (get_or s.words k 0) k in
        let m : IsMailbox size (get_or opened k 0 / 2) (get_or s.words k 0) (r.posted k) (r.took k) s.views (r.owner i) k (get_elem? s.homes k) = r.each_pair k near in
        let a : of_pair k v.posted ≡ r.posted k = own_list (is_here v (poster_of w k)) (r.posted k) (of_pair k v.posted) p (seated.posts k near) in
        let b : of_pair k v.took ≡ r.took k = own_list (is_here v (receiver_of w k)) (r.took k) (of_pair k v.took) c (seated.takes k near) in
        record {
          waiting = m.waiting;
          keeps_up = subst (λ (l : Log). KeepsUp (lane_of_logs l (of_pair k v.took) m.waiting)) (sym a)
              (subst (λ (l : Log). KeepsUp (lane_of_logs (r.posted k) l m.waiting)) (sym b) m.keeps_up);
        }

    -- what stands in a view shows the exchange
    pub shows : ShowsExchange v
    shows = subst (λ (z : ℕ). (k : ℕ) → k < pair_count z → is_here v (poster_of z k) ≡ true → is_here v (receiver_of z k) ≡ true → ShowsLane (of_pair k v.posted) (of_pair k v.took)) (sym count_is) shows_at

    -- a worker leaves
    module _ (n : ℕ) (is : v.number ≡ n) (mine : is_here v n ≡ true) where
      abbrev fresh : ℕ
      fresh = length s.views

      abbrev owner' : ℕ → ℕ
      owner' i = cond (i == n) fresh (r.owner i)

      abbrev left : View
      left = without n v

      abbrev right : View
      right = parted n v

      owner_else : (i : ℕ) → i ≢ n → owner' i ≡ r.owner i
      owner_else i ne = ap (λ (b : Bool). cond b fresh (r.owner i)) (ne_eqb i n ne)

      owner_here : owner' n ≡ fresh
      owner_here = ap (λ (b : Bool). cond b fresh (r.owner n)) (eq-eqb n n refl)

      main_owns : r.owner n ≡ id
      main_owns = (seated.owns n mine).1

      -- a worker of another seat isn't the one that leaves
      other_worker : (j i : ℕ) → j ≢ id → r.owner i ≡ j → i ≢ n
      other_worker j i other whose e = other (sym whose ∙ ap r.owner e ∙ main_owns)

      left_here : (i : ℕ) → is_here left i ≡ (is_here v i && not (i == n))
      left_here i = among-without i n v.here

      cut_posted : (k : ℕ) → of_pair k left.posted ≡ cond (not (poster_of w k == n)) (of_pair k v.posted) []
      cut_posted k = of_pair-filter (λ (p : ℕ). not (poster_of v.count p == n)) k v.posted
          ∙ ap (λ (z : ℕ). cond (not (poster_of z k == n)) (of_pair k v.posted) []) count_is

      cut_took : (k : ℕ) → of_pair k left.took ≡ cond (not (receiver_of w k == n)) (of_pair k v.took) []
      cut_took k = of_pair-filter (λ (p : ℕ). not (receiver_of v.count p == n)) k v.took
          ∙ ap (λ (z : ℕ). cond (not (receiver_of z k == n)) (of_pair k v.took) []) count_is

      own_posted : (k : ℕ) → of_pair k right.posted ≡ cond (poster_of w k == n) (of_pair k v.posted) []
      own_posted k = of_pair-filter (λ (p : ℕ). poster_of v.count p == n) k v.posted
          ∙ ap (λ (z : ℕ). cond (poster_of z k == n) (of_pair k v.posted) []) count_is

      own_took : (k : ℕ) → of_pair k right.took ≡ cond (receiver_of w k == n) (of_pair k v.took) []
      own_took k = of_pair-filter (λ (p : ℕ). receiver_of v.count p == n) k v.took
          ∙ ap (λ (z : ℕ). cond (receiver_of z k == n) (of_pair k v.took) []) count_is

      left_seat : IsSeated w size s.words r.posted r.took owner' id left
      left_seat = record {
        owns = λ i t.
            let both : (is_here v i && not (i == n)) ≡ true = sym (left_here i) ∙ t in
            let old : (i < w) × (r.owner i ≡ id) = seated.owns i (and_left (is_here v i) (not (i == n)) both) in
            (old.0, ap (λ (b : Bool). cond b fresh (r.owner i)) (and_right (is_here v i) (i == n) both) ∙ old.1);
        posts = λ k near. cut_posted k ∙ both_cut (is_here v (poster_of w k)) (poster_of w k == n) (r.posted k) (of_pair k v.posted) (seated.posts k near)
            ∙ ap (λ (b : Bool). cond b (r.posted k) []) (sym (left_here (poster_of w k)));
        takes = λ k near. cut_took k ∙ both_cut (is_here v (receiver_of w k)) (receiver_of w k == n) (r.took k) (of_pair k v.took) (seated.takes k near)
            ∙ ap (λ (b : Bool). cond b (r.took k) []) (sym (left_here (receiver_of w k)));
        posts_pairs = All-filter (λ (m : Moved). not (poster_of v.count m.pair == n)) (λ (m : Moved). m.pair < pair_count w) v.posted seated.posts_pairs;
        takes_pairs = All-filter (λ (m : Moved). not (receiver_of v.count m.pair == n)) (λ (m : Moved). m.pair < pair_count w) v.took seated.takes_pairs;
        knows = seated.knows;
        alike = seated.alike;
        holder = λ k h. absurd (none_some v.holding k free h);
      }

      -- the worker that leaves is here
      here_at : (i : ℕ) → (i == n) ≡ true → is_here v i ≡ true
      here_at i t = ap (is_here v) (eqb-true i n t) ∙ mine

      right_seat : IsSeated w size s.words r.posted r.took owner' fresh right
      right_seat = record {
        owns = λ i t. let e : i ≡ n = among_one-is i n t in
            (subst (λ (z : ℕ). z < w) (sym e) (seated.owns n mine).0, ap owner' e ∙ owner_here);
        posts = λ k near. own_posted k ∙ one_cut (is_here v (poster_of w k)) (poster_of w k == n) (r.posted k) (of_pair k v.posted) (here_at (poster_of w k)) (seated.posts k near)
            ∙ ap (λ (b : Bool). cond b (r.posted k) []) (sym (among-one (poster_of w k) n));
        takes = λ k near. own_took k ∙ one_cut (is_here v (receiver_of w k)) (receiver_of w k == n) (r.took k) (of_pair k v.took) (here_at (receiver_of w k)) (seated.takes k near)
            ∙ ap (λ (b : Bool). cond b (r.took k) []) (sym (among-one (receiver_of w k) n));
        posts_pairs = All-filter (λ (m : Moved). poster_of v.count m.pair == n) (λ (m : Moved). m.pair < pair_count w) v.posted seated.posts_pairs;
        takes_pairs = All-filter (λ (m : Moved). receiver_of v.count m.pair == n) (λ (m : Moved). m.pair < pair_count w) v.took seated.takes_pairs;
        knows = seated.knows;
        alike = λ _. seated.alike live;
        holder = λ k h. absurd (none_some None k refl h);
      }

      apart_seat : (j : ℕ) (u : View) → j ≢ id → get_elem? s.views j ≡ some u → IsSeated w size s.words r.posted r.took owner' j u
      apart_seat j u other there =
          let old : IsSeated w size s.words r.posted r.took r.owner j u = r.each_seat j u there in
          record {
            owns = λ i t. let o : (i < w) × (r.owner i ≡ j) = old.owns i t in (o.0, owner_else i (other_worker j i other o.1) ∙ o.1);
            posts = old.posts;
            takes = old.takes;
            posts_pairs = old.posts_pairs;
            takes_pairs = old.takes_pairs;
            knows = old.knows;
            alike = old.alike;
            holder = λ k h.
                let hd : IsHolder w s.words r.posted r.took r.owner j u k = old.holder k h in
                record { near = hd.near; saw = hd.saw; whose = owner_else (turn w u.last k) (other_worker j (turn w u.last k) other hd.whose) ∙ hd.whose; page = hd.page };
          }

      abbrev parted_views : List View
      parted_views = set s.views id left ++ right ∷ []

      inside : id < length s.views
      inside = within s.views id v at

      parted_worker : (i : ℕ) → i < w → HasSeat parted_views owner' i
      parted_worker i near = dite (ℕ_discrete i n)
          (λ (e : i ≡ n). record {
            view = right;
            there = subst (λ (z : ℕ). get_elem? parted_views z ≡ some right) (sym (ap owner' e ∙ owner_here)) (at_last (set s.views id left) right fresh (length-set s.views id left));
            here = ap (λ (z : ℕ). is_among z (n ∷ [])) e ∙ among_one-here n;
          })
          (λ (ne : i ≢ n).
          let h : HasSeat s.views r.owner i = r.each_worker i near in
          dite (ℕ_discrete (r.owner i) id)
          (λ (e : r.owner i ≡ id). record {
            view = left;
            there = subst (λ (z : ℕ). get_elem? parted_views z ≡ some left) (sym (owner_else i ne ∙ e)) (at_longer (set s.views id left) (right ∷ []) id left (set_here s.views id left inside));
            here = left_here i ∙ and_both (is_here v i) (i == n)
                (ap (λ (u : View). is_here u i) (same_view s.views id v h.view at (subst (λ (z : ℕ). get_elem? s.views z ≡ some h.view) e h.there)) ∙ h.here) (ne_eqb i n ne);
          })
          (λ (other : r.owner i ≢ id). record {
            view = h.view;
            there = subst (λ (z : ℕ). get_elem? parted_views z ≡ some h.view) (sym (owner_else i ne))
                (at_longer (set s.views id left) (right ∷ []) (r.owner i) h.view (set_else s.views id (r.owner i) left other ∙ h.there));
            here = h.here;
          }))

      parted_out : (i k : ℕ) (slot : Slot) → IsOut s.views (r.owner i) k slot → IsOut parted_views (owner' i) k slot
      parted_out i k slot o =
          let other : r.owner i ≢ id = λ e. none_some v.holding k free (ap (λ (u : View). u.holding) (same_view s.views id v o.view at (subst (λ (z : ℕ). get_elem? s.views z ≡ some o.view) e o.there)) ∙ o.holds) in
          record {
            away = o.away;
            view = o.view;
            there = subst (λ (z : ℕ). get_elem? parted_views z ≡ some o.view) (sym (owner_else i (λ e. other (ap r.owner e ∙ main_owns))))
                (at_longer (set s.views id left) (right ∷ []) (r.owner i) o.view (set_else s.views id (r.owner i) left other ∙ o.there));
            holds = o.holds;
          }

      parted_seat : (j : ℕ) (u : View) → get_elem? parted_views j ≡ some u → IsSeated w size s.words r.posted r.took owner' j u
      parted_seat j u e = elim (at_end (set s.views id left) right u j e) [
        | inl h ↦ elim (at_set s.views id j left u h) [
          | inl t ↦ subst (λ (y : ℕ × View). IsSeated w size s.words r.posted r.took owner' y.0 y.1) (λ i. (sym t.0 i, t.1 i)) left_seat
          | inr t ↦ apart_seat j u t.0 t.1
        ]
        | inr h ↦
            let e' : fresh ≡ j = sym (h.0 ∙ length-set s.views id left) in
            subst (λ (y : ℕ × View). IsSeated w size s.words r.posted r.took owner' y.0 y.1) (λ i. (e' i, h.1 i)) right_seat
      ]

      pub parted_rule : R (record { words = s.words; homes = s.homes; views = parted_views })
      parted_rule = reviewed s r parted_views owner' parted_seat parted_worker parted_out

    -- another seat's lists come in, and its view is spent
    module _ (other : ℕ) (u : View) (apart : ¬ (other ≡ id)) (at_u : get_elem? s.views other ≡ some u) (free_u : u.holding ≡ None) where
      abbrev both : View
      both = both_of v u

      abbrev kept_owner : ℕ → ℕ
      kept_owner i = cond (r.owner i == other) id (r.owner i)

      kept_else : (i : ℕ) → r.owner i ≢ other → kept_owner i ≡ r.owner i
      kept_else i ne = ap (λ (b : Bool). cond b id (r.owner i)) (ne_eqb (r.owner i) other ne)

      kept_here : (i : ℕ) → r.owner i ≡ other → kept_owner i ≡ id
      kept_here i e = ap (λ (b : Bool). cond b id (r.owner i)) (eq-eqb (r.owner i) other e)

      abbrev seated_u : IsSeated w size s.words r.posted r.took r.owner other u
      seated_u = r.each_seat other u at_u

      not_two : (i : ℕ) → is_here v i ≡ true → is_here u i ≡ true → ⊥
      not_two i a b = apart (sym (seated_u.owns i b).1 ∙ (seated.owns i a).1)

      both_here : (i : ℕ) → is_here both i ≡ (is_here v i || is_here u i)
      both_here i = among-append i v.here u.here

      both_seat : IsSeated w size s.words r.posted r.took kept_owner id both
      both_seat = record {
        owns = λ i t. elim (or_either (is_here v i) (is_here u i) (sym (both_here i) ∙ t)) [
          | inl a ↦ let o : (i < w) × (r.owner i ≡ id) = seated.owns i a in (o.0, kept_else i (λ e. apart (sym e ∙ o.1)) ∙ o.1)
          | inr b ↦ let o : (i < w) × (r.owner i ≡ other) = seated_u.owns i b in (o.0, kept_here i o.1)
        ];
        posts = λ k near. of_pair-append k v.posted u.posted
            ∙ two_lists (is_here v (poster_of w k)) (is_here u (poster_of w k)) (r.posted k) (of_pair k v.posted) (of_pair k u.posted) (not_two (poster_of w k)) (seated.posts k near) (seated_u.posts k near)
            ∙ ap (λ (b : Bool). cond b (r.posted k) []) (sym (both_here (poster_of w k)));
        takes = λ k near. of_pair-append k v.took u.took
            ∙ two_lists (is_here v (receiver_of w k)) (is_here u (receiver_of w k)) (r.took k) (of_pair k v.took) (of_pair k u.took) (not_two (receiver_of w k)) (seated.takes k near) (seated_u.takes k near)
            ∙ ap (λ (b : Bool). cond b (r.took k) []) (sym (both_here (receiver_of w k)));
        posts_pairs = All-append (λ (m : Moved). m.pair < pair_count w) v.posted u.posted seated.posts_pairs seated_u.posts_pairs;
        takes_pairs = All-append (λ (m : Moved). m.pair < pair_count w) v.took u.took seated.takes_pairs seated_u.takes_pairs;
        knows = All-append (IsKnown (pair_count w) r.posted r.took) v.known u.known seated.knows seated_u.knows;
        alike = seated.alike;
        holder = λ k h. absurd (none_some v.holding k free h);
      }

      spent_seat : IsSeated w size s.words r.posted r.took kept_owner other spent_view
      spent_seat = record {
        owns = λ i t. absurd (true≢false (sym t));
        posts = λ k near. refl;
        takes = λ k near. refl;
        posts_pairs = All-nil (λ (m : Moved). m.pair < pair_count w);
        takes_pairs = All-nil (λ (m : Moved). m.pair < pair_count w);
        knows = All-nil (IsKnown (pair_count w) r.posted r.took);
        alike = λ t. absurd (true≢false t);
        holder = λ k h. absurd (none_some None k refl h);
      }

      third_seat : (j : ℕ) (y : View) → j ≢ other → j ≢ id → get_elem? s.views j ≡ some y → IsSeated w size s.words r.posted r.took kept_owner j y
      third_seat j y ne ne' there =
          let old : IsSeated w size s.words r.posted r.took r.owner j y = r.each_seat j y there in
          record {
            owns = λ i t. let o : (i < w) × (r.owner i ≡ j) = old.owns i t in (o.0, kept_else i (λ e. ne (sym o.1 ∙ e)) ∙ o.1);
            posts = old.posts;
            takes = old.takes;
            posts_pairs = old.posts_pairs;
            takes_pairs = old.takes_pairs;
            knows = old.knows;
            alike = old.alike;
            holder = λ k h.
                let hd : IsHolder w s.words r.posted r.took r.owner j y k = old.holder k h in
                record { near = hd.near; saw = hd.saw; whose = kept_else (turn w y.last k) (λ e. ne (sym hd.whose ∙ e)) ∙ hd.whose; page = hd.page };
          }

      abbrev met_views : List View
      met_views = set (set s.views id both) other spent_view

      id_apart : id ≢ other
      id_apart e = apart (sym e)

      main_there : get_elem? met_views id ≡ some both
      main_there = set_else (set s.views id both) other id spent_view id_apart ∙ set_here s.views id both (within s.views id v at)

      third_there : (j : ℕ) (y : View) → j ≢ other → j ≢ id → get_elem? s.views j ≡ some y → get_elem? met_views j ≡ some y
      third_there j y ne ne' e = set_else (set s.views id both) other j spent_view ne ∙ set_else s.views id j both ne' ∙ e

      met_seat : (j : ℕ) (y : View) → get_elem? met_views j ≡ some y → IsSeated w size s.words r.posted r.took kept_owner j y
      met_seat j y e = elim (at_set (set s.views id both) other j spent_view y e) [
        | inl t ↦ subst (λ (z : ℕ × View). IsSeated w size s.words r.posted r.took kept_owner z.0 z.1) (λ i. (sym t.0 i, t.1 i)) spent_seat
        | inr t ↦ elim (at_set s.views id j both y t.1) [
          | inl h ↦ subst (λ (z : ℕ × View). IsSeated w size s.words r.posted r.took kept_owner z.0 z.1) (λ i. (sym h.0 i, h.1 i)) both_seat
          | inr h ↦ third_seat j y t.0 h.0 h.1
        ]
      ]

      met_worker : (i : ℕ) → i < w → HasSeat met_views kept_owner i
      met_worker i near =
          let h : HasSeat s.views r.owner i = r.each_worker i near in
          dite (ℕ_discrete (r.owner i) other)
          (λ (e : r.owner i ≡ other). record {
            view = both;
            there = subst (λ (z : ℕ). get_elem? met_views z ≡ some both) (sym (kept_here i e)) main_there;
            here = both_here i ∙ or_second (is_here v i) (is_here u i)
                (ap (λ (y : View). is_here y i) (same_view s.views other u h.view at_u (subst (λ (z : ℕ). get_elem? s.views z ≡ some h.view) e h.there)) ∙ h.here);
          })
          (λ (ne : r.owner i ≢ other). dite (ℕ_discrete (r.owner i) id)
          (λ (e : r.owner i ≡ id). record {
            view = both;
            there = subst (λ (z : ℕ). get_elem? met_views z ≡ some both) (sym (kept_else i ne ∙ e)) main_there;
            here = both_here i ∙ or_first (is_here v i) (is_here u i)
                (ap (λ (y : View). is_here y i) (same_view s.views id v h.view at (subst (λ (z : ℕ). get_elem? s.views z ≡ some h.view) e h.there)) ∙ h.here);
          })
          (λ (ne' : r.owner i ≢ id). record {
            view = h.view;
            there = subst (λ (z : ℕ). get_elem? met_views z ≡ some h.view) (sym (kept_else i ne)) (third_there (r.owner i) h.view ne ne' h.there);
            here = h.here;
          }))

      met_out : (i k : ℕ) (slot : Slot) → IsOut s.views (r.owner i) k slot → IsOut met_views (kept_owner i) k slot
      met_out i k slot o =
          let ne' : r.owner i ≢ id = λ e. none_some v.holding k free (ap (λ (y : View). y.holding) (same_view s.views id v o.view at (subst (λ (z : ℕ). get_elem? s.views z ≡ some o.view) e o.there)) ∙ o.holds) in
          let ne : r.owner i ≢ other = λ e. none_some u.holding k free_u (ap (λ (y : View). y.holding) (same_view s.views other u o.view at_u (subst (λ (z : ℕ). get_elem? s.views z ≡ some o.view) e o.there)) ∙ o.holds) in
          record {
            away = o.away;
            view = o.view;
            there = subst (λ (z : ℕ). get_elem? met_views z ≡ some o.view) (sym (kept_else i ne)) (third_there (r.owner i) o.view ne ne' o.there);
            holds = o.holds;
          }

      pub met_rule : R (record { words = s.words; homes = s.homes; views = met_views })
      met_rule = reviewed s r met_views kept_owner met_seat met_worker met_out

  pub splits : (id : ℕ) (v : View) → v.is_spent ≡ false → v.holding ≡ None → is_here v v.number ≡ true → Splits R id v (without v.number v) (parted v.number v)
  splits id v live free mine s r at = parted_rule s r id v at live free v.number refl mine

  pub joins : (id : ℕ) (v : View) (other : ℕ) (u : View) → v.is_spent ≡ false → v.holding ≡ None → u.holding ≡ None → Joins R id v other u (both_of v u) spent_view
  joins id v other u live free free_u s r at apart at' =
      met_rule s r id v at live free other u apart (sym (set_else s.views id other (both_of v u) apart) ∙ at') free_u
