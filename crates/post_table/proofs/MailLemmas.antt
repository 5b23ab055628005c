-- The steps of a poster and of a receiver on a mailbox.
use Rattle.std.proofs.Common.{◌≡◌, ◌≢◌, ℕ, ◌+◌, ◌*◌, ◌/◌, ◌%◌, ◌<◌, ◌≤◌, inl, inr, Bool, true, cond, List, [], ◌∷◌, ◌++◌, ◌∙◌, ap, sym, subst, length, get_or, set, Option, Some, None, refl, arith, append-nil, length-append, length-set, eq-eqb, ne_eqb}
use Rattle.std.proofs.lemmas.List.Elements.{All-push}
use mathlib.Core.Logic.{dite}
use mathlib.Core.Option.{none, some}
use mathlib.Core.Option as maybe
use native.Mathlib.Decide.{ℕ_discrete}
use lib.ListN.{get_elem?}
use lib.Seq.{set-get_or}
use Rattle.atomic_table.proofs.Lists.{set_here, set_else}
use Rattle.segment_core.specs.Segments.{SegmentView}
use Rattle.exchange_core.specs.Lane.{Bytes}
use Rattle.exchange_core.specs.Laws.{KeepsUp}
use Rattle.post_table.specs.Pairs.{pair_count, poster_of, receiver_of, turn}
use Rattle.post_table.specs.Views.{Log, of_pair, pages_of, is_here, lane_of_logs, looked, taking, after_posting, after_taking}
use Rattle.post_table.specs.Steps.{IsUnreceived, HasTakenKnown}
use Rattle.post_table.specs.Rule.{word_of, HoldsPage, IsHome, IsOut, IsMailbox, BeginsWith, IsKnown, IsHolder, IsSeated, IsPostTable}
use Rattle.post_table.specs.declared.view.Moved.{Moved}
use Rattle.post_table.specs.declared.view.Meeting.{Meeting}
use Rattle.post_table.specs.declared.view.View.{View}
use Rattle.post_table.proofs.LogLemmas.{of_pair-more, of_pair-other, pages-more, length-pages, last_in-more, weigh_in-more, weigh_out-more, begins_all}
use Rattle.post_table.proofs.StepLemmas.{St, IsMove, none_some, one_some, same_view, within, lists_more, own_list, grown, grown_here, grown_else, known_all, moved}

pub turn_even : (w word k : ℕ) → word % 2 ≡ 0 → turn w word k ≡ poster_of w k
unfolding turn
turn_even w word k even = ap (λ (b : Bool). cond b (poster_of w k) (receiver_of w k)) (eq-eqb (word % 2) 0 even)

pub turn_odd : (w word k : ℕ) → word % 2 ≡ 1 → turn w word k ≡ receiver_of w k
unfolding turn
turn_odd w word k odd =
    let other : word % 2 ≢ 0 = λ (e : word % 2 ≡ 0). omega arith in
    ap (λ (b : Bool). cond b (poster_of w k) (receiver_of w k)) (ne_eqb (word % 2) 0 other)

pub half_word : (id word : ℕ) (o : Option Bytes) → word ≡ word_of id o → word / 2 ≡ id
half_word id word None e = let f : word ≡ 2 * id = e in omega arith
half_word id word (Some page) e = let f : word ≡ 2 * id + 1 = e in omega arith

-- where the word is odd a page waits, and the slot holds it
pub waits : (id word : ℕ) (o : Option Bytes) (P T : Log) (y : SegmentView) → word ≡ word_of id o → KeepsUp (lane_of_logs P T o) → HoldsPage o y → word % 2 ≡ 1 → pages_of P ≡ pages_of T ++ y.bytes ∷ []
waits id word None P T y e keeps holds odd = let f : word ≡ 2 * id = e in absurd (omega arith)
waits id word (Some page) P T y e keeps holds odd = keeps.between ∙ ap (λ (p : Bytes). pages_of T ++ p ∷ []) (sym holds)

-- where it is even all that was posted was taken, and the id is what went in last at the receiver's
pub all_taken : (id word : ℕ) (o : Option Bytes) (P T : Log) → word ≡ word_of id o → KeepsUp (lane_of_logs P T o) → word % 2 ≡ 0 → pages_of P ≡ pages_of T
all_taken id word None P T e keeps even = keeps.between
all_taken id word (Some page) P T e keeps even = let f : word ≡ 2 * id + 1 = e in absurd (omega arith)

-- where it is odd one more was posted than taken
pub one_more : (id word : ℕ) (o : Option Bytes) (P T : Log) → word ≡ word_of id o → KeepsUp (lane_of_logs P T o) → word % 2 ≡ 1 → length P ≡ length T + 1
one_more id word None P T e keeps odd = let f : word ≡ 2 * id = e in absurd (omega arith)
one_more id word (Some page) P T e keeps odd =
    omega (arith, ap length keeps.between, length-append (pages_of T) (page ∷ []), length-pages P, length-pages T)

pub begins_length : (known whole : Log) → BeginsWith known whole → length known ≤ length whole
begins_length known whole b = omega (arith, ap length b.is, length-append known b.rest)

-- a page put into an empty mailbox
keeps_put : (P T : Log) (e : Moved) → pages_of P ≡ pages_of T → KeepsUp (lane_of_logs (P ++ e ∷ []) T (Some e.bytes))
keeps_put P T e same =
    let grows : pages_of (P ++ e ∷ []) ≡ pages_of T ++ e.bytes ∷ [] = pages-more P e ∙ ap (λ (l : List Bytes). l ++ e.bytes ∷ []) same in
    record {
      prefix = (e.bytes ∷ [], sym grows);
      behind = omega (arith, ap length grows, length-append (pages_of T) (e.bytes ∷ []));
      between = grows;
    }

-- a page got out of a full one
keeps_got : (P T : Log) (e : Moved) → pages_of P ≡ pages_of T ++ e.bytes ∷ [] → KeepsUp (lane_of_logs P (T ++ e ∷ []) None)
keeps_got P T e is =
    let same : pages_of P ≡ pages_of (T ++ e ∷ []) = is ∙ sym (pages-more T e) in
    record {
      prefix = ([], append-nil (pages_of (T ++ e ∷ [])) ∙ sym same);
      behind = omega (arith, ap length same);
      between = same;
    }

module _ (w size : ℕ) (opened : List ℕ) where
  abbrev R : St → Type 0
  R s = IsPostTable w size opened s

  abbrev Mail : (s : St) (r : R s) → ℕ → Type 0
  Mail s r k = IsMailbox size (get_or opened k 0 / 2) (get_or s.words k 0) (r.posted k) (r.took k) s.views (r.owner (turn w (get_or s.words k 0) k)) k (get_elem? s.homes k)

  -- the slot is at home for the worker whose turn it is, where it holds none
  pub at_home : (s : St) (r : R s) (k id : ℕ) (v : View) → (near : k < pair_count w) → get_elem? s.views id ≡ some v → v.holding ≡ None → is_here v (turn w (get_or s.words k 0) k) ≡ true
      → IsHome size (r.each_pair k near).id (r.each_pair k near).waiting (get_elem? s.homes k)
  at_home s r k id v near at free mine =
      let m : Mail s r k = r.each_pair k near in
      let who : ℕ = turn w (get_or s.words k 0) k in
      let whose : r.owner who ≡ id = ((r.each_seat id v at).owns who mine).1 in
      elim m.lies [
        | inl h ↦ h
        | inr o ↦ absurd (none_some v.holding k free (ap (λ (u : View). u.holding) (same_view s.views id v o.view at (subst (λ (z : ℕ). get_elem? s.views z ≡ some o.view) whose o.there)) ∙ o.holds))
      ]

  -- What a load finds that takes the slot out.
  pub record IsTaking (s : St) (k id : ℕ) (v : View) : Type 0 where
    pub segment : SegmentView
    pub there : get_elem? s.homes k ≡ some (some segment)
    pub same : segment.id ≡ get_or s.words k 0 / 2
    pub sized : length segment.bytes ≡ size
    pub rule : R (record {
      words = set s.words k (get_or s.words k 0);
      homes = set s.homes k none;
      views = set s.views id (taking k segment.bytes (looked (get_or s.words k 0) v));
    })

  pub takes_out : (s : St) (r : R s) (k id : ℕ) (v : View) → k < pair_count w → get_elem? s.views id ≡ some v → v.holding ≡ None → is_here v (turn w (get_or s.words k 0) k) ≡ true → IsTaking s k id v
  takes_out s r k id v near at free mine =
      let m : Mail s r k = r.each_pair k near in
      let x : ℕ = get_or s.words k 0 in
      let who : ℕ = turn w x k in
      let seated : IsSeated w size s.words r.posted r.took r.owner id v = r.each_seat id v at in
      let whose : r.owner who ≡ id = (seated.owns who mine).1 in
      let home : IsHome size m.id m.waiting (get_elem? s.homes k) = at_home s r k id v near at free mine in
      let y : SegmentView = home.segment in
      let v' : View = taking k y.bytes (looked x v) in
      let homes' : List (maybe.Option SegmentView) = set s.homes k none in
      let inside : k < length s.homes = (let long : length s.homes ≡ pair_count w = r.long in omega arith) in
      let move : IsMove w size opened s r k id x v v' homes' r.posted r.took = record {
        near = near;
        at = at;
        here = λ i. refl;
        free = λ j h. absurd (none_some v.holding j free h);
        whose = inl (refl, refl, refl);
        long = length-set s.homes k none ∙ r.long;
        homes_else = λ j ne. set_else s.homes k j none ne;
        posted_else = λ j _. refl;
        took_else = λ j _. refl;
        posted_grows = begins_all (r.posted k);
        took_grows = begins_all (r.took k);
        posted_by = inl refl;
        took_by = inl refl;
      } in
      let out : IsOut (set s.views id v') (r.owner who) k (get_elem? homes' k) = record {
        away = set_here s.homes k none inside;
        view = v';
        there = subst (λ (z : ℕ). get_elem? (set s.views id v') z ≡ some v') (sym whose) (set_here s.views id v' (within s.views id v at));
        holds = refl;
      } in
      let box : IsMailbox size (get_or opened k 0 / 2) x (r.posted k) (r.took k) (set s.views id v') (r.owner who) k (get_elem? homes' k) = record {
        id = m.id;
        waiting = m.waiting;
        shows = m.shows;
        keeps_up = m.keeps_up;
        in_last = m.in_last;
        lies = inr out;
        weighs = m.weighs;
      } in
      let holder : IsHolder w s.words r.posted r.took r.owner id v' k = record {
        near = near;
        saw = refl;
        whose = whose;
        page = λ odd. waits m.id x m.waiting (r.posted k) (r.took k) y m.shows m.keeps_up home.page odd;
      } in
      let mine' : IsSeated w size s.words r.posted r.took r.owner id v' = record {
        owns = seated.owns;
        posts = seated.posts;
        takes = seated.takes;
        posts_pairs = seated.posts_pairs;
        takes_pairs = seated.takes_pairs;
        knows = seated.knows;
        alike = seated.alike;
        holder = λ j h. subst (λ (z : ℕ). IsHolder w s.words r.posted r.took r.owner id v' z) (sym (one_some (Some k) k j refl h)) holder;
      } in
      record {
        segment = y;
        there = home.there;
        same = home.same ∙ sym (half_word m.id x m.waiting m.shows);
        sized = home.sized;
        rule = moved w size opened s r k id x v v' homes' r.posted r.took move box
            (subst (λ (ws : List ℕ). IsSeated w size ws r.posted r.took r.owner id v') (sym (set-get_or s.words k 0)) mine');
      }

  -- the poster's store
  pub puts : (s : St) (r : R s) (k id x : ℕ) (v : View) (page : SegmentView) → k < pair_count w → get_elem? s.views id ≡ some v → v.holding ≡ Some k → v.last % 2 ≡ 0
      → is_here v (poster_of w k) ≡ true → length page.bytes ≡ size → x ≡ 2 * page.id + 1
      → R (record { words = set s.words k x; homes = set s.homes k (some page); views = set s.views id (after_posting k page v) })
  puts s r k id x v page near at held even mine sized is =
      let m : Mail s r k = r.each_pair k near in
      let word : ℕ = get_or s.words k 0 in
      let seated : IsSeated w size s.words r.posted r.took r.owner id v = r.each_seat id v at in
      let hd : IsHolder w s.words r.posted r.took r.owner id v k = seated.holder k held in
      let even' : word % 2 ≡ 0 = ap (λ (z : ℕ). z % 2) hd.saw ∙ even in
      let e : Moved = record { pair = k; bytes = page.bytes; went_in = page.id; came_out = v.last / 2 } in
      let P' : ℕ → Log = grown r.posted k e in
      let v' : View = after_posting k page v in
      let homes' : List (maybe.Option SegmentView) = set s.homes k (some page) in
      let inside : k < length s.homes = (let long : length s.homes ≡ pair_count w = r.long in omega arith) in
      let owner_is : r.owner (poster_of w k) ≡ id = (seated.owns (poster_of w k) mine).1 in
      let out_is : m.id ≡ v.last / 2 = sym (half_word m.id word m.waiting m.shows) ∙ ap (λ (z : ℕ). z / 2) hd.saw in
      let grows : BeginsWith (r.posted k) (P' k) = record { rest = e ∷ []; is = grown_here r.posted k e } in
      let move : IsMove w size opened s r k id x v v' homes' P' r.took = record {
        near = near;
        at = at;
        here = λ i. refl;
        free = λ j h. one_some v.holding k j held h;
        whose = inr (ap (λ (z : ℕ). r.owner (turn w z k)) hd.saw ∙ hd.whose);
        long = length-set s.homes k (some page) ∙ r.long;
        homes_else = λ j ne. set_else s.homes k j (some page) ne;
        posted_else = λ j ne. grown_else r.posted k e j ne;
        took_else = λ j _. refl;
        posted_grows = grows;
        took_grows = begins_all (r.took k);
        posted_by = inr owner_is;
        took_by = inl refl;
      } in
      let same : pages_of (r.posted k) ≡ pages_of (r.took k) = all_taken m.id word m.waiting (r.posted k) (r.took k) m.shows m.keeps_up even' in
      let box : IsMailbox size (get_or opened k 0 / 2) x (r.posted k ++ e ∷ []) (r.took k) (set s.views id v') (r.owner (turn w x k)) k (get_elem? homes' k) = record {
        id = page.id;
        waiting = Some page.bytes;
        shows = is;
        keeps_up = keeps_put (r.posted k) (r.took k) e same;
        in_last = sym (last_in-more (get_or opened k 0 / 2) (r.posted k) e);
        lies = inl (record { segment = page; there = set_here s.homes k (some page) inside; same = refl; sized = sized; page = refl });
        weighs = λ h. omega (arith, m.weighs h, weigh_out-more h (r.posted k) e, weigh_in-more h (r.posted k) e, ap h out_is);
      } in
      let box' : IsMailbox size (get_or opened k 0 / 2) x (P' k) (r.took k) (set s.views id v') (r.owner (turn w x k)) k (get_elem? homes' k) =
      subst (λ (l : Log). IsMailbox size (get_or opened k 0 / 2) x l (r.took k) (set s.views id v') (r.owner (turn w x k)) k (get_elem? homes' k)) (sym (grown_here r.posted k e)) box in
      let more_here : of_pair k (v.posted ++ e ∷ []) ≡ cond (is_here v (poster_of w k)) (P' k) [] =
      of_pair-more k v.posted e refl
      ∙ lists_more (is_here v (poster_of w k)) (r.posted k) (of_pair k v.posted) e mine (seated.posts k near)
      ∙ ap (λ (l : Log). cond (is_here v (poster_of w k)) l []) (sym (grown_here r.posted k e)) in
      let posts' : (i : ℕ) → i < pair_count w → of_pair i (v.posted ++ e ∷ []) ≡ cond (is_here v (poster_of w i)) (P' i) [] = λ i near'. dite (ℕ_discrete i k)
      (λ (eq : i ≡ k). subst (λ (y : ℕ). of_pair y (v.posted ++ e ∷ []) ≡ cond (is_here v (poster_of w y)) (P' y) []) (sym eq) more_here)
      (λ (ne : i ≢ k). of_pair-other i v.posted e (λ q. ne (sym q)) ∙ seated.posts i near' ∙ ap (λ (l : Log). cond (is_here v (poster_of w i)) l []) (sym (grown_else r.posted k e i ne))) in
      moved w size opened s r k id x v v' homes' P' r.took move box' (record {
        owns = seated.owns;
        posts = posts';
        takes = seated.takes;
        posts_pairs = All-push (λ (y : Moved). y.pair < pair_count w) v.posted e seated.posts_pairs near;
        takes_pairs = seated.takes_pairs;
        knows = known_all w size opened s r k id x v v' homes' P' r.took move v.known seated.knows;
        alike = seated.alike;
        holder = λ j h. absurd (none_some None j refl h);
      })

  -- the receiver's store
  pub gets_page : (s : St) (r : R s) (k id x : ℕ) (v : View) (spare : SegmentView) → k < pair_count w → get_elem? s.views id ≡ some v → v.holding ≡ Some k → v.last % 2 ≡ 1
      → is_here v (receiver_of w k) ≡ true → length spare.bytes ≡ size → x ≡ 2 * spare.id
      → R (record { words = set s.words k x; homes = set s.homes k (some spare); views = set s.views id (after_taking k spare v) })
  gets_page s r k id x v spare near at held odd mine sized is =
      let m : Mail s r k = r.each_pair k near in
      let word : ℕ = get_or s.words k 0 in
      let seated : IsSeated w size s.words r.posted r.took r.owner id v = r.each_seat id v at in
      let hd : IsHolder w s.words r.posted r.took r.owner id v k = seated.holder k held in
      let e : Moved = record { pair = k; bytes = v.in_hand; went_in = spare.id; came_out = v.last / 2 } in
      let T' : ℕ → Log = grown r.took k e in
      let v' : View = after_taking k spare v in
      let homes' : List (maybe.Option SegmentView) = set s.homes k (some spare) in
      let inside : k < length s.homes = (let long : length s.homes ≡ pair_count w = r.long in omega arith) in
      let owner_is : r.owner (receiver_of w k) ≡ id = (seated.owns (receiver_of w k) mine).1 in
      let out_is : m.id ≡ v.last / 2 = sym (half_word m.id word m.waiting m.shows) ∙ ap (λ (z : ℕ). z / 2) hd.saw in
      let grows : BeginsWith (r.took k) (T' k) = record { rest = e ∷ []; is = grown_here r.took k e } in
      let move : IsMove w size opened s r k id x v v' homes' r.posted T' = record {
        near = near;
        at = at;
        here = λ i. refl;
        free = λ j h. one_some v.holding k j held h;
        whose = inr (ap (λ (z : ℕ). r.owner (turn w z k)) hd.saw ∙ hd.whose);
        long = length-set s.homes k (some spare) ∙ r.long;
        homes_else = λ j ne. set_else s.homes k j (some spare) ne;
        posted_else = λ j _. refl;
        took_else = λ j ne. grown_else r.took k e j ne;
        posted_grows = begins_all (r.posted k);
        took_grows = grows;
        posted_by = inl refl;
        took_by = inr owner_is;
      } in
      let box : IsMailbox size (get_or opened k 0 / 2) x (r.posted k) (r.took k ++ e ∷ []) (set s.views id v') (r.owner (turn w x k)) k (get_elem? homes' k) = record {
        id = spare.id;
        waiting = None;
        shows = is;
        keeps_up = keeps_got (r.posted k) (r.took k) e (hd.page odd);
        in_last = sym (last_in-more (get_or opened k 0 / 2) (r.took k) e);
        lies = inl (record { segment = spare; there = set_here s.homes k (some spare) inside; same = refl; sized = sized; page = tt });
        weighs = λ h. omega (arith, m.weighs h, weigh_out-more h (r.took k) e, weigh_in-more h (r.took k) e, ap h out_is);
      } in
      let box' : IsMailbox size (get_or opened k 0 / 2) x (r.posted k) (T' k) (set s.views id v') (r.owner (turn w x k)) k (get_elem? homes' k) =
      subst (λ (l : Log). IsMailbox size (get_or opened k 0 / 2) x (r.posted k) l (set s.views id v') (r.owner (turn w x k)) k (get_elem? homes' k)) (sym (grown_here r.took k e)) box in
      let more_here : of_pair k (v.took ++ e ∷ []) ≡ cond (is_here v (receiver_of w k)) (T' k) [] =
      of_pair-more k v.took e refl
      ∙ lists_more (is_here v (receiver_of w k)) (r.took k) (of_pair k v.took) e mine (seated.takes k near)
      ∙ ap (λ (l : Log). cond (is_here v (receiver_of w k)) l []) (sym (grown_here r.took k e)) in
      let takes' : (i : ℕ) → i < pair_count w → of_pair i (v.took ++ e ∷ []) ≡ cond (is_here v (receiver_of w i)) (T' i) [] = λ i near'. dite (ℕ_discrete i k)
      (λ (eq : i ≡ k). subst (λ (y : ℕ). of_pair y (v.took ++ e ∷ []) ≡ cond (is_here v (receiver_of w y)) (T' y) []) (sym eq) more_here)
      (λ (ne : i ≢ k). of_pair-other i v.took e (λ q. ne (sym q)) ∙ seated.takes i near' ∙ ap (λ (l : Log). cond (is_here v (receiver_of w i)) l []) (sym (grown_else r.took k e i ne))) in
      moved w size opened s r k id x v v' homes' r.posted T' move box' (record {
        owns = seated.owns;
        posts = seated.posts;
        takes = takes';
        posts_pairs = seated.posts_pairs;
        takes_pairs = All-push (λ (y : Moved). y.pair < pair_count w) v.took e seated.takes_pairs near;
        knows = known_all w size opened s r k id x v v' homes' r.posted T' move v.known seated.knows;
        alike = seated.alike;
        holder = λ j h. absurd (none_some None j refl h);
      })

  -- what an odd word tells the poster, and an even one the receiver
  pub unreceived : (s : St) (r : R s) (k id : ℕ) (v : View) → k < pair_count w → get_elem? s.views id ≡ some v → is_here v (poster_of w k) ≡ true → get_or s.words k 0 % 2 ≡ 1 → IsUnreceived k v
  unreceived s r k id v near at mine odd =
      let m : Mail s r k = r.each_pair k near in
      let seated : IsSeated w size s.words r.posted r.took r.owner id v = r.each_seat id v at in
      let own : of_pair k v.posted ≡ r.posted k = own_list (is_here v (poster_of w k)) (r.posted k) (of_pair k v.posted) mine (seated.posts k near) in
      let more : length (r.posted k) ≡ length (r.took k) + 1 = one_more m.id (get_or s.words k 0) m.waiting (r.posted k) (r.took k) m.shows m.keeps_up odd in
      λ i d inside.
      let meeting : Meeting = get_or v.known i d in
      let h : IsKnown (pair_count w) r.posted r.took meeting = seated.knows i d inside in
      let less : length (of_pair k meeting.took) ≤ length (r.took k) = begins_length (of_pair k meeting.took) (r.took k) (h.of_took k near) in
      let is : length (of_pair k v.posted) ≡ length (r.posted k) = ap length own in
      omega arith

  pub has_taken : (s : St) (r : R s) (k id : ℕ) (v : View) → k < pair_count w → get_elem? s.views id ≡ some v → is_here v (receiver_of w k) ≡ true → get_or s.words k 0 % 2 ≡ 0 → HasTakenKnown k v
  has_taken s r k id v near at mine even =
      let m : Mail s r k = r.each_pair k near in
      let seated : IsSeated w size s.words r.posted r.took r.owner id v = r.each_seat id v at in
      let own : of_pair k v.took ≡ r.took k = own_list (is_here v (receiver_of w k)) (r.took k) (of_pair k v.took) mine (seated.takes k near) in
      let same : pages_of (r.posted k) ≡ pages_of (r.took k) = all_taken m.id (get_or s.words k 0) m.waiting (r.posted k) (r.took k) m.shows m.keeps_up even in
      λ i d inside.
      let meeting : Meeting = get_or v.known i d in
      let h : IsKnown (pair_count w) r.posted r.took meeting = seated.knows i d inside in
      let less : length (of_pair k meeting.posted) ≤ length (r.posted k) = begins_length (of_pair k meeting.posted) (r.posted k) (h.of_posted k near) in
      let is : length (of_pair k v.took) ≡ length (r.took k) = ap length own in
      omega (arith, ap length same, length-pages (r.posted k), length-pages (r.took k))
