-- What each atomic step owes: whatever the table is then, the seat can go on and keep the rule.
use Rattle.std.proofs.Common.{◌≡◌, ◌≢◌, ℕ, ◌+◌, ◌*◌, ◌/◌, ◌%◌, ◌<◌, true, false, List, [], ◌∷◌, ◌∙◌, ap, ap₂, sym, subst, length, get_or, Some, None, refl, arith}
use mathlib.Core.Logic.{dite}
use mathlib.Core.Option.{none}
use native.Mathlib.Decide.{ℕ_discrete}
use Rattle.atomic_table.specs.Table.{step, keeps, takes, gives, rest, Allows}
use Rattle.segment_core.specs.Segments.{SegmentView}
use Rattle.post_table.specs.Pairs.{pair_count, poster_of, receiver_of}
use Rattle.post_table.specs.Views.{is_here, looked, chosen, learned, taking, with_posted, with_taken, after_posting, after_taking, without, ShowsExchange}
use Rattle.post_table.specs.Rule.{IsPostTable}
use Rattle.post_table.specs.Steps.{Seated, IsIdle, StaysSeat, TakesOut, looks_to_post, looks_to_take, posts, gets, chooses, learns}
use Rattle.post_table.specs.declared.view.View.{View}
use Rattle.post_table.proofs.StepLemmas.{St, stays}
use Rattle.post_table.proofs.MailLemmas.{turn_even, turn_odd, IsTaking, takes_out, puts, gets_page, unreceived, has_taken}
use Rattle.post_table.proofs.SeatLemmas.{looked_seat, chosen_seat, learned_seat, shows}

odd_or_even : (x : ℕ) → x % 2 ≢ 0 → x % 2 ≡ 1
odd_or_even x ne = omega arith

abbrev pub no_hand : List (ℕ × SegmentView)
no_hand = []

-- the segment in front of a hand
in_front : List (ℕ × SegmentView) → SegmentView → SegmentView
in_front [] d = d
in_front (x ∷ xs) d = x.1

same_in_hand : (k : ℕ) (a b : SegmentView) → ◌≡◌ {A = List (ℕ × SegmentView)} ((k, a) ∷ []) ((k, b) ∷ []) → a ≡ b
unfolding in_front
same_in_hand k a b e = ap (λ (l : List (ℕ × SegmentView)). in_front l a) e

module _ (w size : ℕ) (opened : List ℕ) where
  abbrev R : St → Type 0
  R s = IsPostTable w size opened s

  pub allows_choose : (slots id k : ℕ) (me : Seated) → k < pair_count w → me.0.is_spent ≡ false → me.0.holding ≡ None → Allows R slots id me k (λ x. x) (chooses (step slots k 0 0 none) me)
  allows_choose slots id k me near live free s r wide at small =
      let x : ℕ = get_or s.words k 0 in
      let v' : View = chosen k x me.0 in
      (v', keeps, tt, stays w size opened s r k id me.0 v' near at free (λ i. refl) (chosen_seat w size opened s r id me.0 at live free k x), refl)

  pub allows_learn : (slots id k : ℕ) (me : Seated) → k < pair_count w → me.0.is_spent ≡ false → me.0.holding ≡ None → Allows R slots id me k (λ x. x) (learns (step slots k 0 0 none) me)
  allows_learn slots id k me near live free s r wide at small =
      let x : ℕ = get_or s.words k 0 in
      let v' : View = learned (looked x me.0) in
      let shown : ShowsExchange v' = shows w size opened s r id me.0 at live free in
      (v', keeps, tt, stays w size opened s r k id me.0 v' near at free (λ i. refl) (learned_seat w size opened s r id me.0 at live free x), (refl, shown))

  looks_post : (slots id k : ℕ) (v : View) → k < pair_count w → v.is_spent ≡ false → v.holding ≡ None → is_here v (poster_of w k) ≡ true
      → Allows R slots id (v, []) k (λ x. x) (looks_to_post (step slots k 0 0 none) (v, []))
  looks_post slots id k v near live free mine s r wide at small =
      let x : ℕ = get_or s.words k 0 in
      let sized : (v.size ≡ size) × (v.count ≡ w) = (r.each_seat id v at).alike live in
      dite (ℕ_discrete (x % 2) 0)
      (λ (even : x % 2 ≡ 0).
      let t : IsTaking w size opened s k id v = takes_out w size opened s r k id v near at free (subst (λ (z : ℕ). is_here v z ≡ true) (sym (turn_even w x k even)) mine) in (
        taking k t.segment.bytes (looked x v),
        takes k t.segment,
        t.there,
        t.rule,
        record {
          empty = λ _. record { segment = t.segment; view = refl; hand = refl; same = t.same; sized = t.sized ∙ sym sized.0 };
          full = λ odd. let no_way : 0 ≡ 1 = sym even ∙ odd in absurd (omega arith);
        },
      ))
      (λ (ne : x % 2 ≢ 0).
      let odd : x % 2 ≡ 1 = odd_or_even x ne in (
        looked x v,
        keeps,
        tt,
        stays w size opened s r k id v (looked x v) near at free (λ i. refl) (looked_seat w size opened s r id v at live free x),
        record {
          empty = λ even. absurd (ne even);
          full = λ _. (refl, unreceived w size opened s r k id v near at mine odd);
        },
      ))

  pub allows_look_post : (slots id k : ℕ) (me : Seated) → me.1 ≡ [] → k < pair_count w → me.0.is_spent ≡ false → me.0.holding ≡ None → is_here me.0 (poster_of w k) ≡ true
      → Allows R slots id me k (λ x. x) (looks_to_post (step slots k 0 0 none) me)
  allows_look_post slots id k me none_held near live free mine =
      subst (λ (c : List (ℕ × SegmentView)). Allows R slots id (me.0, c) k (λ x. x) (looks_to_post (step slots k 0 0 none) (me.0, c))) (sym none_held)
      (looks_post slots id k me.0 near live free mine)

  looks_take : (slots id k : ℕ) (v : View) → k < pair_count w → v.is_spent ≡ false → v.holding ≡ None → is_here v (receiver_of w k) ≡ true
      → Allows R slots id (v, []) k (λ x. x) (looks_to_take (step slots k 0 0 none) (v, []))
  looks_take slots id k v near live free mine s r wide at small =
      let x : ℕ = get_or s.words k 0 in
      let sized : (v.size ≡ size) × (v.count ≡ w) = (r.each_seat id v at).alike live in
      dite (ℕ_discrete (x % 2) 0)
      (λ (even : x % 2 ≡ 0). (
        looked x v,
        keeps,
        tt,
        stays w size opened s r k id v (looked x v) near at free (λ i. refl) (looked_seat w size opened s r id v at live free x),
        record {
          full = λ odd. let no_way : 0 ≡ 1 = sym even ∙ odd in absurd (omega arith);
          empty = λ _. (refl, has_taken w size opened s r k id v near at mine even);
        },
      ))
      (λ (ne : x % 2 ≢ 0).
      let odd : x % 2 ≡ 1 = odd_or_even x ne in
      let t : IsTaking w size opened s k id v = takes_out w size opened s r k id v near at free (subst (λ (z : ℕ). is_here v z ≡ true) (sym (turn_odd w x k odd)) mine) in (
        taking k t.segment.bytes (looked x v),
        takes k t.segment,
        t.there,
        t.rule,
        record {
          full = λ _. record { segment = t.segment; view = refl; hand = refl; same = t.same; sized = t.sized ∙ sym sized.0 };
          empty = λ even. absurd (ne even);
        },
      ))

  pub allows_look_take : (slots id k : ℕ) (me : Seated) → me.1 ≡ [] → k < pair_count w → me.0.is_spent ≡ false → me.0.holding ≡ None → is_here me.0 (receiver_of w k) ≡ true
      → Allows R slots id me k (λ x. x) (looks_to_take (step slots k 0 0 none) me)
  allows_look_take slots id k me none_held near live free mine =
      subst (λ (c : List (ℕ × SegmentView)). Allows R slots id (me.0, c) k (λ x. x) (looks_to_take (step slots k 0 0 none) (me.0, c))) (sym none_held)
      (looks_take slots id k me.0 near live free mine)

  stores_post : (slots id k x : ℕ) (v : View) (page : SegmentView) → k < pair_count w → v.holding ≡ Some k → v.last % 2 ≡ 0 → is_here v (poster_of w k) ≡ true → length page.bytes ≡ size → x ≡ 2 * page.id + 1
      → Allows R slots id (v, (k, page) ∷ []) k (λ _. x) (λ _. posts (step slots k x 0 none) (v, (k, page) ∷ []) x)
  stores_post slots id k x v page near held even mine sized is s r wide at small = (
    after_posting k page v,
    gives,
    tt,
    puts w size opened s r k id x v page near at held even mine sized is,
    λ (other : SegmentView) e. ap (λ (y : SegmentView). (after_posting k y v, no_hand)) (same_in_hand k page other e),
  )

  pub allows_post : (slots id k x : ℕ) (me : Seated) (page : SegmentView) → me.1 ≡ (k, page) ∷ [] → k < pair_count w → me.0.holding ≡ Some k → me.0.last % 2 ≡ 0 → is_here me.0 (poster_of w k) ≡ true
      → length page.bytes ≡ size → x ≡ 2 * page.id + 1 → Allows R slots id me k (λ _. x) (λ _. posts (step slots k x 0 none) me x)
  allows_post slots id k x me page held_is near held even mine sized is =
      subst (λ (c : List (ℕ × SegmentView)). Allows R slots id (me.0, c) k (λ _. x) (λ _. posts (step slots k x 0 none) (me.0, c) x)) (sym held_is)
      (stores_post slots id k x me.0 page near held even mine sized is)

  stores_take : (slots id k x : ℕ) (v : View) (spare : SegmentView) → k < pair_count w → v.holding ≡ Some k → v.last % 2 ≡ 1 → is_here v (receiver_of w k) ≡ true → length spare.bytes ≡ size → x ≡ 2 * spare.id
      → Allows R slots id (v, (k, spare) ∷ []) k (λ _. x) (λ _. gets (step slots k x 0 none) (v, (k, spare) ∷ []) x)
  stores_take slots id k x v spare near held odd mine sized is s r wide at small = (
    after_taking k spare v,
    gives,
    tt,
    gets_page w size opened s r k id x v spare near at held odd mine sized is,
    λ (other : SegmentView) e. ap (λ (y : SegmentView). (after_taking k y v, no_hand)) (same_in_hand k spare other e),
  )

  pub allows_take : (slots id k x : ℕ) (me : Seated) (spare : SegmentView) → me.1 ≡ (k, spare) ∷ [] → k < pair_count w → me.0.holding ≡ Some k → me.0.last % 2 ≡ 1 → is_here me.0 (receiver_of w k) ≡ true
      → length spare.bytes ≡ size → x ≡ 2 * spare.id → Allows R slots id me k (λ _. x) (λ _. gets (step slots k x 0 none) me x)
  allows_take slots id k x me spare held_is near held odd mine sized is =
      subst (λ (c : List (ℕ × SegmentView)). Allows R slots id (me.0, c) k (λ _. x) (λ _. gets (step slots k x 0 none) (me.0, c) x)) (sym held_is)
      (stores_take slots id k x me.0 spare near held odd mine sized is)

  -- the poster's store, from what its load told
  pub posts_after : (slots id k found x : ℕ) (v : View) (one two : Seated) (page : SegmentView) → TakesOut k found v one → two ≡ (one.0, (k, page) ∷ rest one.1) → k < pair_count w → found % 2 ≡ 0
      → is_here v (poster_of w k) ≡ true → length page.bytes ≡ size → x ≡ 2 * page.id + 1 → Allows R slots id two k (λ _. x) (λ _. posts (step slots k x 0 none) two x)
  posts_after slots id k found x v one two page t e near even mine sized is =
      let view : two.0 ≡ taking k t.segment.bytes (looked found v) = ap (λ (m : Seated). m.0) e ∙ t.view in
      let hand : two.1 ≡ (k, page) ∷ [] = ap (λ (m : Seated). m.1) e ∙ ap (λ (l : List (ℕ × SegmentView)). (k, page) ∷ rest l) t.hand in
      allows_post slots id k x two page hand near (ap (λ (u : View). u.holding) view) (ap (λ (u : View). u.last % 2) view ∙ even) (ap (λ (u : View). is_here u (poster_of w k)) view ∙ mine) sized is

  -- the receiver's store, from what its load told
  pub takes_after : (slots id k found x : ℕ) (v : View) (one two : Seated) (spare : SegmentView) → TakesOut k found v one → two ≡ (one.0, (k, spare) ∷ rest one.1) → k < pair_count w → found % 2 ≡ 1
      → is_here v (receiver_of w k) ≡ true → length spare.bytes ≡ size → x ≡ 2 * spare.id → Allows R slots id two k (λ _. x) (λ _. gets (step slots k x 0 none) two x)
  takes_after slots id k found x v one two spare t e near odd mine sized is =
      let view : two.0 ≡ taking k t.segment.bytes (looked found v) = ap (λ (m : Seated). m.0) e ∙ t.view in
      let hand : two.1 ≡ (k, spare) ∷ [] = ap (λ (m : Seated). m.1) e ∙ ap (λ (l : List (ℕ × SegmentView)). (k, spare) ∷ rest l) t.hand in
      allows_take slots id k x two spare hand near (ap (λ (u : View). u.holding) view) (ap (λ (u : View). u.last % 2) view ∙ odd) (ap (λ (u : View). is_here u (receiver_of w k)) view ∙ mine) sized is

-- a slot in front of a hand, as the exchange wants it
pub in_hand_is : (k : ℕ) (segment : SegmentView) (l : List (ℕ × SegmentView)) → l ≡ (k, segment) ∷ [] → l ≡ (k, segment) ∷ rest l
in_hand_is k segment l e = e ∙ ap (λ (m : List (ℕ × SegmentView)). (k, segment) ∷ rest m) (sym e)

-- what came out of the slot is what the load saw there
came_out : (k : ℕ) (a b : SegmentView) (l : List (ℕ × SegmentView)) → l ≡ (k, a) ∷ [] → l ≡ (k, b) ∷ rest l → b ≡ a
unfolding in_front
came_out k a b l e f = ap (λ (m : List (ℕ × SegmentView)). in_front m a) (sym f ∙ e)

-- What the two steps of a poster come to.
pub record PostedEnd (k : ℕ) (page spare : SegmentView) (v : View) (after : Seated) : Type 0 where
  pub sized : length spare.bytes ≡ v.size
  pub view : after ≡ (with_posted k page spare.id (looked (2 * spare.id) v), [])

pub posted_end : (slots k found x : ℕ) (v : View) (one two three : Seated) (page spare : SegmentView) → TakesOut k found v one → one.1 ≡ (k, spare) ∷ rest one.1 → two ≡ (one.0, (k, page) ∷ rest one.1)
    → posts (step slots k x 0 none) two x three → found % 2 ≡ 0 → PostedEnd k page spare v three
posted_end slots k found x v one two three page spare t out e told even =
    let view : two.0 ≡ taking k t.segment.bytes (looked found v) = ap (λ (m : Seated). m.0) e ∙ t.view in
    let hand : two.1 ≡ (k, page) ∷ [] = ap (λ (m : Seated). m.1) e ∙ ap (λ (l : List (ℕ × SegmentView)). (k, page) ∷ rest l) t.hand in
    let same : spare ≡ t.segment = came_out k t.segment spare one.1 t.hand out in
    let id_is : spare.id ≡ found / 2 = ap (λ (y : SegmentView). y.id) same ∙ t.same in
    let found_is : found ≡ 2 * spare.id = omega arith in
    record {
      sized = ap (λ (y : SegmentView). length y.bytes) same ∙ t.sized;
      view = told page hand ∙ ap (λ (u : View). (after_posting k page u, no_hand)) view
          ∙ ap₂ (λ (a b : ℕ). (with_posted k page a (looked b v), no_hand)) (sym id_is) found_is;
    }

-- What the two steps of a receiver come to.
pub record TakenEnd (k : ℕ) (page spare : SegmentView) (v : View) (after : Seated) : Type 0 where
  pub sized : length page.bytes ≡ v.size
  pub view : after ≡ (with_taken k page.bytes spare.id page.id (looked (2 * page.id + 1) v), [])

pub taken_end : (slots k found x : ℕ) (v : View) (one two three : Seated) (page spare : SegmentView) → TakesOut k found v one → one.1 ≡ (k, page) ∷ rest one.1 → two ≡ (one.0, (k, spare) ∷ rest one.1)
    → gets (step slots k x 0 none) two x three → found % 2 ≡ 1 → TakenEnd k page spare v three
taken_end slots k found x v one two three page spare t out e told odd =
    let view : two.0 ≡ taking k t.segment.bytes (looked found v) = ap (λ (m : Seated). m.0) e ∙ t.view in
    let hand : two.1 ≡ (k, spare) ∷ [] = ap (λ (m : Seated). m.1) e ∙ ap (λ (l : List (ℕ × SegmentView)). (k, spare) ∷ rest l) t.hand in
    let same : page ≡ t.segment = came_out k t.segment page one.1 t.hand out in
    let id_is : page.id ≡ found / 2 = ap (λ (y : SegmentView). y.id) same ∙ t.same in
    let found_is : found ≡ 2 * page.id + 1 = omega arith in
    record {
      sized = ap (λ (y : SegmentView). length y.bytes) same ∙ t.sized;
      view = told spare hand ∙ ap (λ (u : View). (after_taking k spare u, no_hand)) view
          ∙ ap (λ (y : SegmentView). (with_taken k y.bytes spare.id (found / 2) (looked found v), no_hand)) (sym same)
          ∙ ap₂ (λ (a b : ℕ). (with_taken k page.bytes spare.id a (looked b v), no_hand)) (sym id_is) found_is;
    }

-- The last value of the view after a step that keeps what a load saw.
pub parted_main : (n found : ℕ) (v : View) (after : Seated) → after ≡ (without n (chosen n found v), no_hand) → after ≡ (without n (chosen n after.0.last v), no_hand)
parted_main n found v after e = e ∙ ap (λ (z : ℕ). (without n (chosen n z v), no_hand)) (sym (ap (λ (m : Seated). m.0.last) e))

pub met_main : (found : ℕ) (v : View) (after : Seated) → after ≡ (learned (looked found v), no_hand) → after ≡ (learned (looked after.0.last v), no_hand)
met_main found v after e = e ∙ ap (λ (z : ℕ). (learned (looked z v), no_hand)) (sym (ap (λ (m : Seated). m.0.last) e))

-- What a load that was refused leaves.
pub refused_end : (found : ℕ) (v : View) (after : Seated) → after ≡ (looked found v, no_hand) → after ≡ (looked after.0.last v, no_hand)
refused_end found v after e = e ∙ ap (λ (z : ℕ). (looked z v, no_hand)) (sym (ap (λ (m : Seated). m.0.last) e))

pub stays_posted : (k out found : ℕ) (page : SegmentView) (before after : Seated) → IsIdle before → after ≡ (with_posted k page out (looked found before.0), no_hand) → StaysSeat before after
stays_posted k out found page before after idle e = record {
  count = ap (λ (m : Seated). m.0.count) e;
  size = ap (λ (m : Seated). m.0.size) e;
  number = ap (λ (m : Seated). m.0.number) e;
  here = ap (λ (m : Seated). m.0.here) e;
  idle = record { hand = ap (λ (m : Seated). m.1) e; holds = ap (λ (m : Seated). m.0.holding) e; live = ap (λ (m : Seated). m.0.is_spent) e ∙ idle.live };
}

pub stays_taken : (k into out found : ℕ) (bytes : List ℕ) (before after : Seated) → IsIdle before → after ≡ (with_taken k bytes into out (looked found before.0), no_hand) → StaysSeat before after
stays_taken k into out found bytes before after idle e = record {
  count = ap (λ (m : Seated). m.0.count) e;
  size = ap (λ (m : Seated). m.0.size) e;
  number = ap (λ (m : Seated). m.0.number) e;
  here = ap (λ (m : Seated). m.0.here) e;
  idle = record { hand = ap (λ (m : Seated). m.1) e; holds = ap (λ (m : Seated). m.0.holding) e; live = ap (λ (m : Seated). m.0.is_spent) e ∙ idle.live };
}

pub stays_refused : (found : ℕ) (before after : Seated) → IsIdle before → after ≡ (looked found before.0, no_hand) → StaysSeat before after
stays_refused found before after idle e = record {
  count = ap (λ (m : Seated). m.0.count) e;
  size = ap (λ (m : Seated). m.0.size) e;
  number = ap (λ (m : Seated). m.0.number) e;
  here = ap (λ (m : Seated). m.0.here) e;
  idle = record { hand = ap (λ (m : Seated). m.1) e; holds = ap (λ (m : Seated). m.0.holding) e ∙ idle.holds; live = ap (λ (m : Seated). m.0.is_spent) e ∙ idle.live };
}
