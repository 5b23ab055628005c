-- What a post and a seat are seen as, tied to the table and to the place at it.
use Rattle.std.proofs.Common.{◌≡◌, ◌≢◌, ℕ, ◌+◌, ◌*◌, ◌%◌, ◌<◌, true, List, [], ◌∷◌, ◌∙◌, ap, sym, subst, length, Result, Ok, Err, IfOk, IfErr}
use Rattle.atomic_table.specs.Seated.{TableId}
use Rattle.segment_core.specs.Segments.{SegmentView}
use Rattle.exchange_core.specs.Machine.{IsPair}
use Rattle.post_table.specs.Pairs.{pair_count, pair_number, poster_of, receiver_of}
use Rattle.post_table.specs.Views.{is_among, looked, with_posted, with_taken}
use Rattle.post_table.specs.Steps.{Seated, IsUnreceived, HasTakenKnown}
use Rattle.post_table.specs.Seats.{PostView, SeatView, MadeBy, IsTableOf, IsPosted, IsNotPosted, IsTaken, IsNotTaken}
use Rattle.post_table.specs.declared.view.View.{View}
use Rattle.post_table.proofs.LogLemmas.{among_one-here}
use Rattle.post_table.proofs.PairLemmas.{number_near, number_poster, number_receiver}

pub if_ok_on : {T E : Type 0} (r : Result T E) (P Q : T → Type 0) → ((x : T) → P x → Q x) → IfOk r P → IfOk r Q
if_ok_on (Ok x) P Q f h = f x h
if_ok_on (Err e) P Q f h = tt

pub if_err_on : {T E : Type 0} (r : Result T E) (P Q : E → Type 0) → ((x : E) → P x → Q x) → IfErr r P → IfErr r Q
if_err_on (Ok x) P Q f h = tt
if_err_on (Err e) P Q f h = f e h

-- The seat's place is at the post's table, and its view has the post's numbers.
pub record Tied (at table : TableId) (v : View) (workers size : ℕ) : Type 0 where
  pub name : at ≡ table
  pub count : v.count ≡ workers
  pub bytes : v.size ≡ size

pub tied : (at table : TableId) (v : View) (workers size : ℕ) (post : PostView) (seat : SeatView) → at ≡ seat.table → v ≡ seat.view → table ≡ post.table → workers ≡ post.workers → size ≡ post.size
    → MadeBy post seat → Tied at table v workers size
tied at table v workers size post seat a b t w z m = record {
  name = a ∙ m.table ∙ sym t;
  count = ap (λ (u : View). u.count) b ∙ m.workers ∙ sym w;
  bytes = ap (λ (u : View). u.size) b ∙ m.size ∙ sym z;
}

pub untied : (at table : TableId) (v : View) (workers size : ℕ) (post : PostView) → table ≡ post.table → workers ≡ post.workers → size ≡ post.size → Tied at table v workers size
    → MadeBy post (record { table = at; view = v })
untied at table v workers size post t w z h = record { table = h.name ∙ t; workers = h.count ∙ w; size = h.bytes ∙ z }

pub table_of_key : (table : TableId) (workers key : ℕ) → key ≡ workers → IsTableOf table workers → IsTableOf table key
table_of_key table workers key e h = subst (λ (z : ℕ). IsTableOf table z) (sym e) h

-- the pair that a seat posts to, and the one that it takes of
pub poster_ready : (w key n c k : ℕ) (here : List ℕ) → key ≡ w → k ≡ pair_number w n c → IsPair w n c → here ≡ n ∷ [] → (k < pair_count key) × (is_among (poster_of key k) here ≡ true)
poster_ready w key n c k here e is pair mine =
    let ne : c ≢ n = λ q. pair.differ (sym q) in
    let near : pair_number w n c < pair_count w = number_near w n c pair.poster pair.receiver ne in
    let who : poster_of w (pair_number w n c) ≡ n = number_poster w n c pair.poster pair.receiver ne in
    let at_w : (k < pair_count w) × (is_among (poster_of w k) here ≡ true) = (
      subst (λ (z : ℕ). z < pair_count w) (sym is) near,
      ap (λ (z : ℕ). is_among (poster_of w z) here) is ∙ ap (λ (z : ℕ). is_among z here) who ∙ ap (is_among n) mine ∙ among_one-here n,
    ) in
    subst (λ (z : ℕ). (k < pair_count z) × (is_among (poster_of z k) here ≡ true)) (sym e) at_w

pub receiver_ready : (w key p n k : ℕ) (here : List ℕ) → key ≡ w → k ≡ pair_number w p n → IsPair w p n → here ≡ n ∷ [] → (k < pair_count key) × (is_among (receiver_of key k) here ≡ true)
receiver_ready w key p n k here e is pair mine =
    let ne : n ≢ p = λ q. pair.differ (sym q) in
    let near : pair_number w p n < pair_count w = number_near w p n pair.poster pair.receiver ne in
    let who : receiver_of w (pair_number w p n) ≡ n = number_receiver w p n pair.poster pair.receiver ne in
    let at_w : (k < pair_count w) × (is_among (receiver_of w k) here ≡ true) = (
      subst (λ (z : ℕ). z < pair_count w) (sym is) near,
      ap (λ (z : ℕ). is_among (receiver_of w z) here) is ∙ ap (λ (z : ℕ). is_among z here) who ∙ ap (is_among n) mine ∙ among_one-here n,
    ) in
    subst (λ (z : ℕ). (k < pair_count z) × (is_among (receiver_of z k) here ≡ true)) (sym e) at_w

-- what the steps came to, as the seat's view says it
pub is_posted : (w n c k : ℕ) (page spare : SegmentView) (v u : View) (after : Seated) → v ≡ u → v.number ≡ n → k ≡ pair_number w n c → length spare.bytes ≡ v.size
    → after ≡ (with_posted k page spare.id (looked (2 * spare.id) v), []) → IsPosted w c page spare u after.0
is_posted w n c k page spare v u after e num is sized end =
    subst (λ (y : View). IsPosted w c page spare y after.0) e (record {
      view = ap (λ (m : Seated). m.0) end ∙ ap (λ (z : ℕ). with_posted z page spare.id (looked (2 * spare.id) v)) (is ∙ ap (λ (z : ℕ). pair_number w z c) (sym num));
      size = sized;
    })

pub is_not_posted : (w n c k : ℕ) (v u : View) (after : Seated) → v ≡ u → v.number ≡ n → k ≡ pair_number w n c → IsUnreceived k v → after ≡ (looked after.0.last v, []) → after.0.last % 2 ≡ 1 → IsNotPosted w c u after.0
is_not_posted w n c k v u after e num is unknown end saw =
    subst (λ (y : View). IsNotPosted w c y after.0) e (record {
      view = ap (λ (m : Seated). m.0) end;
      saw = saw;
      unknown = subst (λ (z : ℕ). IsUnreceived z v) (is ∙ ap (λ (z : ℕ). pair_number w z c) (sym num)) unknown;
    })

pub is_taken : (w n p k : ℕ) (page spare : SegmentView) (v u : View) (after : Seated) → v ≡ u → v.number ≡ n → k ≡ pair_number w p n → length page.bytes ≡ v.size
    → after ≡ (with_taken k page.bytes spare.id page.id (looked (2 * page.id + 1) v), []) → IsTaken w p page spare u after.0
is_taken w n p k page spare v u after e num is sized end =
    subst (λ (y : View). IsTaken w p page spare y after.0) e (record {
      view = ap (λ (m : Seated). m.0) end ∙ ap (λ (z : ℕ). with_taken z page.bytes spare.id page.id (looked (2 * page.id + 1) v)) (is ∙ ap (pair_number w p) (sym num));
      size = sized;
    })

pub is_not_taken : (w n p k : ℕ) (v u : View) (after : Seated) → v ≡ u → v.number ≡ n → k ≡ pair_number w p n → HasTakenKnown k v → after ≡ (looked after.0.last v, []) → after.0.last % 2 ≡ 0 → IsNotTaken w p u after.0
is_not_taken w n p k v u after e num is unknown end saw =
    subst (λ (y : View). IsNotTaken w p y after.0) e (record {
      view = ap (λ (m : Seated). m.0) end;
      saw = saw;
      unknown = subst (λ (z : ℕ). HasTakenKnown z v) (is ∙ ap (pair_number w p) (sym num)) unknown;
    })
