-- What an event and a run leave of the lanes.
use Rattle.std.proofs.Common.{◌≡◌, ◌≢◌, ℕ, zero, suc, ◌+◌, ◌<◌, List, [], ◌∷◌, ◌∙◌, ap, ap₂, sym, subst, length, take, replicate, get_or, Option, Some, None, option_map, Result, Ok, Err, ◌↔◌, IsSome, IsNone, ◌⊎◌, inl, inr, refl, arith}
use Rattle.std.specs.Prelude.{slice_get}
use Rattle.std.proofs.lemmas.List.{get_or-set_same}
use Rattle.std.proofs.Math.ListN.{set}
use Rattle.exchange_core.specs.Lane.{Lane, Bytes, idle, after_put, after_got}
use Rattle.exchange_core.specs.Machine.{Machine, lane_of, with_lane, workers, pair_of, start_of, step_of, run_from, run_of, IsSquare, IsPair}
use Rattle.exchange_core.specs.Laws.{KeepsUp, AllKeepUp, IsNotReady, IsFirstRefusal}
use Rattle.exchange_core.specs.declared.event.Event.{Event}
use Rattle.exchange_core.specs.declared.event.Event.TheVariants.{Put, Got}
use Rattle.exchange_core.proofs.LaneLemmas.{idle_keeps_up, put_keeps_up, got_keeps_up}

-- after a write at i, what stands at j is what was written, at i alone, or as it was
set_cases : {A : Type 0} (xs : List A) (i : ℕ) (y : A) (j : ℕ) (d : A) → ((i ≡ j) × (get_or (set xs i y) j d ≡ y)) ⊎ (get_or (set xs i y) j d ≡ get_or xs j d)
set_cases [] i y j d = inr refl
set_cases (x ∷ xs) zero y zero d = inl (refl, refl)
set_cases (x ∷ xs) zero y (suc j) d = inr refl
set_cases (x ∷ xs) (suc i) y zero d = inr refl
set_cases (x ∷ xs) (suc i) y (suc j) d =
    elim (set_cases xs i y j d) [ inl h ↦ inl (ap suc h.0, h.1) | inr h ↦ inr h ]

replicate_cases : {A : Type 0} (n i : ℕ) (a d : A) → (get_or (replicate n a) i d ≡ a) ⊎ (get_or (replicate n a) i d ≡ d)
replicate_cases zero i a d = inr refl
replicate_cases (suc n) zero a d = inl refl
replicate_cases (suc n) (suc i) a d = replicate_cases n i a d

-- after a write of the lane of (p, c), the lane of (q, r) is that lane, at the pair itself alone, or as it was
pub with_lane_cases : (machine : Machine) (p c : ℕ) (lane : Lane) (q r : ℕ) → (((p ≡ q) × (c ≡ r)) × (lane_of (with_lane machine p c lane) q r ≡ lane)) ⊎ (lane_of (with_lane machine p c lane) q r ≡ lane_of machine q r)
with_lane_cases machine p c lane q r =
    elim (set_cases machine p (set (get_or machine p []) c lane) q []) [
      | inl h ↦ elim (set_cases (get_or machine p []) c lane r idle) [
        | inl k ↦ inl ((h.0, k.0), ap (λ row. get_or row r idle) h.1 ∙ k.1)
        | inr k ↦ inr (ap (λ row. get_or row r idle) h.1 ∙ k ∙ ap (λ x. lane_of machine x r) h.0)
      ]
      | inr h ↦ inr (ap (λ row. get_or row r idle) h)
    ]

pub start_idle : (count p c : ℕ) → lane_of (start_of count) p c ≡ idle
start_idle count p c =
    elim (replicate_cases count p (replicate count idle) []) [
      | inl h ↦ ap (λ row. get_or row c idle) h ∙ elim (replicate_cases count c idle idle) [ inl k ↦ k | inr k ↦ k ]
      | inr h ↦ ap (λ row. get_or row c idle) h
    ]

with_lane_keeps : (machine : Machine) (p c : ℕ) (lane : Lane) → AllKeepUp machine → KeepsUp lane → AllKeepUp (with_lane machine p c lane)
with_lane_keeps machine p c lane all keeps q r =
    elim (with_lane_cases machine p c lane q r) [
      | inl h ↦ subst KeepsUp (sym h.1) keeps
      | inr h ↦ subst KeepsUp (sym h) (all q r)
    ]

-- what an event does to the lane of its pair, it does to the machine
map_some : (f : Lane → Machine) (o : Option Lane) (next : Machine) → option_map f o ≡ Some next → (lane : Lane) × (o ≡ Some lane) × (f lane ≡ next)
map_some f (Some lane) next e = (lane, refl, cc)
map_some f None next e = cc

pub step_keeps : (machine next : Machine) (event : Event) → AllKeepUp machine → step_of machine event ≡ Some next → AllKeepUp next
step_keeps machine next (Put p c page) all e =
    let h = map_some (with_lane machine p c) (after_put page (lane_of machine p c)) next e in
    subst AllKeepUp h.2 (with_lane_keeps machine p c h.0 all (put_keeps_up page (lane_of machine p c) h.0 (all p c) h.1))
step_keeps machine next (Got p c) all e =
    let h = map_some (with_lane machine p c) (after_got (lane_of machine p c)) next e in
    subst AllKeepUp h.2 (with_lane_keeps machine p c h.0 all (got_keeps_up (lane_of machine p c) h.0 (all p c) h.1))

run_from_keeps : (machine : Machine) (place : ℕ) (events : List Event) (last : Machine) → AllKeepUp machine → run_from machine place events ≡ Ok last → AllKeepUp last
run_from_keeps machine place [] last all e = let same : machine ≡ last = cc in subst AllKeepUp same all
run_from_keeps machine place (event ∷ events) last all e =
    let P : Option Machine → Type 0 = λ o. step_of machine event ≡ o → elim o as (λ _. Result Machine ℕ) [ None ↦ Err place | Some next ↦ run_from next (place + 1) events ] ≡ Ok last → AllKeepUp last in
    elim (step_of machine event) as P [
      | None ↦ λ was h. cc
      | Some next ↦ λ was h. run_from_keeps next (place + 1) events last (step_keeps machine next event all was) h
    ] refl e

pub start_keeps : (count : ℕ) → AllKeepUp (start_of count)
start_keeps count p c = subst KeepsUp (sym (start_idle count p c)) idle_keeps_up

pub run_keeps : (count : ℕ) (events : List Event) (machine : Machine) → run_of count events ≡ Ok machine → AllKeepUp machine
run_keeps count events machine e =
    run_from_keeps (start_of count) 0 events machine (start_keeps count) e

unmoved : (machine : Machine) (p c : ℕ) (lane : Lane) (q r : ℕ) → ((p ≡ q) × (c ≡ r) → ⊥) → lane_of (with_lane machine p c lane) q r ≡ lane_of machine q r
unmoved machine p c lane q r ne =
    elim (with_lane_cases machine p c lane q r) [
      | inl h ↦ absurd (ne h.0)
      | inr h ↦ h
    ]

pub others_stay : (machine next : Machine) (event : Event) → step_of machine event ≡ Some next → (p c : ℕ) → pair_of event ≢ (p, c) → lane_of next p c ≡ lane_of machine p c
others_stay machine next (Put p c page) e q r ne =
    let h = map_some (with_lane machine p c) (after_put page (lane_of machine p c)) next e in
    subst (λ m. lane_of m q r ≡ lane_of machine q r) h.2 (unmoved machine p c h.0 q r (λ at. ne (ap₂ (λ (x y : ℕ). (x, y)) at.0 at.1)))
others_stay machine next (Got p c) e q r ne =
    let h = map_some (with_lane machine p c) (after_got (lane_of machine p c)) next e in
    subst (λ m. lane_of m q r ≡ lane_of machine q r) h.2 (unmoved machine p c h.0 q r (λ at. ne (ap₂ (λ (x y : ℕ). (x, y)) at.0 at.1)))

with_lane_own : (machine : Machine) (p c : ℕ) (lane : Lane) → IsSquare machine → IsPair (workers machine) p c → lane_of (with_lane machine p c lane) p c ≡ lane
with_lane_own machine p c lane square pair =
    let inside : c < length (get_or machine p []) = omega (arith, square p pair.poster, pair.receiver) in
    ap (λ row. get_or row c idle) (get_or-set_same machine p (set (get_or machine p []) c lane) [] pair.poster)
    ∙ get_or-set_same (get_or machine p []) c lane idle inside

pub put_moves : (machine next : Machine) (p c : ℕ) (page : Bytes) → IsSquare machine → IsPair (workers machine) p c → step_of machine (Put p c page) ≡ Some next → after_put page (lane_of machine p c) ≡ Some (lane_of next p c)
put_moves machine next p c page square pair e =
    let h = map_some (with_lane machine p c) (after_put page (lane_of machine p c)) next e in
    h.1 ∙ ap Some (sym (with_lane_own machine p c h.0 square pair) ∙ ap (λ m. lane_of m p c) h.2)

pub got_moves : (machine next : Machine) (p c : ℕ) → IsSquare machine → IsPair (workers machine) p c → step_of machine (Got p c) ≡ Some next → after_got (lane_of machine p c) ≡ Some (lane_of next p c)
got_moves machine next p c square pair e =
    let h = map_some (with_lane machine p c) (after_got (lane_of machine p c)) next e in
    h.1 ∙ ap Some (sym (with_lane_own machine p c h.0 square pair) ∙ ap (λ m. lane_of m p c) h.2)

-- the run from any machine is first refused this many events on
record RefusedFrom (machine : Machine) (place : ℕ) (events : List Event) (refused_at : ℕ) : Type 0 where
  done : ℕ
  at : refused_at ≡ place + done
  reached : Machine
  before : run_from machine place (take done events) ≡ Ok reached
  event : Event
  stands : slice_get events done ≡ Some event
  refused : step_of reached event ≡ None

run_from_refused : (machine : Machine) (place : ℕ) (events : List Event) (refused_at : ℕ) → run_from machine place events ≡ Err refused_at → RefusedFrom machine place events refused_at
run_from_refused machine place [] refused_at e = cc
run_from_refused machine place (event ∷ events) refused_at e =
    let P : Option Machine → Type 0 = λ o. step_of machine event ≡ o → elim o as (λ _. Result Machine ℕ) [ None ↦ Err place | Some next ↦ run_from next (place + 1) events ] ≡ Err refused_at → RefusedFrom machine place (event ∷ events) refused_at in
    elim (step_of machine event) as P [
      | None ↦ λ was h. record {
        done = 0;
        at = (let same : place ≡ refused_at = cc in omega arith);
        reached = machine;
        before = refl;
        event = event;
        stands = refl;
        refused = was;
      }
      | Some next ↦ λ was h.
          let later = run_from_refused next (place + 1) events refused_at h in
          record {
            done = suc later.done;
            at = omega (arith, later.at);
            reached = later.reached;
            before = subst (λ o. elim o as (λ _. Result Machine ℕ) [ None ↦ Err place | Some n ↦ run_from n (place + 1) (take later.done events) ] ≡ Ok later.reached) (sym was) later.before;
            event = later.event;
            stands = later.stands;
            refused = later.refused;
          }
    ] refl e

pub first_refusal : (count : ℕ) (events : List Event) (place : ℕ) → run_of count events ≡ Err place → IsFirstRefusal count events place
first_refusal count events place e =
    let found = run_from_refused (start_of count) 0 events place e in
    let same : found.done ≡ place = omega (arith, found.at) in
    record {
      reached = found.reached;
      before = subst (λ n. run_of count (take n events) ≡ Ok found.reached) same found.before;
      event = found.event;
      stands = subst (λ n. slice_get events n ≡ Some found.event) same found.stands;
      refused = found.refused;
    }

-- an event has no next machine exactly where its mailbox isn't ready
not_put : (page : Bytes) (sent received : List Bytes) (mailbox : Option Bytes) (f : Lane → Machine) → (option_map f (after_put page (record { sent = sent; received = received; mailbox = mailbox })) ≡ None) ↔ IsSome mailbox
not_put page sent received None f = (λ e. cc, λ e. cc)
not_put page sent received (Some held) f = (λ e. refl, λ e. refl)

not_got : (sent received : List Bytes) (mailbox : Option Bytes) (f : Lane → Machine) → (option_map f (after_got (record { sent = sent; received = received; mailbox = mailbox })) ≡ None) ↔ IsNone mailbox
not_got sent received None f = (λ e. refl, λ e. refl)
not_got sent received (Some held) f = (λ e. cc, λ e. cc)

pub not_ready : (machine : Machine) (event : Event) → (step_of machine event ≡ None) ↔ IsNotReady machine event
not_ready machine (Put p c page) = let lane : Lane = lane_of machine p c in not_put page lane.sent lane.received lane.mailbox (with_lane machine p c)
not_ready machine (Got p c) = let lane : Lane = lane_of machine p c in not_got lane.sent lane.received lane.mailbox (with_lane machine p c)
