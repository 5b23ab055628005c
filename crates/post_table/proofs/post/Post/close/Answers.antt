use Rattle.std.proofs.Common.{◌≡◌, ℕ, ◌<◌, ◌≤◌, true, false, List, [], ◌∷◌, ◌++◌, length, get_or, set, take_all, get_or-set_other, sym, ap, subst, ◌∙◌, arith}
use mathlib.Core.Logic.{dite}
use mathlib.Core.Option.{some}
use native.Mathlib.Decide.{ℕ_discrete}
use lib.ListN.{get_elem?}
use Rattle.std.specs.Mem.Slots.{slots_filled, slots_items, slots_len}
use Rattle.segment_core.specs.Segments.{SegmentView, PurseView}
use Rattle.post_table.specs.Pairs.{pair_count}
use Rattle.post_table.specs.Seats.{PostView, SeatView}
use Rattle.post_table.specs.Views.{is_here}
use Rattle.post_table.proofs.CloseLemmas.{all_sized, all_weigh, count_is, off_here, sized_on, take_next, weighed_on}
use Rattle.post_table.proofs.post.Post.close.Goals as goal

pub slots-preserved : goal.slots-preserved
slots-preserved c =
    let inv = c.slots.invariant in
    let told = c.take.ensures.others in
    let i : ℕ = c.slots.slot in
    let old = slots_filled c.slots.closed.slots in
    record {
      filled = λ k above below.
          let other : k ≡ i → ⊥ = λ e. omega arith in
          let len : slots_len c.take.new.self.slots ≡ slots_len c.slots.closed.slots = told.2 in
          ap (λ l. get_or l k false) told.1 ∙ get_or-set_other old i k false false other ∙ inv.filled k (omega arith) (omega arith);
      taken = λ k below. ap (λ l. get_or l k false) told.1 ∙ dite (ℕ_discrete k i)
          (λ (e : k ≡ i). ap (λ (n : ℕ). get_or (set old i false) n false) e ∙ off_here old i)
          (λ (ne : k ≡ i → ⊥). get_or-set_other old i k false false ne ∙ inv.taken k (omega arith));
      same = told.0 ∙ inv.same;
      len = told.2 ∙ inv.len;
      home = c.push_reserved.ensures.items ∙ ap (λ (l : List SegmentView). l ++ c.take.result ∷ []) inv.home
          ∙ sym (take_next (slots_items c.close_with-closed.result.slots) i c.take.result (subst (λ (l : List SegmentView). get_elem? l i ≡ some c.take.result) inv.same c.take.ensures.value));
      home_len = omega arith;
      capacity = c.push_reserved.ensures.capacity ∙ inv.capacity;
    }

pub returns-clause-sized : goal.returns-clause-sized
returns-clause-sized c =
    let key = c.self.inside.boxes.shared.key in
    let w : ℕ = key.workers in
    let two : 2 ≤ w = omega (arith, c.self.invariant.0.count.several, c.self.invariant.1) in
    let wide : length key.words.items ≡ pair_count w = c.self.invariant.2 ∙ ap pair_count (sym c.self.invariant.1) in
    let met : (j : ℕ) → j < w → is_here c.main.inside.place.me.0 j ≡ true = λ j near.
    ap (λ (s : SeatView). is_here s.view j) c.main.view_is ∙ c.requires.met j (subst (λ (z : ℕ). j < z) (c.self.invariant.1 ∙ ap (λ (p : PostView). p.workers) c.self.view_is) near) in
    let xs : List SegmentView = slots_items c.close_with-closed.result.slots in
    let last = c.close_with-closed.ensures.values.2 in
    let count : length xs ≡ pair_count w = count_is w key.size key.words.items two wide _ c.main.inside.place.me.0 _ xs last c.main.invariant.holds met in
    let pairs : pair_count w ≡ pair_count c.self.inside.workers = ap pair_count c.self.invariant.1 in
    let pages_is : c.of_items.result.pages ≡ xs = ap (λ (p : PurseView). p.pages) c.of_items.ensures.purse ∙ c.slots.invariant.home ∙ take_all c.slots.slot xs (omega arith) in
    sized_on c.of_items.result.pages xs key.size c.args.self.size pages_is (ap (λ (p : PostView). p.size) c.self.view_is)
    (all_sized w key.size key.words.items two wide _ c.main.inside.place.me.0 _ xs last c.main.invariant.holds met)

pub returns-clause-segments : goal.returns-clause-segments
returns-clause-segments c =
    let key = c.self.inside.boxes.shared.key in
    let w : ℕ = key.workers in
    let two : 2 ≤ w = omega (arith, c.self.invariant.0.count.several, c.self.invariant.1) in
    let wide : length key.words.items ≡ pair_count w = c.self.invariant.2 ∙ ap pair_count (sym c.self.invariant.1) in
    let met : (j : ℕ) → j < w → is_here c.main.inside.place.me.0 j ≡ true = λ j near.
    ap (λ (s : SeatView). is_here s.view j) c.main.view_is ∙ c.requires.met j (subst (λ (z : ℕ). j < z) (c.self.invariant.1 ∙ ap (λ (p : PostView). p.workers) c.self.view_is) near) in
    let xs : List SegmentView = slots_items c.close_with-closed.result.slots in
    let last = c.close_with-closed.ensures.values.2 in
    let count : length xs ≡ pair_count w = count_is w key.size key.words.items two wide _ c.main.inside.place.me.0 _ xs last c.main.invariant.holds met in
    let pairs : pair_count w ≡ pair_count c.self.inside.workers = ap pair_count c.self.invariant.1 in
    let pages_is : c.of_items.result.pages ≡ xs = ap (λ (p : PurseView). p.pages) c.of_items.ensures.purse ∙ c.slots.invariant.home ∙ take_all c.slots.slot xs (omega arith) in
    weighed_on c.of_items.result.pages xs key.size c.args.self.size c.main.inside.place.me.0 c.args.main.view _ c.args.self.spares pages_is (ap (λ (p : PostView). p.size) c.self.view_is)
    (ap (λ (s : SeatView). s.view) c.main.view_is) (ap (λ (p : PostView). p.spares) c.self.view_is)
    (all_weigh w key.size key.words.items two wide _ c.main.inside.place.me.0 _ xs last c.main.invariant.holds met)
