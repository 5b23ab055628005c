-- The table at the start keeps the rule.
use Rattle.std.proofs.Common.{◌≡◌, ℕ, suc, zero, ◌+◌, ◌*◌, ◌/◌, ◌<◌, inl, Bool, true, false, cond, List, [], ◌∷◌, ◌∙◌, ap, ap₂, sym, subst, length, reverse, map, get_or, All, None, refl, arith}
use Rattle.std.proofs.lemmas.List.{length-map, length-reverse, reverse-reverse}
use Rattle.std.proofs.lemmas.List.Sorted.{All-permutation, IsPermutation-reverse}
use Rattle.std.proofs.lemmas.List.Elements.{All-nil, All-head, All-tail}
use mathlib.Core.Option.{some, some-injective, some-ne-none}
use lib.ListN.{get_elem?}
use Rattle.atomic_table.specs.Table.{opening}
use Rattle.segment_core.specs.Segments.{SegmentView}
use Rattle.post_table.specs.Pairs.{pair_count, poster_of, receiver_of}
use Rattle.post_table.specs.Views.{Log, is_here, opening_view}
use Rattle.post_table.specs.Rule.{IsMailbox, IsKnown, IsSeated, IsPostTable}
use Rattle.post_table.specs.Seats.{ids_of, size_of}
use Rattle.post_table.specs.declared.view.Moved.{Moved}
use Rattle.post_table.specs.declared.view.View.{View}
use Rattle.post_table.proofs.LogLemmas.{among-below, below-among}
use Rattle.post_table.proofs.StepLemmas.{none_some}

-- Slot k has a segment of this size, and word k is twice its id.
record Lies (size : ℕ) (slots : List SegmentView) (k : ℕ) : Type 0 where
  segment : SegmentView
  there : get_elem? (map some slots) k ≡ some (some segment)
  shows : get_or (map (λ (p : SegmentView). 2 * p.id) slots) k 0 ≡ 2 * segment.id
  sized : length segment.bytes ≡ size

lies_at : (size : ℕ) (slots : List SegmentView) (k : ℕ) → k < length slots → All (λ (p : SegmentView). length p.bytes ≡ size) slots → Lies size slots k
lies_at size [] k near all = absurd (omega arith)
lies_at size (p ∷ slots) zero near all = record { segment = p; there = refl; shows = refl; sized = All-head (λ (q : SegmentView). length q.bytes ≡ size) p slots all }
lies_at size (p ∷ slots) (suc k) near all =
    let next : Lies size slots k = lies_at size slots k (omega arith) (All-tail (λ (q : SegmentView). length q.bytes ≡ size) p slots all) in
    record { segment = next.segment; there = next.there; shows = next.shows; sized = next.sized }

abbrev no_entries : Log
no_entries = []

no_list : (b : Bool) → no_entries ≡ cond b [] []
no_list true = refl
no_list false = refl

only_view : (v u : View) (j : ℕ) → get_elem? (v ∷ []) j ≡ some u → (j ≡ 0) × (v ≡ u)
only_view v u zero e = (refl, some-injective v u e)
only_view v u (suc j) e = absurd (some-ne-none u (sym e))

module _ (w size : ℕ) (words : List ℕ) (slots : List SegmentView) (are : words ≡ map (λ (p : SegmentView). 2 * p.id) slots) (count : length slots ≡ pair_count w) (sized : All (λ (p : SegmentView). length p.bytes ≡ size) slots) where
  abbrev first : View
  first = opening_view w size

  first_box : (k : ℕ) → k < pair_count w → IsMailbox size (get_or words k 0 / 2) (get_or words k 0) [] [] (first ∷ []) 0 k (get_elem? (map some slots) k)
  first_box k near =
      let l : Lies size slots k = lies_at size slots k (omega arith) sized in
      let shows : get_or words k 0 ≡ 2 * l.segment.id = ap (λ (ws : List ℕ). get_or ws k 0) are ∙ l.shows in
      let half : l.segment.id ≡ get_or words k 0 / 2 = omega arith in
      record {
        id = l.segment.id;
        waiting = None;
        shows = shows;
        keeps_up = record { prefix = ([], refl); behind = omega arith; between = refl };
        in_last = half;
        lies = inl (record { segment = l.segment; there = l.there; same = refl; sized = l.sized; page = tt });
        weighs = λ h. ap (λ (id : ℕ). h id + 0 + 0) half;
      }

  first_seat : IsSeated w size words (λ _. []) (λ _. []) (λ _. 0) 0 first
  first_seat = record {
    owns = λ i t. (below-among w i t, refl);
    posts = λ k near. no_list (is_here first (poster_of w k));
    takes = λ k near. no_list (is_here first (receiver_of w k));
    posts_pairs = All-nil (λ (m : Moved). m.pair < pair_count w);
    takes_pairs = All-nil (λ (m : Moved). m.pair < pair_count w);
    knows = All-nil (IsKnown (pair_count w) (λ _. []) (λ _. []));
    alike = λ _. (refl, refl);
    holder = λ k h. absurd (none_some None k refl h);
  }

  pub opens : IsPostTable w size words (opening words slots first)
  opens = record {
    posted = λ _. [];
    took = λ _. [];
    owner = λ _. 0;
    wide = ap (λ (ws : List ℕ). length ws) are ∙ length-map slots (λ (p : SegmentView). 2 * p.id) ∙ count;
    long = length-map slots some ∙ count;
    each_pair = first_box;
    each_seat = λ j u e. let o : (j ≡ 0) × (first ≡ u) = only_view first u j e in
        subst (λ (y : ℕ × View). IsSeated w size words (λ _. []) (λ _. []) (λ _. 0) y.0 y.1) (λ i. (sym o.0 i, o.1 i)) first_seat;
    each_worker = λ i near. record { view = first; there = refl; here = among-below w i near };
  }

half_twice : (n : ℕ) → (2 * n) / 2 ≡ n
half_twice n = omega arith

pub halves : (slots : List SegmentView) → map (λ (word : ℕ). word / 2) (map (λ (p : SegmentView). 2 * p.id) slots) ≡ ids_of slots
halves [] = refl
halves (p ∷ slots) = ap₂ (λ (x : ℕ) (xs : List ℕ). x ∷ xs) (half_twice p.id) (halves slots)

-- the table that is made of the spares, the last of them in the first slot
pub opens_from : (w size : ℕ) (words : List ℕ) (pages slots : List SegmentView) → slots ≡ reverse pages → words ≡ map (λ (p : SegmentView). 2 * p.id) slots → length pages ≡ pair_count w → size ≡ size_of pages
    → All (λ (p : SegmentView). length p.bytes ≡ size_of pages) pages → IsPostTable w size words (opening words slots (opening_view w size))
opens_from w size words pages slots turned are count size_is all =
    let sized : All (λ (p : SegmentView). length p.bytes ≡ size) slots =
    subst (λ (l : List SegmentView). All (λ (p : SegmentView). length p.bytes ≡ size) l) (sym turned)
    (subst (λ (z : ℕ). All (λ (p : SegmentView). length p.bytes ≡ z) (reverse pages)) (sym size_is)
    (All-permutation (λ (p : SegmentView). length p.bytes ≡ size_of pages) pages (reverse pages) (IsPermutation-reverse pages) all)) in
    opens w size words slots are (ap length turned ∙ length-reverse pages ∙ count) sized

-- spares that went and came back
pub turned_back : (pages slots home : List SegmentView) → slots ≡ reverse pages → home ≡ reverse slots → home ≡ pages
turned_back pages slots home a b = b ∙ ap (λ (l : List SegmentView). reverse l) a ∙ reverse-reverse pages
