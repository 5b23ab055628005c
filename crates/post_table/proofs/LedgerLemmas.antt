-- The ids between any two steps.
use Rattle.std.proofs.Common.{◌≡◌, ℕ, ◌+◌, ◌/◌, List, ap, get_or, arith}
use Rattle.post_table.specs.Pairs.{pair_count, turn}
use Rattle.post_table.specs.Views.{weigh_in, weigh_out}
use Rattle.post_table.specs.Rule.{IsMailbox, IsPostTable, slots_and_out, spares_and_in}
use Rattle.post_table.proofs.StepLemmas.{St}
use Rattle.post_table.proofs.MailLemmas.{half_word}
use Rattle.post_table.proofs.SumLemmas.{total_same}
use lib.ListN.{get_elem?}

pub ids_kept : (w size : ℕ) (opened : List ℕ) (s : St) (r : IsPostTable w size opened s) → (h : ℕ → ℕ) → slots_and_out w size opened s r h ≡ spares_and_in w size opened s r h
ids_kept w size opened s r h =
    total_same (pair_count w) (λ k. h (get_or s.words k 0 / 2) + weigh_out h (r.posted k) + weigh_out h (r.took k)) (λ k. h (get_or opened k 0 / 2) + weigh_in h (r.posted k) + weigh_in h (r.took k)) (λ k near.
    let m : IsMailbox size (get_or opened k 0 / 2) (get_or s.words k 0) (r.posted k) (r.took k) s.views (r.owner (turn w (get_or s.words k 0) k)) k (get_elem? s.homes k) = r.each_pair k near in
    omega (arith, m.weighs h, ap h (half_word m.id (get_or s.words k 0) m.waiting m.shows)))
