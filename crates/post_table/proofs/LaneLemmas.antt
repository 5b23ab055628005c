-- The lists of a pair as a lane of the exchange machine.
use Rattle.std.proofs.Common.{◌≡◌, List, [], ◌∷◌, ◌++◌, ap, sym, length, length-append, Option, Some, None, arith}
use Rattle.exchange_core.specs.Lane.{Bytes, Lane, after_put, after_got}
use Rattle.exchange_core.specs.Laws.{KeepsUp}
use Rattle.post_table.specs.Views.{Log, pages_of, lane_of_logs, ShowsLane}
use Rattle.post_table.specs.declared.view.Moved.{Moved}
use Rattle.post_table.proofs.LogLemmas.{pages-more, length-pages}

abbrev some_lane : List Bytes → List Bytes → Option Bytes → Option Lane
some_lane sent received mailbox = Some (record { sent = sent; received = received; mailbox = mailbox })

pub put_event : (posted took : Log) (m : Moved) → after_put m.bytes (lane_of_logs posted took None) ≡ Some (lane_of_logs (posted ++ m ∷ []) took (Some m.bytes))
put_event posted took m =
    ap (λ (l : List Bytes). some_lane l (pages_of took) (Some m.bytes)) (sym (pages-more posted m))

pub got_event : (posted took : Log) (m : Moved) → after_got (lane_of_logs posted took (Some m.bytes)) ≡ Some (lane_of_logs posted (took ++ m ∷ []) None)
got_event posted took m =
    ap (λ (l : List Bytes). some_lane (pages_of posted) l None) (sym (pages-more took m))

whole_at : (posted took : Log) (waiting : Option Bytes) → KeepsUp (lane_of_logs posted took waiting) → length posted ≡ length took → pages_of posted ≡ pages_of took
whole_at posted took None keeps same = keeps.between
whole_at posted took (Some page) keeps same =
    absurd (omega (arith, ap length keeps.between, length-append (pages_of took) (page ∷ []), length-pages posted, length-pages took))

pub taken_prefix : (posted took : Log) → ShowsLane posted took → (rest : List Bytes) × (pages_of took ++ rest ≡ pages_of posted)
taken_prefix posted took h = h.keeps_up.prefix

pub taken_whole : (posted took : Log) → ShowsLane posted took → length posted ≡ length took → pages_of posted ≡ pages_of took
taken_whole posted took h same = whole_at posted took h.waiting h.keeps_up same
