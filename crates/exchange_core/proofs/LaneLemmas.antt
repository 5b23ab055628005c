-- Put and Got keep a lane's receiver up with its poster.
use Rattle.std.proofs.Common.{◌≡◌, List, [], ◌∷◌, ◌++◌, ◌∙◌, ap, sym, subst, length, length-append, append-nil, Option, Some, None, refl, arith}
use Rattle.exchange_core.specs.Lane.{Lane, Bytes, idle, after_put, after_got}
use Rattle.exchange_core.specs.Laws.{KeepsUp}

pub idle_keeps_up : KeepsUp idle
idle_keeps_up = record { prefix = ([], refl); behind = omega arith; between = refl }

put_keeps_up-parts : (page : Bytes) (sent received : List Bytes) (mailbox : Option Bytes) (next : Lane) → KeepsUp (record { sent = sent; received = received; mailbox = mailbox }) → after_put page (record { sent = sent; received = received; mailbox = mailbox }) ≡ Some next → KeepsUp next
put_keeps_up-parts page sent received None next keeps e =
    let same : record { sent = sent ++ page ∷ []; received = received; mailbox = Some page } ≡ next = cc in
    let grown : sent ++ page ∷ [] ≡ received ++ page ∷ [] = ap (λ xs. xs ++ page ∷ []) keeps.between in
    subst KeepsUp same (record { prefix = (page ∷ [], sym grown); behind = omega (arith, ap length keeps.between, length-append sent (page ∷ [])); between = grown })
put_keeps_up-parts page sent received (Some held) next keeps e = cc

pub put_keeps_up : (page : Bytes) (lane next : Lane) → KeepsUp lane → after_put page lane ≡ Some next → KeepsUp next
put_keeps_up page lane next keeps e = put_keeps_up-parts page lane.sent lane.received lane.mailbox next keeps e

got_keeps_up-parts : (sent received : List Bytes) (mailbox : Option Bytes) (next : Lane) → KeepsUp (record { sent = sent; received = received; mailbox = mailbox }) → after_got (record { sent = sent; received = received; mailbox = mailbox }) ≡ Some next → KeepsUp next
got_keeps_up-parts sent received (Some page) next keeps e =
    let same : record { sent = sent; received = received ++ page ∷ []; mailbox = None } ≡ next = cc in
    subst KeepsUp same (record { prefix = ([], append-nil (received ++ page ∷ []) ∙ sym keeps.between); behind = omega (arith, ap length keeps.between); between = keeps.between })
got_keeps_up-parts sent received None next keeps e = cc

pub got_keeps_up : (lane next : Lane) → KeepsUp lane → after_got lane ≡ Some next → KeepsUp next
got_keeps_up lane next keeps e = got_keeps_up-parts lane.sent lane.received lane.mailbox next keeps e
