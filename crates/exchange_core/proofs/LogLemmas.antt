-- The lane that a list of pages shows, of which the first n were got.
use Rattle.std.proofs.Common.{◌≡◌, ℕ, ◌+◌, ◌<◌, ◌≤◌, List, [], ◌∷◌, ◌++◌, ◌∙◌, ap, length, take, Some, None, refl, arith, length-append}
use Rattle.std.specs.Prelude.{slice_get}
use Rattle.std.proofs.lemmas.List.{take_more}
use Rattle.std.proofs.lemmas.Option.{slice_get_past, slice_get-get_or}
use Rattle.std.proofs.Math.Seq.{get_or-append_seam, take-append_seam, take-length}
use Rattle.exchange_core.specs.Lane.{Lane, Bytes, after_put, after_got}

abbrev pub logged : List Bytes → ℕ → Lane
logged sent n = record { sent = sent; received = take n sent; mailbox = slice_get sent n }

-- the element behind the list's end
last_page : (sent : List Bytes) (page : Bytes) → slice_get (sent ++ page ∷ []) (length sent) ≡ Some page
last_page sent page =
    slice_get-get_or (sent ++ page ∷ []) (length sent) page (omega (arith, length-append sent (page ∷ []))) ∙ ap Some (get_or-append_seam sent page [] page)

pub put_free : (sent : List Bytes) (n : ℕ) (page : Bytes) → n ≡ length sent → after_put page (logged sent n) ≡ Some (logged (sent ++ page ∷ []) n)
put_free sent n page e =
    rw e (let past = slice_get_past sent (length sent) (omega arith) in rw (past, last_page sent page, take-append_seam sent (page ∷ []), take-length sent) refl)

pub put_full : (sent : List Bytes) (n : ℕ) (page : Bytes) → n < length sent → after_put page (logged sent n) ≡ None
put_full sent n page h = rw (slice_get-get_or sent n page h) refl

pub got_full : (sent : List Bytes) (n : ℕ) → n < length sent → length sent ≤ n + 1 → after_got (logged sent n) ≡ Some (logged sent (n + 1))
got_full sent n h k =
    rw (slice_get-get_or sent n [] h, slice_get_past sent (n + 1) k, take_more sent n [] h) refl

pub got_empty : (sent : List Bytes) (n : ℕ) → n ≡ length sent → after_got (logged sent n) ≡ None
got_empty sent n e = rw (slice_get_past sent n (omega arith)) refl
