-- A record that went into the open page.
use Rattle.std.proofs.Common.{◌≡◌, ℕ, ◌+◌, List, ◌++◌, Option, Some, None, sym, ap, ◌∙◌, arith, append_assoc}
use Rattle.segment_core.specs.Segments.{SegmentView, segment_sum}
use Rattle.segment_core.proofs.Weighing.{segment_sum-append}
use Rattle.flow_outside.specs.Blocks.{Blocks, BothTold}
use Rattle.paged_view.specs.Pages.{all_used_bytes}
use Rattle.spool.specs.Runs.{joined}
use Rattle.lot_store.specs.Keeping.{AddsText, MovesSegments}
use Rattle.spool.specs.Spilling.{spilled}
use Rattle.lot_store.specs.Stores.{PagesView, text}

pub moves_here : (a b : PagesView) (p : List SegmentView) → b.kept ≡ a.kept → ((h : ℕ → ℕ → ℕ) → segment_sum h b.open_page ≡ segment_sum h a.open_page) → MovesSegments a b p p
moves_here a b p kept same h =
    omega (arith, same h, ap (segment_sum h) kept, segment_sum-append h a.kept a.open_page, segment_sum-append h b.kept b.open_page)

added_at : (m : Blocks) (a b : PagesView) (bytes : List ℕ) → b.kept ≡ a.kept → b.run ≡ a.run → all_used_bytes b.open_page ≡ all_used_bytes a.open_page ++ bytes → AddsText a b bytes m m
added_at m a b bytes kept run added =
    let front : text m b ≡ all_used_bytes a.kept ++ (joined (spilled m a.run) ++ (all_used_bytes a.open_page ++ bytes)) =
    ap (λ ks. all_used_bytes ks ++ (joined (spilled m b.run) ++ all_used_bytes b.open_page)) kept
    ∙ ap (λ r. all_used_bytes a.kept ++ (joined (spilled m r) ++ all_used_bytes b.open_page)) run
    ∙ ap (λ xs. all_used_bytes a.kept ++ (joined (spilled m a.run) ++ xs)) added in
    front ∙ ap (λ xs. all_used_bytes a.kept ++ xs) (sym (append_assoc (joined (spilled m a.run)) (all_used_bytes a.open_page) bytes))
    ∙ sym (append_assoc (all_used_bytes a.kept) (joined (spilled m a.run) ++ all_used_bytes a.open_page) bytes)

pub added_here : (t : Option Blocks) (a b : PagesView) (bytes : List ℕ) → b.kept ≡ a.kept → b.run ≡ a.run → all_used_bytes b.open_page ≡ all_used_bytes a.open_page ++ bytes → BothTold t t (AddsText a b bytes)
added_here None a b bytes kept run added = tt
added_here (Some m) a b bytes kept run added = added_at m a b bytes kept run added
