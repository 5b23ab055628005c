use Rattle.std.proofs.Common.{◌≡◌, ℕ, ◌*◌, ◌/◌, List, ◌++◌, reverse, map, refl, sym, ap, ap₂, subst, ◌∙◌}
use Rattle.atomic_table.specs.Table.{opening}
use Rattle.segment_core.specs.Segments.{SegmentView}
use Rattle.post_table.specs.Rule.{IsPostTable}
use Rattle.post_table.specs.Seats.{ids_of, size_of}
use Rattle.post_table.specs.Views.{opening_view}
use Rattle.post_table.specs.declared.opening.Opening.{Opening}
use Rattle.post_table.proofs.OpenLemmas.{halves, opens_from}
use Rattle.post_table.proofs.post.Post.open.Goals as goal

pub new-requires : goal.new-requires
new-requires c =
    let pages : List SegmentView = c.args.spares.pages in
    let slots : List SegmentView = c.turn_over.new.to.items in
    let turned : slots ≡ reverse pages = c.turn_over.ensures.moved ∙ ap₂ (λ (a b : List SegmentView). a ++ reverse b) c.in-Some.ensures.slots.0 c.into_items-home.ensures.pages in
    let are : c.words_of.new.words.items ≡ map (λ (p : SegmentView). 2 * p.id) slots =
    c.words_of.ensures ∙ ap (λ (l : List SegmentView). map (λ (p : SegmentView). 2 * p.id) l) c.as_slice-2.ensures.value in
    let size_is : c.size_of-size.result ≡ size_of pages = c.size_of-size.ensures ∙ ap size_of (c.as_slice.ensures.value ∙ c.into_items-home.ensures.pages) in
    subst (λ (ws : List ℕ). IsPostTable c.args.w c.size_of-size.result c.words_of.new.words.items (opening ws slots (opening_view c.args.w c.size_of-size.result))) (sym c.as_slice-3.ensures.value)
    (opens_from c.args.w c.size_of-size.result c.words_of.new.words.items pages slots turned are c.requires.count size_is c.requires.sized)

pub returns-in-Ok-clause-post : goal.returns-in-Ok-clause-post
returns-in-Ok-clause-post c =
    let pages : List SegmentView = c.args.spares.pages in
    let slots : List SegmentView = c.turn_over.new.to.items in
    let turned : slots ≡ reverse pages = c.turn_over.ensures.moved ∙ ap₂ (λ (a b : List SegmentView). a ++ reverse b) c.in-Some.ensures.slots.0 c.into_items-home.ensures.pages in
    let are : c.words_of.new.words.items ≡ map (λ (p : SegmentView). 2 * p.id) slots =
    c.words_of.ensures ∙ ap (λ (l : List SegmentView). map (λ (p : SegmentView). 2 * p.id) l) c.as_slice-2.ensures.value in
    let size_is : c.size_of-size.result ≡ size_of pages = c.size_of-size.ensures ∙ ap size_of (c.as_slice.ensures.value ∙ c.into_items-home.ensures.pages) in
    let key = c.in-Ok.ensures.ok.5 in (
      refl,
      ap (λ (k : Opening). k.size) key ∙ size_is,
      ap (λ (k : Opening). map (λ (word : ℕ). word / 2) k.words.items) key ∙ ap (λ (l : List ℕ). map (λ (word : ℕ). word / 2) l) are ∙ halves slots ∙ ap ids_of turned,
      c.into_items-home.ensures.room,
    )
