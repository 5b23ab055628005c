-- No segment is held.
use Rattle.std.proofs.Common.{ap, ◌∙◌, arith}
use Rattle.std.proofs.lemmas.List.{length-reverse}
use Rattle.page_feed.specs.contracts.feed.Feed.{the_view}
use Rattle.page_feed.specs.Feeds.{held}
use Rattle.page_feed.proofs.ListLemmas.{holds_none, none_there}
use Rattle.page_feed.proofs.feed.Feed.end.Goals as goal

pub end_reader-requires : goal.end_reader-requires
end_reader-requires c =
    let none = holds_none (the_view c.self.inside) (ap held c.self.view_is ∙ c.requires) c.self.invariant.counts in none_there c.self.inside.reader.pages none.reader

pub destroy_empty-requires-2 : goal.destroy_empty-requires-2
destroy_empty-requires-2 c =
    let none = holds_none (the_view c.self.inside) (ap held c.self.view_is ∙ c.requires) c.self.invariant.counts in omega (arith, none.ahead, length-reverse c.self.inside.ahead.items, c.self.inside.ahead.ok.0)

pub destroy_empty-requires-3 : goal.destroy_empty-requires-3
destroy_empty-requires-3 c =
    let none = holds_none (the_view c.self.inside) (ap held c.self.view_is ∙ c.requires) c.self.invariant.counts in omega (arith, none.open_page, c.self.inside.open_page.ok.0)

pub destroy_empty-requires-4 : goal.destroy_empty-requires-4
destroy_empty-requires-4 c =
    let none = holds_none (the_view c.self.inside) (ap held c.self.view_is ∙ c.requires) c.self.invariant.counts in omega (arith, none.blank, c.self.inside.blank.ok.0)
