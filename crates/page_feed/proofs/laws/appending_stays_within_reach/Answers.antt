-- The law is a lemma.
use Rattle.page_feed.proofs.LawLemmas.{appending_stays}
use Rattle.page_feed.proofs.laws.appending_stays_within_reach.Goals as goal

pub returns : goal.returns
returns c = appending_stays
