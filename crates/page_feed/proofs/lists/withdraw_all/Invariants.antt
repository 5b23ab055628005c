use Rattle.std.proofs.Common.{◌≡◌, ◌+◌, ◌++◌, length, vec_len, vec_capacity}
use Rattle.page_feed.proofs.lists.withdraw_all.Given as goal

abbrev pub invariant-pages : goal.invariant-pages
invariant-pages l = record {
  moved : l.to.items ++ l.reader.pages ≡ l.fn.to.items ++ l.fn.reader.pages;
  len : vec_len l.to + length l.reader.pages ≡ vec_len l.fn.to + length l.fn.reader.pages;
  capacity : vec_capacity l.to ≡ vec_capacity l.fn.to;
  room : l.reader.room ≡ l.fn.reader.room;
}

abbrev pub decreases-pages : goal.decreases-pages
decreases-pages l = length l.reader.pages
