use Rattle.std.proofs.Common.{◌≡◌, ◌+◌, ◌++◌, take, drop, vec_len, vec_capacity}
use Rattle.page_feed.proofs.lists.withdraw.Given as goal

abbrev pub invariant-loop : goal.invariant-loop
invariant-loop l = record {
  moved : l.to.items ≡ l.initial.to.items ++ take l.counter l.initial.reader.pages;
  len : vec_len l.to ≡ vec_len l.initial.to + l.counter;
  pages : l.reader.pages ≡ drop l.counter l.initial.reader.pages;
  capacity : vec_capacity l.to ≡ vec_capacity l.initial.to;
  room : l.reader.room ≡ l.initial.reader.room;
}
