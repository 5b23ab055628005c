-- How a lot's pages go to its feed.
use Rattle.std.specs.Prelude.{◌≡◌, [], Option, Some, None, ⊤}
use Rattle.spool.specs.declared.place.RunReader.{RunReader}
use Rattle.spool.specs.declared.writer.RunWriter.{RunWriter}
use Rattle.page_feed.specs.Feeds.{FeedView, stopped}
use Rattle.lot_store.specs.Stores.{PagesView}
use Rattle.lot_store.specs.Lots.{LotView}

-- The reader stands at the first page of what the writer has pushed, and has read none.
pub record IsAtFirst (writer : RunWriter) (reader : RunReader) : Type 0 where
  pub at : reader.at ≡ writer.first
  pub left : reader.left ≡ writer.pages
  pub pages : reader.pages ≡ writer.pages
  pub none : reader.block ≡ 0

-- There is such a reader exactly where there is a run.
abbrev pub BeginsRun : Option RunWriter → Option RunReader → Type 0
BeginsRun None None = ⊤
BeginsRun None (Some reader) = ⊥
BeginsRun (Some writer) None = ⊥
BeginsRun (Some writer) (Some reader) = IsAtFirst writer reader

-- A feed that held nothing has all pages, and is at the first one.
pub record HandsOver (before after : PagesView) (old new : FeedView) : Type 0 where
  pub feed : new ≡ record (stopped old.room old.reach) {
    ahead = before.kept;
    run = new.run;
    open_page = before.open_page;
    blank = new.blank;
  }
  pub begins : BeginsRun before.run new.run
  pub kept : after.kept ≡ []
  pub open_page : after.open_page ≡ []
  pub run : after.run ≡ before.run
  pub room : after.room ≡ before.room

-- A lot that wasn't being read is read from its first page on.
abbrev pub BeginsAt : (before after : LotView) → Type 0
BeginsAt before after = HandsOver before.stored after.stored before.feed after.feed
